-- What only the code of Message needs. Assumes nothing.
use Rattle.std.specs.Prelude.{Bool, true, false}
use Rattle.sought.specs.declared.value.Value.{Value}

unfoldable pub no_value : Value → Bool
no_value Value.Missing = true
no_value (Value.Number n) = false
no_value (Value.Text p) = false
no_value Value.Unknown = false
no_value Value.Trusted = false
no_value Value.NotTrusted = false
no_value (Value.List r) = false
no_value (Value.Features r) = false
