-- What the code's values mean. Assumes nothing.
use Rattle.std.specs.Prelude.{ℕ, ◌≡◌, List, [], None, Option, Some, unwrap_or}
use Rattle.text.specs.Literal.{utf8}
use Rattle.values.specs.Decimal.{decimal}
use Rattle.verdicts.specs.Lookup.{bracketed, braced}
use Rattle.verdicts.specs.Held.{text_at, texts_in}
use Rattle.sought.specs.declared.value.Value.{Value}

module _ (bytes : List ℕ) (lists : List (List ℕ)) where
  -- the bytes of a value, unless it is missing
  unfoldable pub value_bytes : Value → Option (List ℕ)
  value_bytes Value.Missing = None
  value_bytes (Value.Number n) = Some (decimal n)
  value_bytes (Value.Text p) = Some (text_at bytes p)
  value_bytes Value.Unknown = Some (utf8 "unknown")
  value_bytes Value.Trusted = Some (utf8 "trusted")
  value_bytes Value.NotTrusted = Some (utf8 "not-trusted")
  value_bytes (Value.List r) = Some (bracketed (texts_in bytes lists r))
  value_bytes (Value.Features r) = Some (braced (texts_in bytes lists r))

  -- what is written of it: nothing where it is missing
  unfoldable pub value_text : Value → List ℕ
  value_text v = unwrap_or (value_bytes v) []

-- A value means what is looked up, whatever the bytes and the table of places.
abbrev pub Means : Value → ((bytes : List ℕ) → (lists : List (List ℕ)) → Option (List ℕ)) → Type 0
Means v looked = (bytes : List ℕ) (lists : List (List ℕ)) → value_bytes bytes lists v ≡ looked bytes lists
