-- What a comment says that begins with the word of a key, given as bytes. Assumes nothing.
use Rattle.std.specs.Prelude.{ℕ, ◌+◌, List, length, if◌then◌else◌}
use Rattle.text.specs.Parts.{span, starts_with}
use Rattle.text.specs.declared.parts.Span.{Span}
use Rattle.script.specs.Pieces.{bytes, trim}
use Rattle.script.specs.declared.roles.Key.{Key}
use Rattle.script.specs.declared.roles.Saying.TheVariants.{Known}
use Rattle.script.specs.declared.roles.Role.{Role}
use Rattle.script.specs.declared.roles.Role.TheVariants.{Nothing, Says}

unfoldable pub said : (text : List ℕ) → Span → (word : List ℕ) → Key → Role
said text c word k =
    let value = trim text (span (c.start + length word) c.end) in
    if starts_with word (bytes text c) then Says (Known k value) else Nothing
