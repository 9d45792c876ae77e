-- Document 01, "Lines and words" and "The script": the values that stand in the store, and data. Assumes nothing.
use Rattle.std.specs.Prelude.{ℕ, List, [], ◌∷◌, eqb, if◌then◌else◌, Err, Ok, Some}
use Rattle.text.specs.Base.{QUOTE}
use Rattle.values.specs.Hex.{hex_decoded}
use Rattle.values.specs.Unquote.{unquoted}
use Rattle.text.specs.declared.parts.Span.{Span}
use Rattle.script.specs.Answers.{◌>>=◌, first_of, Answer}
use Rattle.script.specs.Pieces.{bytes, behind}
use Rattle.script.specs.declared.refusals.Reason.TheVariants.{DataUnknown}

-- The value rules of an edition: what becomes of a value that is unquoted, and of what follows `x"`. Editions differ in nothing else.
pub record Rules : Type 0 where
  pub unquote : List ℕ → Answer (List ℕ)
  pub hex : List ℕ → Answer (List ℕ)

-- what follows `x"`, without the quotes at its end
unfoldable pub without_quotes : List ℕ → List ℕ
without_quotes [] = []
without_quotes (x ∷ s) =
    let rest = without_quotes s in
    let kept = x ∷ rest in
    elim rest [ [] ↦ (if eqb x QUOTE then [] else (x ∷ [])) | y ∷ ys ↦ kept ]

-- the rules of document 01, which refuse nothing
abbrev pub plain_rules : Rules
plain_rules = record { unquote = λ s. Ok (unquoted s); hex = λ s. Ok (hex_decoded (without_quotes s)) }

-- data as a script has it: the bytes themselves, or the name of a file
pub data Framed : Type 0 where
  inline : List ℕ → Framed
  file_ref : Span → Framed

unfoldable pub inline_of : Answer (List ℕ) → Answer Framed
inline_of (Ok bytes) = Ok (inline bytes)
inline_of (Err n) = Err n

-- Data is hex behind `x"`, or a file's name behind `@file:`. 11: it is neither.
unfoldable pub framed : Rules → (text : List ℕ) → Span → Answer Framed
framed rules text value =
    first_of
    ((do
      hex ← behind text "x\"" value
      Some (inline_of (rules.hex (bytes text hex))))
    ∷ (do
      name ← behind text "@file:" value
      Some (Ok (file_ref name)))
    ∷ [])
    (Err DataUnknown)
