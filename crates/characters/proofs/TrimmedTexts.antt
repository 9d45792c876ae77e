-- THE THEOREM OF TRIMMING, of well-formed texts (TrimTheorem.antt has it of the encodings of scalar values). Assumes nothing.
use Prim.Native.Nat.{ℕ}
use mathlib.Core.Path.{◌≡◌, ap, ◌∙◌}
use mathlib.Core.Bool.{true}
use mathlib.Core.List.{List}
use Rattle.characters.proofs.TrimTheorem.{trimmed_encodings, both_scalars}
use Rattle.characters.proofs.Unicode.{encodings_are_well_formed, well_formed_are_encodings}
use Rattle.text.specs.Utf8.{well_formed}
use Rattle.text.specs.Unicode.{encoded_all, scalars}
use Rattle.text.specs.Trim.{scalars_trimmed, trimmed}

-- of a well-formed text: its scalar values are trimmed
pub trimmed-text : (s : List ℕ) → well_formed s ≡ true → trimmed s ≡ encoded_all (scalars_trimmed (scalars s))
trimmed-text s w = let d = well_formed_are_encodings s w in ap trimmed d.is ∙ trimmed_encodings (scalars s) d.valid

-- and what is left is well formed
pub trimmed_is_well_formed : (s : List ℕ) → well_formed s ≡ true → well_formed (trimmed s) ≡ true
trimmed_is_well_formed s w =
    let d = well_formed_are_encodings s w in
    ap well_formed (trimmed-text s w) ∙ encodings_are_well_formed (scalars_trimmed (scalars s)) (both_scalars (scalars s) d.valid)
