-- Tables of so many blank records are lent. Assumes nothing.
use Prim.Native.Nat.{ℕ}
use mathlib.Core.Path.{◌≡◌, ap, ◌∙◌}
use mathlib.Core.List.{List, [], ◌∷◌}
use lib.ListN.{replicate}
use Rattle.script.specs.Reading.{read_into}
use Rattle.script.specs.declared.records.Counts.{Counts}
use Rattle.script.specs.declared.records.Entry.{Entry}
use Rattle.script.specs.declared.records.Expectation.{Expectation}
use Rattle.slots.specs.Blank.{blank_entry, blank_expectation}
use Rattle.read.specs.Read.{lent_of, script_or}
use Rattle.calls.specs.CallRows.{calls_of}
use Rattle.ran.specs.Ran.{Ran, plain_left, ran_of}
use Rattle.blanks.proofs.OwnLaws.{own-lent}
use Rattle.run_alone.specs.Alone.{ran_alone}

module _ (es : List Entry) (is : List (List ℕ)) (xs : List Expectation) (bs : List ℕ)
    (e₁ : es ≡ replicate 256 blank_entry) (e₂ : is ≡ replicate 1024 (0 ∷ 0 ∷ [])) (e₃ : xs ≡ replicate 1024 blank_expectation) (e₄ : bs ≡ replicate 32768 0) where
  pub is-alone : (text : List ℕ) (rows : List (List ℕ)) (bytes : List ℕ) (lists : List (List ℕ)) (verdicts : List ℕ) (scratch answers : ℕ) (r : Ran)
      → r ≡ ran_of answers scratch rows (script_or (read_into (lent_of es is xs bs) text)) (plain_left text verdicts (calls_of bytes lists rows))
      → r ≡ ran_alone text rows bytes lists verdicts scratch answers
  unfolding ran_alone
  is-alone text rows bytes lists verdicts scratch answers r e =
      e ∙ ap (λ (c : Counts). ran_of answers scratch rows (script_or (read_into c text)) (plain_left text verdicts (calls_of bytes lists rows))) (own-lent es is xs bs e₁ e₂ e₃ e₄)
