-- A test of every expectation of a range, one after another; and the tests of refusals 31 and 34 as such. Assumes nothing.
use Rattle.std.specs.Prelude.{None, Option, Some}
use mathlib.Core.Path.{◌≡◌, refl, sym, ◌∙◌}
use mathlib.Core.Bool.{Bool, true, false, not, ◌&&◌}
use Rattle.std.specs.List.{list_all}
use mathlib.Core.List.{List, [], ◌∷◌, map}
use Prim.Native.Nat.{ℕ, ◌<◌}
use native.Mathlib.Omega.{arith}
use native.Mathlib.Decide.{dec_le}
use lib.ListN.{length}
use borrow.Author.Tests.{lt-ltb, le-ltb, le-leb, lt-leb}
use Rattle.text.specs.Base.{◌&◌}
use Rattle.script.specs.declared.records.Expectation.{Expectation}
use Rattle.verdicts.specs.Expected.{Expected}
use Rattle.verdicts.specs.Held.{expected_of, expect_in}
use Rattle.verdicts.specs.Lookup.{present_bytes}
use Rattle.subjects.specs.Fits.{fits}
use Rattle.judging.specs.Calls.{said, too_long}
use Rattle.judging.specs.Judge.{all_in}

both : (t a b : Bool) → a ≡ b → (t && a) ≡ t & b
both true a b e = e
both false a b e = refl

-- ---- 31 and 34

abbrev pub in_text : (text : List ℕ) → Expectation → Bool
in_text text e = expect_in (length text) e.expect

pub all_in_every : (text : List ℕ) (es : List Expectation) → list_all (in_text text) es ≡ all_in text es
unfolding all_in
all_in_every text [] = refl
all_in_every text (e ∷ es) = both (in_text text e) _ _ (all_in_every text es)

module _ (text : List ℕ) (room : ℕ) (g : Expected → Option (List ℕ)) where
  abbrev pub has_room : Expectation → Bool
  has_room e = fits room (g (expected_of text e.expect))

  one_fits : (o : Option (List ℕ)) (later : List (Option (List ℕ))) → not (too_long room (o ∷ later)) ≡ fits room o & not (too_long room later)
  unfolding too_long fits present_bytes
  one_fits None later = let z = le-leb 0 room (omega arith) in rw z
  one_fits (Some value) later = elim (dec_le (length value) room) [
    | yes h ↦ let a = le-ltb room (length value) h in let b = le-leb (length value) room h in rw (a, b)
    | no h ↦
        let k : room < length value = omega arith in
        let a = lt-ltb room (length value) k in
        let b = lt-leb (length value) room k in
        rw (a, b)
  ]

  no_values : not (too_long room []) ≡ true
  unfolding too_long
  no_values = refl

  pub all_fit_every : (es : List Expectation) → list_all has_room es ≡ not (too_long room (map g (said text es)))
  unfolding said
  all_fit_every [] = sym no_values
  all_fit_every (e ∷ es) = both (has_room e) _ _ (all_fit_every es) ∙ sym (one_fits (g (expected_of text e.expect)) (map g (said text es)))
