-- A loop over expectations, one after another: a judging that stores, counts and looks up as it goes.
-- Assumes nothing.
use native.Mathlib.Nat.{zero-add}
use Rattle.std.specs.Prelude.{None, Option, Some}
use mathlib.Core.Path.{◌≡◌, refl, sym, ap, ◌∙◌}
use mathlib.Core.Bool.{false}
use mathlib.Core.List.{List, [], ◌∷◌, map}
use Prim.Native.Nat.{ℕ, suc, ◌+◌, ◌≤◌, ◌<◌}
use native.Mathlib.Omega.{arith}
use native.Mathlib.Numerals.{add-one}
use lib.ListN.{length, drop, get_or, set, length-set, length-drop, drop_of_length-le}
use lib.Seq.{drop-cons}
use lib.Dec.{ltb}
use borrow.Author.Tests.{le-leb, ltb-false}
use Rattle.text.specs.Base.{overlaid}
use Rattle.script.specs.declared.records.Expectation.{Expectation}
use Rattle.verdicts.specs.Expected.{Expected}
use Rattle.verdicts.specs.Verdicts.{code}
use Rattle.verdicts.specs.Held.{expected_of}
use Rattle.verdicts.specs.declared.Verdict.{Verdict}
use Rattle.verdicts.specs.Lookup.{present_bytes}
use Rattle.written.specs.Written.{written_at}
use Rattle.written.proofs.WrittenLaws.{written_none, written_one, written_twice}
use Rattle.slots.specs.Blank.{blank_expectation}
use Rattle.tallies.specs.declared.tally.Counts.{Counts}
use Rattle.tallies.specs.Tally.{added, added_all}
use Rattle.judging.specs.Calls.{said, too_long}
use Rattle.judging.specs.Scratch.{overwritten_by, overwritten}
use Rattle.tallies.proofs.Counting.{all_added, count_most}
use Rattle.judging.proofs.Orders.{neither}

-- what is written at the front of a list that is long enough
front_written : (xs lent left : List ℕ) → length xs ≤ length lent → left ≡ written_at 0 xs lent → left ≡ overlaid xs lent
unfolding overlaid written_at
front_written xs lent left h e = rw (le-leb (length xs) (length lent) h) (rw (zero-add (length xs)) at e)

-- ---- lengths

pub codes_length : (text : List ℕ) (f : Expected → Verdict) (es : List Expectation) → length (map code (map f (said text es))) ≡ length es
unfolding said
codes_length text f [] = refl
codes_length text f (e ∷ es) = ap suc (codes_length text f es)

-- no expectations say nothing
nothing_said : (text : List ℕ) → said text [] ≡ []
unfolding said
nothing_said text = refl

-- ---- the scratch

-- where none of some values is too long, the first is not
pub first_fits : (scratch : ℕ) (value : List ℕ) (values : List (Option (List ℕ))) → too_long scratch (Some value ∷ values) ≡ false → length value ≤ scratch
unfolding too_long
first_fits scratch value values e = ltb-false scratch (length value) (neither (ltb scratch (length value)) _ e).0

pub later_fit : (scratch : ℕ) (value : Option (List ℕ)) (values : List (Option (List ℕ))) → too_long scratch (value ∷ values) ≡ false → too_long scratch values ≡ false
unfolding too_long
later_fit scratch None values e = e
later_fit scratch (Some value) values e = (neither (ltb scratch (length value)) _ e).1

-- a value is written over the last, a missing one is not
pub overlaid_present : (o : Option (List ℕ)) (scratch : List ℕ) → overlaid (present_bytes o) scratch ≡ overwritten_by o scratch
unfolding overwritten_by present_bytes overlaid
overlaid_present None scratch = rw (le-leb 0 (length scratch) (omega arith)) refl
overlaid_present (Some value) scratch = refl

present_none : length (present_bytes None) ≡ 0
unfolding present_bytes
present_none = refl

present_some : (value : List ℕ) → present_bytes (Some value) ≡ value
unfolding present_bytes
present_some value = refl

-- where none of the values left is too long, the next is not, and none of those after it
module _ (text : List ℕ) (es : List Expectation) (i : ℕ) (more : i < length es) where
  -- the expectation that comes next, and what it says
  abbrev pub next_of : Expected
  next_of = expected_of text (get_or es i blank_expectation).expect

  left_said : said text (drop i es) ≡ next_of ∷ said text (drop (i + 1) es)
  unfolding said
  left_said = ap (map (λ (e : Expectation). expected_of text e.expect)) (drop-cons es i blank_expectation more ∙ ap (λ (n : ℕ). get_or es i blank_expectation ∷ drop n es) (sym (add-one i)))

  pub next_fits : (g : Expected → Option (List ℕ)) (room : ℕ) → too_long room (map g (said text (drop i es))) ≡ false
      → (length (present_bytes (g next_of)) ≤ room) × (too_long room (map g (said text (drop (i + 1) es))) ≡ false)
  next_fits g room e =
      let h = ap (λ (l : List Expected). too_long room (map g l)) (sym left_said) ∙ e in
      (one (g next_of) _ h, later_fit room (g next_of) _ h)
    where
      one : (o : Option (List ℕ)) (later : List (Option (List ℕ))) → too_long room (o ∷ later) ≡ false → length (present_bytes o) ≤ room
      one None later e = omega (arith, present_none)
      one (Some value) later e = rw (present_some value) (first_fits room value later e)

-- ---- a judging on its way

-- i expectations are judged by f, and looked up by g. `old`, `begun` and `c₀` are the slots, the scratch and the counts as they were.
pub record Judging-on (text : List ℕ) (es : List Expectation) (f : Expected → Verdict) (g : Expected → Option (List ℕ)) (old begun : List ℕ) (c₀ : Counts)
    (slots scratch : List ℕ) (c : Counts) (i : ℕ) : Type 0 where
  pub in_range : i ≤ length es
  pub in_list : length es ≤ length slots
  pub few_passed : c.passed ≤ 0x8000 + i
  pub few_failed : c.failed ≤ 0x8000 + i
  pub few_undecided : c.undecided ≤ 0x8000 + i
  pub counted : added_all (map f (said text es)) c₀ ≡ added_all (map f (said text (drop i es))) c
  pub stored : written_at 0 (map code (map f (said text es))) old ≡ written_at i (map code (map f (said text (drop i es)))) slots
  pub written : overwritten (map g (said text es)) begun ≡ overwritten (map g (said text (drop i es))) scratch

module _ (text : List ℕ) (es : List Expectation) (f : Expected → Verdict) (g : Expected → Option (List ℕ)) (old begun : List ℕ) (c₀ : Counts) where
  pub judging_begun : length es ≤ length old → c₀.passed ≤ 0x8000 → c₀.failed ≤ 0x8000 → c₀.undecided ≤ 0x8000 → Judging-on text es f g old begun c₀ old begun c₀ 0
  judging_begun b x y z = record {
    in_range = omega arith;
    in_list = b;
    few_passed = omega arith;
    few_failed = omega arith;
    few_undecided = omega arith;
    counted = refl;
    stored = refl;
    written = refl;
  }

  module _ (slots scratch : List ℕ) (c : Counts) (i : ℕ) (s : Judging-on text es f g old begun c₀ slots scratch c i) where
    module _ (more : i < length es) where
      pub judging_on : (v : Verdict) → v ≡ f (next_of text es i more) → (b : ℕ) → b ≡ code v → (after : List ℕ) → after ≡ overwritten_by (g (next_of text es i more)) scratch → (d : Counts) → d ≡ added v c
          → Judging-on text es f g old begun c₀ (set slots i b) after d (i + 1)
      unfolding added_all overwritten
      judging_on v ev b eb after ea d ed =
          let next : Expected = next_of text es i more in
          let rest : List Expected = said text (drop (i + 1) es) in
          rw (ed, ea, eb, ev)
          (record {
            in_range = omega arith;
            in_list = omega (arith, s.in_list, length-set slots i (code (f next)));
            few_passed = omega (arith, count_most (f next) c, s.few_passed);
            few_failed = omega (arith, count_most (f next) c, s.few_failed);
            few_undecided = omega (arith, count_most (f next) c, s.few_undecided);
            counted = s.counted ∙ ap (λ (l : List Expected). added_all (map f l) c) (left_said text es i more) ∙ sym (all_added (map f rest) (f next) c);
            stored = s.stored
                ∙ ap (λ (l : List Expected). written_at i (map code (map f l)) slots) (left_said text es i more)
                ∙ sym (written_twice i (code (f next) ∷ []) (map code (map f rest)) slots (omega (arith, s.in_list, codes_length text f (drop (i + 1) es), length-drop (i + 1) es)))
                ∙ ap (written_at (i + 1) (map code (map f rest))) (written_one i (code (f next)) slots (omega (arith, s.in_list)));
            written = s.written ∙ ap (λ (l : List Expected). overwritten (map g l) scratch) (left_said text es i more);
          })

    -- all are judged
    module _ (all : length es ≤ i) where
      said_none : said text (drop i es) ≡ []
      said_none = ap (said text) (drop_of_length-le es all) ∙ nothing_said text

      pub judging_counted : c ≡ added_all (map f (said text es)) c₀
      unfolding added_all
      judging_counted = sym (s.counted ∙ ap (λ (l : List Expected). added_all (map f l) c) said_none)

      pub judging_stored : length es ≤ length old → slots ≡ overlaid (map code (map f (said text es))) old
      judging_stored h = front_written (map code (map f (said text es))) old slots (omega (arith, codes_length text f es)) (sym (s.stored ∙ ap (λ (l : List Expected). written_at i (map code (map f l)) slots) said_none ∙ written_none i slots))

      pub judging_written : scratch ≡ overwritten (map g (said text es)) begun
      unfolding overwritten
      judging_written = sym (s.written ∙ ap (λ (l : List Expected). overwritten (map g l) scratch) said_none)
