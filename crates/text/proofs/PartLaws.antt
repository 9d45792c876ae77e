-- The laws of the parts between separators that the proofs of callers cite: the parts from a place on are the part there and, where more follow, the
-- parts from behind its separator. Assumes nothing.
use Prim.Native.Nat.{ℕ, ◌+◌, ◌-◌, ◌≤◌, ◌<◌}
use mathlib.Core.Path.{◌≡◌, refl, sym, ap, ◌∙◌}
use mathlib.Core.Bool.{Bool, true, false}
use mathlib.Core.List.{List, [], ◌∷◌}
use native.Mathlib.Omega.{arith}
use native.Mathlib.Nat.{add-sub_cancel_left}
use lib.Dec.{eqb}
use lib.ListN.{length, drop, length-drop}
use lib.Seq.{drop-drop}
use Rattle.text.proofs.Scan.{shift, never}
use Rattle.std.specs.Prelude.{if◌then◌else◌}
use Rattle.text.specs.declared.parts.Part.{Part}
use Rattle.text.specs.Parts.{part_of, part_from, part_at, split_from}

-- the parts from `at` on
abbrev pub parts_at : (b : ℕ) → List ℕ → (at : ℕ) → List Part
parts_at b s at = split_from b at at (drop at s)

-- what is known of the part p from a place on, and of the parts ls from there
record Here (b start at : ℕ) (rest : List ℕ) (p : Part) (ls : List Part) : Type 0 where
  begins : p.start ≡ start
  forward : at ≤ p.end
  inside : p.end ≤ at + length rest
  short : p.more ≡ true → p.end < at + length rest
  more : p.more ≡ true → ls ≡ p ∷ split_from b (p.end + 1) (p.end + 1) (drop (p.end + 1 - at) rest)
  last : p.more ≡ false → ls ≡ p ∷ []

here : (b start : ℕ) (rest : List ℕ) (at : ℕ) → Here b start at rest (part_from b start at rest) (split_from b start at rest)
unfolding part_from split_from
here b start [] at = record { begins = refl; forward = omega arith; inside = omega arith; short = λ e. never (sym e); more = λ e. never (sym e); last = λ e. refl }
here b start (x ∷ rest) at = go (eqb x b) (here b start rest (at + 1))
  where
    go : (t : Bool) → Here b start (at + 1) rest (part_from b start (at + 1) rest) (split_from b start (at + 1) rest)
        → Here b start at (x ∷ rest) (if t then part_of start at true else part_from b start (at + 1) rest)
        (if t then part_of start at true ∷ split_from b (at + 1) (at + 1) rest else split_from b start (at + 1) rest)
    go true ih =
        record { begins = refl; forward = omega arith; inside = omega arith; short = λ e. omega arith; more = λ e. rw (add-sub_cancel_left at 1); last = λ e. never e }
    go false ih =
        let p : Part = part_from b start (at + 1) rest in
        record {
          begins = ih.begins;
          forward = omega (arith, ih.forward);
          inside = omega (arith, ih.inside);
          short = λ e. omega (arith, ih.short e);
          more = λ e. ih.more e ∙ ap (λ (r : List ℕ). p ∷ split_from b (p.end + 1) (p.end + 1) r) (shift x rest at (p.end + 1) (omega (arith, ih.forward)));
          last = ih.last;
        }

-- what a walk needs of the part at a place that is not past the end
pub record Known (b : ℕ) (s : List ℕ) (at : ℕ) (p : Part) : Type 0 where
  pub begins : p.start ≡ at
  pub forward : at ≤ p.end
  pub inside : p.end ≤ length s
  pub short : p.more ≡ true → p.end < length s
  pub more : p.more ≡ true → parts_at b s at ≡ p ∷ parts_at b s (p.end + 1)
  pub last : p.more ≡ false → parts_at b s at ≡ p ∷ []

pub known : (b : ℕ) (s : List ℕ) (at : ℕ) (p : Part) → at ≤ length s → p ≡ part_at b s at → Known b s at p
unfolding part_at
known b s at p h q =
    let k : Here b at at (drop at s) p (parts_at b s at) = rw q (here b at (drop at s) at) in
    let d = length-drop at s in
    let f = k.forward in
    let e : at + (p.end + 1 - at) ≡ p.end + 1 = omega arith in
    record {
      begins = k.begins;
      forward = f;
      inside = omega (arith, k.inside);
      short = λ t. omega (arith, k.short t);
      more = λ t. k.more t ∙ ap (λ (r : List ℕ). p ∷ split_from b (p.end + 1) (p.end + 1) r) (drop-drop (p.end + 1 - at) at s ∙ ap (λ (n : ℕ). drop n s) e);
      last = k.last;
    }
