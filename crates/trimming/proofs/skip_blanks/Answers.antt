-- `trimming::skip_blanks` meets its contract: the blanks that stand at the front go, one after the other. Assumes nothing.
use Rattle.std.specs.Prelude.{None, Option, Some}
use Rattle.std.specs.List.{AllWithin, HoldsAt}
use Rattle.std.specs.Option.{MatchOption, unwrap_or}
use Rattle.std.proofs.lemmas.Iterator.{IsFirst-from_position, YieldsList-from_slice}
use Prim.Native.Nat.{ℕ, zero, suc, ◌+◌, ◌≤◌, ◌<◌}
use native.Mathlib.Omega.{arith}
use mathlib.Core.Path.{◌≡◌, refl}
use mathlib.Core.List.{List, [], ◌∷◌}
use lib.ListN.{length, take, drop}
use borrow.Author.Rules.{rules}
use borrow.Author.Tests.{tests}
use Rattle.text.specs.Trim.{white_bytes, size_of, trimmed_front}
use Rattle.text.proofs.TrimLaws.{blank_on}
use Rattle.trimming.proofs.skip_blanks.Goals as goal

abbrev Blank : ℕ → Type 0
Blank x = size_of (take 2 white_bytes) (x ∷ []) ≡ 0 → ⊥

passed : (s : List ℕ) (n : ℕ) → n ≤ length s → AllWithin Blank s 0 n → trimmed_front (drop n s) ≡ trimmed_front s
passed s zero h b = refl
passed s (suc n) h b =
    let e : suc n ≡ n + 1 = omega arith in
    rw e (blank_on s _ n _ refl (b n 0 (omega arith) (omega arith)) (omega arith) (passed s n (omega arith) (λ k d l g. b k d l (omega arith))))

first : (s : List ℕ) (r : Option ℕ) → MatchOption r (AllWithin Blank s 0 (length s)) (λ i. (i < length s) × HoldsAt (λ x. Unit {0}) s i × AllWithin Blank s 0 i)
    → trimmed_front (drop (unwrap_or r (length s)) s) ≡ trimmed_front s
first s None b = passed s (length s) (omega arith) b
first s (Some i) b = passed s i (omega arith) b.2

pub returns-clause-s_value : goal.returns-clause-s_value
returns-clause-s_value c =
    let p = first c.args.s.now c.position.result (IsFirst-from_position _ _ _ (λ x. Unit {0}) Blank c.position.ensures.ran (YieldsList-from_slice c.args.s.now cc) (λ x q k. tt) (λ x q k. search (rules, tests))) in
    rw c.unwrap_or.ensures p
