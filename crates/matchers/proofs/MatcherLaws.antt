-- Laws of matchers for the proofs of code: what a matcher is, from its first byte and what was found behind it. For `search` to use. Assumes nothing.
use Rattle.std.specs.Prelude.{Err, None, Ok, Option, Some, ok_or}
use Prim.Native.Nat.{ℕ, ◌+◌, ◌-◌, ◌≤◌, ◌<◌}
use mathlib.Core.Path.{◌≡◌, refl, sym, ◌∙◌}
use mathlib.Core.Bool.{Bool, true, false}
use mathlib.Core.List.{List, [], ◌∷◌}
use native.Mathlib.Omega.{arith}
use lib.IntN.{ℤ}
use lib.ListN.{get_or}
use mir.Syntax.{w64}
use mir.Val.{SFits, to_z, of_z}
use mir.ValLaws.{to_z-of_z}
use borrow.Author.Tests.{ne_eqb, le-ltb, lt-ltb}
use Rattle.values.specs.Numbers.{signed}
use Rattle.text.specs.Parts.{span, starts_with, ends_with}
use Rattle.text.specs.declared.parts.Span.{Span}
use Rattle.text.proofs.Scan.{and_false}
use Rattle.script.specs.Answers.{first_of, Answer}
use Rattle.script.specs.Pieces.{place, bytes, begins, ends, trim, inner}
use Rattle.script.specs.Expectations.{numbered, pattern, comparison, matcher}
use Rattle.script.specs.declared.records.Matcher.{Matcher}
use Rattle.script.specs.declared.records.Matcher.TheVariants.{Exact, Regex, GreaterThan, LessThan, GreaterOrEqual, LessOrEqual}
use Rattle.script.specs.declared.records.Place.{Place}
use Rattle.pieces.proofs.BehindLaws.{front_begins, front_behind, front_is, one_front, begins-is, behind-some, behind-none}
use Rattle.script.specs.declared.refusals.Reason.{Reason}
use Rattle.script.specs.declared.refusals.Reason.TheVariants.{MatcherNumberUnreadable}
use Rattle.pieces.proofs.BehindLaws.{byte_fits}

-- A number that was read, or the refusal, is what the definition makes of it.
numbered-ok : (case : ℤ → Matcher) (o : Option ℤ) (z : ℤ) → ok_or o MatcherNumberUnreadable ≡ Ok z → Ok (case z) ≡ numbered case o
unfolding numbered
numbered-ok case None z e = cc
numbered-ok case (Some y) z e = cc

numbered-err : (case : ℤ → Matcher) (o : Option ℤ) (why : Reason) → ok_or o MatcherNumberUnreadable ≡ Err why → Err why ≡ numbered case o
unfolding numbered
numbered-err case None why e = cc
numbered-err case (Some y) why e = cc

-- The same of code that hands the refusal on by `?`. A signed number goes through the machine's bits and comes back.
module _ (case : ℤ → Matcher) (whole : Answer Matcher) (o : Option ℤ) (w : whole ≡ numbered case o) (i : Answer ℤ) (q : i ≡ ok_or o MatcherNumberUnreadable) where
  pub number_read : (z : ℤ) → i ≡ Ok z → SFits w64 z → Ok (case (to_z w64 (of_z w64 z))) ≡ whole
  number_read z e h = rw to_z-of_z (numbered-ok case o z (sym q ∙ e) ∙ sym w)

  pub number-bad : (why : Reason) → i ≡ Err why → (r : Answer Matcher) → r ≡ Err why → r ≡ whole
  number-bad why e r k = k ∙ numbered-err case o why (sym q ∙ e) ∙ sym w

module _ (text : List ℕ) (s : Span) where
  -- the number behind a sign of n bytes
  abbrev behind_sign : ℕ → Option ℤ
  behind_sign n = signed (bytes text (trim text (span (s.start + n) s.end)))

  module _ (x : get_or (bytes text s) 0 0 ≡ 62) (r : Bool) (e : r ≡ starts_with (62 ∷ 61 ∷ []) (bytes text s)) where
    pub greater_or_equal : r ≡ true → matcher text s ≡ numbered GreaterOrEqual (behind_sign 2)
    unfolding matcher pattern comparison first_of
    greater_or_equal t = rw (front_begins text s 62 (sym x) "/" refl, behind-some text s ">=" r e t)

    pub greater_than : r ≡ false → matcher text s ≡ numbered GreaterThan (behind_sign 1)
    unfolding matcher pattern comparison first_of
    greater_than f = simp (front_begins text s 62 (sym x), front_behind text s 62 (sym x), behind-none text s ">=" r e f, front_is text s 62 (sym x) ">" 62 refl refl refl)

  module _ (x : get_or (bytes text s) 0 0 ≡ 60) (r : Bool) (e : r ≡ starts_with (60 ∷ 61 ∷ []) (bytes text s)) where
    pub less_or_equal : r ≡ true → matcher text s ≡ numbered LessOrEqual (behind_sign 2)
    unfolding matcher pattern comparison first_of
    less_or_equal t = simp (front_begins text s 60 (sym x), front_behind text s 60 (sym x), behind-some text s "<=" r e t)

    pub less_than : r ≡ false → matcher text s ≡ numbered LessThan (behind_sign 1)
    unfolding matcher pattern comparison first_of
    less_than f = simp (front_begins text s 60 (sym x), front_behind text s 60 (sym x), behind-none text s "<=" r e f, front_is text s 60 (sym x) "<" 60 refl refl refl)

  module _ (x : get_or (bytes text s) 0 0 ≡ 47) where
    no_pattern : (l : Place) → l ≡ place s → pattern text s ≡ None → Ok (Exact l) ≡ matcher text s
    unfolding matcher comparison first_of
    no_pattern l k p = simp (front_behind text s 47 (sym x), k, p)

    module _ (r : Bool) (e : r ≡ ends_with (bytes text s) 47) (l : Place) where
      pub not_closed : r ≡ false → l ≡ place s → Ok (Exact l) ≡ matcher text s
      unfolding pattern ends
      not_closed f k = no_pattern l k (rw (sym e ∙ f, and_false (begins text "/" s)))

      pub one_slash : s.end - s.start ≤ 1 → l ≡ place s → Ok (Exact l) ≡ matcher text s
      unfolding pattern ends
      one_slash h k = no_pattern l k (rw (le-ltb 1 (s.end - s.start) h, and_false (ends text s 47), and_false (begins text "/" s)))

      pub closed : r ≡ true → 1 < s.end - s.start → l ≡ place (span (s.start + 1) (s.end - 1)) → Ok (Regex l) ≡ matcher text s
      unfolding matcher pattern ends inner first_of
      closed t h k =
          rw (
            k,
            begins-is text s "/" true (sym (one_front 47 (bytes text s) x refl)),
            sym e ∙ t,
            lt-ltb 1 (s.end - s.start) h,
          )

  pub exact : (x : ℕ) → x ≡ get_or (bytes text s) 0 0 → (x ≡ 47 → ⊥) → (x ≡ 62 → ⊥) → (x ≡ 60 → ⊥) → (l : Place) → l ≡ place s → Ok (Exact l) ≡ matcher text s
  unfolding matcher pattern comparison first_of
  exact x e a b c l k =
      rw (
        k,
        front_begins text s x e "/" (ne_eqb x 47 a),
        front_behind text s x e ">=" (ne_eqb x 62 b),
        front_behind text s x e "<=" (ne_eqb x 60 c),
        front_behind text s x e ">" (ne_eqb x 62 b),
        front_behind text s x e "<" (ne_eqb x 60 c),
      )

pub ruleset signs = (greater_or_equal, greater_than, less_or_equal, less_than)

pub ruleset matcher_laws = (byte_fits, number_read, number-bad, exact, greater_or_equal, greater_than, less_or_equal, less_than)
