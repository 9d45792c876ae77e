-- Laws for `stamped`. Assumes nothing.
use Rattle.std.specs.Prelude.{Err, None, Ok, Option, Some}
use Prim.Native.Nat.{ℕ, ◌+◌, ◌≤◌}
use mathlib.Core.Path.{◌≡◌, sym, ap, ◌∙◌, refl}
use mathlib.Core.Bool.{Bool, true, false}
use mathlib.Core.List.{List}
use native.Mathlib.Omega.{arith}
use Rattle.text.specs.declared.parts.Span.{Span}
use Rattle.script.specs.Pieces.{bytes}
use borrow.Author.Tests.{not-true, not-false}
use Rattle.text.specs.Parts.{span, starts_with, pair_position}
use Rattle.text.proofs.LiteralLaws.{codes}
use Rattle.script.specs.Timestamps.{stamped_as, stamped_at, stamped}
use Rattle.script.specs.Inside.{In}
use Rattle.script.proofs.Inside.{length-bytes}
use Rattle.pieces.proofs.BehindLaws.{behind-none, behind-some, behind_in}
use Rattle.script.proofs.RolesInside.{pair_inside}
use Rattle.script.specs.declared.refusals.Reason.TheVariants.{TimestampWithoutMs}
use Rattle.script.specs.Answers.{Answer}
use Rattle.script.specs.declared.roles.Stamped.{Stamped}

module _ (text : List ℕ) (p : Span) (b : Bool) (e : b ≡ starts_with (codes "@") (bytes text p)) where
  pub bare : b ≡ false → Ok (stamped_as None p) ≡ stamped text p
  unfolding stamped
  bare f = rw (behind-none text p "@" b e f, stamped)

  module _ (t : b ≡ true) where
    abbrev pub rest : Span
    rest = span (p.start + 1) p.end

    pub rest_in : In text p → In text (span (p.start + 1) p.end)
    rest_in i = behind_in text p.start p.end 1 b (codes "@") e t i refl

    pub forward : In text p → p.start + 1 ≤ p.end
    forward i = (rest_in i).forward

    module _ (f : Option ℕ) (g : f ≡ pair_position 0x6D 0x73 (bytes text (span (p.start + 1) p.end))) where
      pub at-found : stamped text p ≡ stamped_at text rest f
      unfolding stamped
      at-found = rw (behind-some text p "@" b e t, stamped) (ap (stamped_at text rest) (sym g))

      pub no-ms : f ≡ None → Err TimestampWithoutMs ≡ stamped text p
      unfolding stamped_at
      no-ms n = sym (at-found ∙ rw n)

      module _ (n : ℕ) (h : f ≡ Some n) where
        pub fits : In text p → p.start + 1 + n + 2 ≤ p.end
        fits i = omega (arith, pair_inside 0x6D 0x73 (bytes text rest) n (sym g ∙ h), length-bytes text rest (rest_in i), forward i)

        pub found : (a : Answer Stamped) → a ≡ stamped_at text (span (p.start + 1) p.end) (Some n) → a ≡ stamped text p
        found a k = k ∙ sym (at-found ∙ rw h)

pub ruleset walk = (bare, rest_in, forward, no-ms, fits, found, not-true, not-false)
