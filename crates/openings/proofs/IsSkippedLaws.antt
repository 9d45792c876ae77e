-- Laws for `is_skipped`. Assumes nothing.
use Prim.Native.Nat.{ℕ}
use mathlib.Core.Path.{◌≡◌, sym, ◌∙◌}
use mathlib.Core.Bool.{Bool, true, false, not}
use mathlib.Core.List.{List}
use borrow.Author.Tests.{not-true, not-false}
use Rattle.text.specs.Parts.{starts_with}
use Rattle.text.specs.declared.parts.Span.{Span}
use Rattle.text.proofs.LiteralLaws.{codes}
use Rattle.script.specs.Pieces.{bytes, is_empty}
use Rattle.script.specs.Roles.{skipped}
use Rattle.pieces.proofs.BehindLaws.{begins-is}

module _ (text : List ℕ) (t : Span) (a : Bool) (z : a ≡ is_empty t) where
  pub blank : a ≡ true → true ≡ skipped text t
  unfolding skipped
  blank h = rw (sym z ∙ h)

  module _ (h : a ≡ false) (b : Bool) (e : b ≡ starts_with (codes "#") (bytes text t)) where
    pub other : b ≡ false → false ≡ skipped text t
    unfolding skipped
    other f = rw (sym z ∙ h, begins-is text t "#" b e, f)

    pub comment : b ≡ true → (d : Bool) → d ≡ starts_with (codes "# nwscript") (bytes text t) → not d ≡ skipped text t
    unfolding skipped
    comment y d k = rw (sym z ∙ h, begins-is text t "#" b e, y, begins-is text t "# nwscript" d k)

pub ruleset walk = (blank, other, comment, not-true, not-false)
