-- `openings::not_closed` meets its contract. Assumes nothing.
use Rattle.std.specs.Prelude.{None, Option, Some}
use Prim.Native.Nat.{ℕ, ◌+◌}
use mathlib.Core.Path.{◌≡◌, refl}
use mathlib.Core.Bool.{Bool, true, false, not}
use Rattle.std.specs.Option.{is_some}
use mathlib.Core.List.{List}
use Rattle.text.specs.Parts.{span, starts_with, position}
use Rattle.text.specs.declared.parts.Span.{Span}
use Rattle.script.specs.Inside.{In}
use borrow.Author.Tests.{not-true, not-false}
use Rattle.text.proofs.LiteralLaws.{codes}
use Rattle.script.specs.Pieces.{bytes, trim}
use Rattle.script.specs.Sets.{CLOSING-BRACE, braced_set, path_set}
use Rattle.script.specs.Roles.{not_closed}
use Rattle.pieces.proofs.BehindLaws.{behind-none, behind-some, behind_in, cut-none, cut-some}
use borrow.Author.Rules.{rules}
use Rattle.openings.proofs.not_closed.Goals as goal

module _ (text : List ℕ) (p q : Span) (z : q ≡ trim text p) (b : Bool) (e : b ≡ starts_with (codes "{") (bytes text q)) where
  plain : b ≡ false → false ≡ not_closed text p
  unfolding not_closed path_set
  plain f = rw (← z, behind-none text q "{" b e f, path_set, not_closed)

  module _ (t : b ≡ true) (f : Option ℕ) (g : f ≡ position CLOSING-BRACE (bytes text (span (q.start + 1) q.end))) where
    unclosed : f ≡ None → true ≡ not_closed text p
    unfolding not_closed path_set braced_set
    unclosed n = rw (← z, behind-some text q "{" b e t, cut-none text (q.start + 1) q.end CLOSING-BRACE f g n, path_set, not_closed)

    closed : (n : ℕ) → f ≡ Some n → false ≡ not_closed text p
    unfolding not_closed path_set braced_set
    closed n h = rw (← z, behind-some text q "{" b e t, cut-some text (q.start + 1) q.end CLOSING-BRACE f g n h, path_set, not_closed)

    whether : (o : Option ℕ) → f ≡ o → (r : Bool) → is_some o ≡ not r → r ≡ not_closed text p
    whether None n true k = unclosed n
    whether None n false k = cc k
    whether (Some i) h true k = cc k
    whether (Some i) h false k = closed i h

    tested : (r : Bool) → is_some f ≡ not r → r ≡ not_closed text p
    tested = whether f refl

  inner_in : In text q → b ≡ true → In text (span (q.start + 1) q.end)
  inner_in i t = behind_in text q.start q.end 1 b (codes "{") e t i refl

ruleset walk = (plain, tested, inner_in, not-true, not-false)

pub returns-then-not-starts_with : goal.returns-then-not-starts_with
returns-then-not-starts_with c = search (rules, walk)

pub returns : goal.returns
returns c =
    let begins = rw c.trimmed-q.ensures.text at c.starts_with.ensures.value in
    let found = rw (c.behind.ensures.text, c.trimmed-q.ensures.text, c.behind.ensures.at) at c.find.ensures.value in
    tested _ _ _ c.trimmed-q.ensures.at _ begins c.if-not-starts_with.false _ found _ c.is_none.ensures
