-- Laws of a piece cut at the first byte of a kind: from what the code's search answers to `cut_or` of the definition. Assumes nothing.
use Rattle.std.specs.Prelude.{None, Option, Some}
use Prim.Native.Nat.{ℕ, ◌+◌, ◌-◌}
use mathlib.Core.Path.{◌≡◌, sym}
use mathlib.Core.List.{List}
use native.Mathlib.Omega.{arith}
use Rattle.text.specs.Parts.{span, position}
use Rattle.text.specs.declared.parts.Span.{Span}
use Rattle.script.specs.Pieces.{Cut, cut_into, cut_at, bytes, cut, cut_or}
use Rattle.script.specs.Inside.{In}
use Rattle.pieces.proofs.BehindLaws.{cut-none, cut-some}

-- ---- a piece cut at the first byte of a kind

-- f is the first b that the code found
module _ (text : List ℕ) (b : ℕ) (p : Span) (f : Option ℕ) (e : f ≡ position b (bytes text p)) where
  pub uncut : f ≡ None → None ≡ cut text b p
  uncut g = sym (cut-none text p.start p.end b f e g)

  pub cut_there : (n : ℕ) → f ≡ Some n → (before after : Span) → before ≡ span p.start (p.start + n) → after ≡ span (p.start + (n + 1)) p.end
      → Some (cut_into before after) ≡ cut text b p
  unfolding cut_at
  cut_there n g before after x y =
      let k : p.start + (n + 1) ≡ p.start + n + 1 = omega arith in
      rw (x, y, k) (sym (cut-some text p.start p.end b f e n g))

-- c is what the definition cuts
module _ (text : List ℕ) (b : ℕ) (p : Span) where
  pub all_before : None ≡ cut text b p → In text p → (after : Span) → after ≡ span (p.start + (p.end - p.start)) p.end → cut_into p after ≡ cut_or text b p
  unfolding cut_or
  all_before e i after k =
      let z : p.start + (p.end - p.start) ≡ p.end = omega (arith, i.forward) in
      rw (k, z, ← e, cut_or)

  pub parted : (c : Cut) → Some c ≡ cut text b p → c ≡ cut_or text b p
  unfolding cut_or
  parted c e = rw (← e, cut_or)
