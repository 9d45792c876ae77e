-- Laws of what stands behind a path set. For `search` to use. Assumes nothing.
use Rattle.std.specs.Prelude.{None, Option, Some, option_map}
use Prim.Native.Nat.{ℕ, ◌+◌, ◌-◌}
use mathlib.Core.Path.{◌≡◌, sym}
use mathlib.Core.Bool.{Bool, true, false}
use mathlib.Core.List.{List}
use native.Mathlib.Omega.{arith}
use Rattle.text.specs.Parts.{span, starts_with}
use Rattle.text.specs.declared.parts.Span.{Span}
use Rattle.text.proofs.LiteralLaws.{codes}
use Rattle.script.specs.Pieces.{cut_into, bytes, trim, cut}
use Rattle.script.specs.Sets.{CLOSING-BRACE, braced_set, plain_set, path_set}
use Rattle.script.specs.Contents.{rest_of}
use Rattle.pieces.specs.declared.pieces.Piece.{Piece}
use Rattle.pieces.proofs.BehindLaws.{behind-none, behind-some}

-- q is the piece trimmed, b whether it begins with a brace
module _ (text : List ℕ) (p : Span) (q : Piece) (t : q.text.now ≡ text) (z : q.at ≡ trim text p) (b : Bool) (e : b ≡ starts_with (codes "{") (bytes q.text.now q.at)) where
  begun : b ≡ starts_with (codes "{") (bytes text (trim text p))
  begun = rw (← z, ← t) e

  -- without braces it is nothing: f is the end of the piece
  pub rest_plain : b ≡ false → (f : Piece) → f.text.now ≡ text → f.at ≡ span (q.at.start + (q.at.end - q.at.start)) q.at.end
      → (r : Span) → r ≡ trim f.text.now f.at → r ≡ rest_of text p
  unfolding rest_of path_set plain_set
  rest_plain h f u k r i =
      let s : q.at.start + (q.at.end - q.at.start) ≡ q.at.end = omega (arith, q.inside.forward) in
      rw (behind-none text (trim text p) "{" b begun h, path_set, rest_of, ← z) (rw (u, k, s) at i)

  -- in braces it stands behind the first that closes: f is what follows the opening brace, o its two parts
  module _ (h : b ≡ true) (f : Piece) (u : f.text.now ≡ text) (k : f.at ≡ span (q.at.start + 1) q.at.end)
      (o : Option (Piece × Piece)) (c : option_map (λ x. cut_into x.0.at x.1.at) o ≡ cut f.text.now CLOSING-BRACE f.at) where
    parts : cut text CLOSING-BRACE (span ((trim text p).start + 1) (trim text p).end) ≡ option_map (λ x. cut_into x.0.at x.1.at) o
    parts = rw (← z, ← k, ← u) (sym c)

    pub rest_open : o ≡ None → p ≡ rest_of text p
    unfolding rest_of path_set braced_set
    rest_open n = rw (behind-some text (trim text p) "{" b begun h, parts, n, path_set, rest_of)

    pub rest_braced : (x : Piece × Piece) (y : Piece) → o ≡ Some x → y ≡ x.1 → y.text.now ≡ text → (r : Span) → r ≡ trim y.text.now y.at → r ≡ rest_of text p
    unfolding rest_of path_set braced_set
    rest_braced x y n j v r i = rw (behind-some text (trim text p) "{" b begun h, parts, n, path_set, rest_of) (rw (v, j) at i)
