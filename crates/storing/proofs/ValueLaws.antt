-- Laws of the values that stand in the store: the bytes that the code writes are those of the reading. Assumes nothing.
use Prim.Native.Nat.{ℕ, suc, ◌+◌}
use mathlib.Core.Path.{◌≡◌, refl, sym, ap, ◌∙◌}
use mathlib.Core.Bool.{Bool, true, false}
use mathlib.Core.List.{List, [], ◌∷◌, ◌++◌}
use lib.Dec.{eqb}
use lib.ListN.{replicate}
use borrow.Author.Tests.{eqb-true}
use Rattle.std.specs.Prelude.{if◌then◌else◌, None, Option, Some}
use Rattle.text.specs.Base.{QUOTE}
use Rattle.values.specs.Hex.{hex_decoded}
use Rattle.values.specs.Unquote.{unquoted}
use Rattle.text.specs.Parts.{span, starts_with}
use Rattle.text.specs.declared.parts.Span.{Span}
use Rattle.hexadecimal.proofs.HexLaws.{trailing_quotes}
use Rattle.text.proofs.LiteralLaws.{codes}
use Rattle.script.specs.Answers.{first_of}
use Rattle.script.specs.Pieces.{bytes, behind}
use Rattle.script.specs.Values.{without_quotes, plain_rules, inline_of, framed}
use Rattle.script.specs.Contents.{given_bytes, given_data, unquoted_of, hex_of, data_of}
use Rattle.script.specs.Layout.{stored_of}
use Rattle.pieces.proofs.BehindLaws.{behind-none, behind-some}

-- ---- quotes at the end of hex are no digits

record Tail (s w : List ℕ) : Type 0 where
  many : ℕ
  same : s ≡ w ++ replicate many QUOTE

module _ (x : ℕ) (s : List ℕ) where
  all_quotes : without_quotes s ≡ [] → without_quotes (x ∷ s) ≡ (if eqb x QUOTE then [] else (x ∷ []))
  unfolding without_quotes
  all_quotes e = rw (e, without_quotes)

  some_kept : (y : ℕ) (ys : List ℕ) → without_quotes s ≡ y ∷ ys → without_quotes (x ∷ s) ≡ x ∷ y ∷ ys
  unfolding without_quotes
  some_kept y ys e = rw (e, without_quotes) (ap (λ (r : List ℕ). x ∷ r) e)

  one_longer : (w : List ℕ) → without_quotes s ≡ w → Tail s w → Tail (x ∷ s) (without_quotes (x ∷ s))
  one_longer [] e t = rw (all_quotes e) (go (eqb x QUOTE) refl)
    where
      go : (b : Bool) → eqb x QUOTE ≡ b → Tail (x ∷ s) (if b then [] else (x ∷ []))
      go true q = record { many = suc t.many; same = rw (eqb-true x QUOTE q) (ap (λ (r : List ℕ). QUOTE ∷ r) t.same) }
      go false q = record { many = t.many; same = ap (λ (r : List ℕ). x ∷ r) t.same }
  one_longer (y ∷ ys) e t = rw (some_kept y ys e) (record { many = t.many; same = ap (λ (r : List ℕ). x ∷ r) t.same })

tail : (s : List ℕ) → Tail s (without_quotes s)
unfolding without_quotes
tail [] = record { many = 0; same = refl }
tail (x ∷ s) = one_longer x s (without_quotes s) refl (tail s)

-- so they may stay
pub no_quotes : (s : List ℕ) → hex_decoded s ≡ hex_decoded (without_quotes s)
no_quotes s = ap hex_decoded (tail s).same ∙ trailing_quotes (tail s).many (without_quotes s)

-- ---- what is written

module _ (text : List ℕ) (v : Span) where
  -- a value that is unquoted
  pub unquoted_is : unquoted_of plain_rules text (Some v) ≡ unquoted (bytes text v)
  unfolding unquoted_of given_bytes
  unquoted_is = refl

  -- what follows `x"`, with the quotes at its end
  pub hex_is : hex_of plain_rules text (Some v) ≡ hex_decoded (bytes text v)
  unfolding hex_of given_bytes
  hex_is = sym (no_quotes (bytes text v))

  -- b tells whether it begins so
  module _ (b : Bool) (e : b ≡ starts_with (codes "x\"") (bytes text v)) where
    -- data is hex, or nothing that stands in the store
    pub data_hex : b ≡ true → stored_of (data_of plain_rules text (Some v)) ≡ hex_of plain_rules text (Some (span (v.start + 2) v.end))
    unfolding data_of given_data stored_of framed first_of inline_of hex_of given_bytes
    data_hex t = simp (behind-some text v "x\"" b e t)

    pub data_none : b ≡ false → stored_of (data_of plain_rules text (Some v)) ≡ []
    unfolding data_of given_data stored_of framed first_of inline_of
    data_none f = go (behind text "@file:" v) refl
      where
        go : (o : Option Span) → behind text "@file:" v ≡ o → stored_of (data_of plain_rules text (Some v)) ≡ []
        go None q = simp (behind-none text v "x\"" b e f, q)
        go (Some r) q = simp (behind-none text v "x\"" b e f, q)
