-- Laws of blank tables, of which the first are lent. Assumes nothing.
use Prim.Native.Nat.{ℕ, zero, suc, ◌≤◌, min}
use mathlib.Core.Path.{◌≡◌, refl, sym, ap, ◌∙◌}
use mathlib.Core.List.{List, [], ◌∷◌}
use native.Mathlib.Omega.{arith}
use lib.ListN.{length, take, replicate, length-replicate}
use lib.Seq.{length-take-le}
use Rattle.text.specs.Base.{overlaid}
use Rattle.script.specs.declared.records.Entry.{Entry}
use Rattle.script.specs.declared.records.Expectation.{Expectation}
use Rattle.slots.specs.Blank.{blank_entry, blank_expectation}
use Rattle.dump.specs.Dump.{dump_into, read_dump}

module _ {A : Type 0} (a : A) where
  take_blank : (k m : ℕ) → k ≤ m → take k (replicate m a) ≡ replicate k a
  take_blank zero m h = refl
  take_blank (suc k) zero h = absurd (omega arith)
  take_blank (suc k) (suc m) h = ap (λ (l : List A). a ∷ l) (take_blank k m (omega arith))

  -- t is a table of m blanks, of which k are lent
  module _ (m n k : ℕ) (t : List A) (e : t ≡ replicate m a) (q : k ≡ min m n) where
    few : k ≤ m
    few = omega (arith, q)

    pub lent-within : k ≤ length t
    lent-within = rw (e, length-replicate m a) few

    pub lent_count : k ≡ length (take k t)
    lent_count = sym (length-take-le k t lent-within)

    pub lent_few : (limit : ℕ) → m ≤ limit → length (take k t) ≤ limit
    lent_few limit l = rw (← lent_count) (omega (arith, few))

    pub lent_blank : take k t ≡ replicate (min m n) a
    lent_blank = rw e (take_blank k m few) ∙ ap (λ (j : ℕ). replicate j a) q

-- the lent tables are blank
module _ (text : List ℕ) (entries items expectations store : ℕ) (es : List Entry) (is : List (List ℕ)) (xs : List Expectation) (bs : List ℕ)
    (f : es ≡ replicate (min 256 entries) blank_entry) (g : is ≡ replicate (min 1024 items) (0 ∷ 0 ∷ [])) (h : xs ≡ replicate (min 1024 expectations) blank_expectation) (i : bs ≡ replicate (min 32768 store) 0)
  where
    same_dump : dump_into text es is xs bs ≡ read_dump text entries items expectations store
    unfolding read_dump
    same_dump = rw (f, g, h, i)

    pub read_count : (r : ℕ) → r ≡ length (dump_into text es is xs bs) → r ≡ length (read_dump text entries items expectations store)
    read_count r e = e ∙ ap length same_dump

    pub read_put : (out after : List ℕ) → after ≡ overlaid (dump_into text es is xs bs) out → after ≡ overlaid (read_dump text entries items expectations store) out
    read_put out after e = e ∙ ap (λ (l : List ℕ). overlaid l out) same_dump
