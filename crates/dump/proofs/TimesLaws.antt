-- Laws of reading again and again: the tables keep their lengths, so that each time the answer is the same. Assumes nothing.
use Rattle.std.specs.Prelude.{Err, Ok}
use Prim.Native.Nat.{ℕ, ◌+◌, ◌≤◌}
use mathlib.Core.Path.{◌≡◌, refl, ap, ◌∙◌}
use mathlib.Core.List.{List}
use native.Mathlib.Numerals.{add-one}
use lib.ListN.{length, replicate, length-replicate}
use Rattle.script.specs.Reading.{read_into, Parsed}
use Rattle.script.specs.Layout.{Reading}
use Rattle.script.specs.declared.records.Entry.{Entry}
use Rattle.script.specs.declared.records.Expectation.{Expectation}
use Rattle.read.specs.Read.{script_or, lent_of}
use Rattle.script.specs.declared.records.Counts.{Counts}
use native.Mathlib.Omega.{arith}
use Rattle.dump.specs.Times.{refusal_number, many_lent, last_number}
use Rattle.script.specs.declared.records.Script.{Script}

number_or : (p : Parsed Reading) → refusal_number (script_or p) ≡ refusal_number p
unfolding refusal_number script_or
number_or (Err r) = refl
number_or (Ok r) = refl

pub never_read : (text : List ℕ) → 0 ≡ last_number text 0
unfolding last_number
never_read text = refl

module _ (text : List ℕ) (es : List Entry) (is : List (List ℕ)) (xs : List Expectation) (bs : List ℕ)
    (f : length es ≡ 4096) (g : length is ≡ 16384) (h : length xs ≡ 4096) (i : length bs ≡ 32768)
  where
    many : lent_of es is xs bs ≡ many_lent
    many = rw (f, g, h, i)

    pub once_more : (a : Parsed Script) → a ≡ script_or (read_into (lent_of es is xs bs) text) → (r : ℕ) → r ≡ refusal_number a → (n : ℕ) → r ≡ last_number text (n + 1)
    unfolding last_number
    once_more a e r q n = rw (add-one n) (q ∙ ap refusal_number e ∙ number_or (read_into (lent_of es is xs bs) text) ∙ ap (λ (c : Counts). refusal_number (read_into c text)) many)

pub last_turn : (text : List ℕ) (n times r : ℕ) → n ≤ times → times ≤ n → r ≡ last_number text n → r ≡ last_number text times
last_turn text n times r h k e = let q : n ≡ times = omega arith in rw q at e

pub store_many : (t : List ℕ) → t ≡ replicate 32768 0 → length t ≡ 32768
store_many t e = ap length e ∙ length-replicate {A = ℕ} 32768 0
