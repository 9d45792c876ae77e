-- What a writer is once something is written by it. Assumes nothing.
use Rattle.std.specs.Prelude.{◌≡◌, ℕ, ◌+◌, ◌≤◌, List, length, drop}
use Rattle.std.specs.Borrow.{MutBor}
use Rattle.std.specs.Fn.{FnOnceReturnsAtMut, Once}
use denote.MutBor.{at_last}
use Rattle.text.specs.Base.{overlaid}
use Rattle.written.specs.declared.Writer.{Writer}
use Rattle.written.specs.Written.{written_at}

module _ {A : Type 0} where
  -- a writer at the start of a lent slice
  abbrev pub writer : MutBor (List A) → Writer A
  writer out = record { out = out; at = 0 }

  -- there is room for n more
  abbrev pub Room : (n : ℕ) → Writer A → Type 0
  Room n w = w.at + n ≤ length w.out.now

  -- xs are written behind what was; all else is as it was
  unfoldable pub wrote : (xs : List A) → Writer A → Writer A
  wrote xs w = record { out = at_last w.out (written_at w.at xs w.out.now); at = w.at + length xs }

-- the bytes that a writer has before it
abbrev pub before : Writer ℕ → List ℕ
before w = drop w.at w.out.now

-- f, called at a lent slice, writes xs at its front and says how many they are
abbrev pub Overlays : {F : Type 0} → Once F (MutBor (List ℕ) × Unit {0}) (ℕ × (MutBor (List ℕ) × Unit {0})) → F → (lent xs : List ℕ) → Type 0
Overlays g f lent xs = (n : ℕ) (after : List ℕ) → FnOnceReturnsAtMut g f lent n after → (n ≡ length xs) × (after ≡ overlaid xs lent)
