-- The laws of a stored answer to Read: the dump. Assumes nothing.
use Prim.Native.Nat.{ℕ, ◌≤◌, ◌<◌}
use mathlib.Core.Path.{◌≡◌, sym, ap, ◌∙◌}
use mathlib.Core.Bool.{Bool, false}
use mathlib.Core.List.{List, ◌++◌}
use native.Mathlib.Omega.{arith}
use lib.ListN.{length, take, drop}
use lib.Seq.{take_at}
use borrow.Author.Tests.{le-leb, lt-leb}
use Rattle.text.specs.Base.{overlaid}
use Rattle.text.proofs.WordLaws.{words_at}
use Rattle.script.specs.declared.records.Counts.{Counts}
use Rattle.dump.specs.Dump.{read_dump}
use Rattle.replayed.specs.Dumps.{is_dump}
use Rattle.replay_script.specs.Dumped.{leaves}

-- what was laid at the front of a slice
overlaid_front : (bytes lent now : List ℕ) (n : ℕ) → n ≡ length bytes → now ≡ overlaid bytes lent → n ≤ length now → length now ≡ length lent → take n now ≡ bytes
unfolding overlaid
overlaid_front bytes lent now n c o h l =
    let k : now ≡ bytes ++ drop (length bytes) lent = rw (le-leb (length bytes) (length lent) (omega arith)) at o in
    ap (take n) k ∙ take_at bytes (drop (length bytes) lent) n (sym c)

module _ (line : List ℕ) (at : ℕ) (lent : Counts) (text store : List ℕ) (n : ℕ) (c : n ≡ length (read_dump text lent.entries lent.items lent.expectations lent.store)) where
  pub too_long : 8192 < n → false ≡ leaves line at lent text store
  unfolding leaves
  too_long h = rw (lt-leb (length (read_dump text lent.entries lent.items lent.expectations lent.store)) 8192 (omega arith))

  pub dump_left : (room found : List ℕ) (b : Bool) → found ≡ overlaid (read_dump text lent.entries lent.items lent.expectations lent.store) room → length found ≡ 8192 → length found ≡ length room
      → n ≤ 8192 → b ≡ is_dump line (words_at line at) store (take n found) → b ≡ leaves line at lent text store
  unfolding leaves
  dump_left room found b o l k h e =
      let d = read_dump text lent.entries lent.items lent.expectations lent.store in
      rw (le-leb (length d) 8192 (omega arith)) (e ∙ ap (is_dump line (words_at line at) store) (overlaid_front d room found n c o (omega arith) k))
