-- The first table that is too short. Assumes nothing.
use Rattle.std.specs.Prelude.{Err, Ok}
use Prim.Native.Nat.{ℕ, ◌≤◌, ◌<◌}
use mathlib.Core.Path.{◌≡◌}
use native.Mathlib.Nat.{min-le_right, le_trans}
use borrow.Author.Tests.{lt-ltb, le-ltb}
use Rattle.script.specs.Reading.{room}
use Rattle.script.specs.Refusals.{refusal, ok_unless}
use Rattle.script.specs.declared.records.Counts.{Counts}
use Rattle.fits.specs.Fits.{shortage}
use Rattle.script.specs.declared.refusals.Reason.TheVariants.{FewEntries, FewExpectations, FewItems, FewStoreBytes}

-- ---- Only the first 32,768 records count

pub room_within : (n m : ℕ) → m ≤ room n → m ≤ n
unfolding room
room_within n m h = le_trans h (min-le_right 0x8000 n)

-- ---- the first table that is too short

module _ (lent needed : Counts) (a : ℕ) (p : a ≡ room lent.entries) where
  pub short_21 : a < needed.entries → Err (refusal FewEntries 0) ≡ ok_unless (shortage lent needed)
  unfolding shortage ok_unless
  short_21 h = rw (← p, lt-ltb a needed.entries h)

  module _ (h : needed.entries ≤ a) (b : ℕ) (q : b ≡ room lent.items) where
    pub short_22 : b < needed.items → Err (refusal FewItems 0) ≡ ok_unless (shortage lent needed)
    unfolding shortage ok_unless
    short_22 i = rw (← p, ← q, le-ltb a needed.entries h, lt-ltb b needed.items i)

    module _ (i : needed.items ≤ b) (c : ℕ) (r : c ≡ room lent.expectations) where
      pub short_23 : c < needed.expectations → Err (refusal FewExpectations 0) ≡ ok_unless (shortage lent needed)
      unfolding shortage ok_unless
      short_23 j = rw (← p, ← q, ← r, le-ltb a needed.entries h, le-ltb b needed.items i, lt-ltb c needed.expectations j)

      module _ (j : needed.expectations ≤ c) where
        pub short_24 : lent.store < needed.store → Err (refusal FewStoreBytes 0) ≡ ok_unless (shortage lent needed)
        unfolding shortage ok_unless
        short_24 k = rw (← p, ← q, ← r, le-ltb a needed.entries h, le-ltb b needed.items i, le-ltb c needed.expectations j, lt-ltb lent.store needed.store k)

        pub enough : needed.store ≤ lent.store → Ok tt ≡ ok_unless (shortage lent needed)
        unfolding shortage ok_unless
        enough k = rw (← p, ← q, ← r, le-ltb a needed.entries h, le-ltb b needed.items i, le-ltb c needed.expectations j, le-ltb lent.store needed.store k)

pub ruleset short_laws = (short_21, short_22, short_23, short_24, enough)
