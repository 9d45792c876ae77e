-- Laws of the values that were said: nothing at first, and a key overwrites its own value alone. Assumes nothing.
use Prim.Native.Nat.{ℕ, zero, suc, ◌<◌}
use mathlib.Core.Path.{◌≡◌, refl}
use mathlib.Core.Bool.{Bool, true, false}
use lib.Dec.{eqb}
use lib.ListN.{length, get_or, set, replicate}
use lib.Seq.{get_or-set_same, get_or-set_other}
use borrow.Author.Tests.{eqb-true, eqb-false}
use Rattle.std.specs.Prelude.{if◌then◌else◌, None, Option, Some}
use Rattle.text.specs.declared.parts.Span.{Span}
use Rattle.script.specs.Operations.{key_row, same_key}
use Rattle.script.specs.Contents.{value_or}
use Rattle.script.specs.declared.roles.Key.{Key}
use Rattle.script.specs.declared.roles.Saying.TheVariants.{Known}
use Rattle.said.specs.declared.said.Heard.{Heard}
use Rattle.said.specs.Said.{said_of}

none_at : (m n : ℕ) → get_or (replicate {A = Option Span} m None) n None ≡ None
none_at zero n = refl
none_at (suc m) zero = refl
none_at (suc m) (suc n) = none_at m n

pub none_said : (k : Key) → said_of (record { values = replicate 33 None }) k ≡ None
unfolding said_of
none_said k = none_at 33 (key_row k).number

pub value_said : (h : Heard) (k : Key) (v : Span) (n : ℕ) → n ≡ (key_row k).number → n < length h.values
    → (j : Key) → said_of (record { values = set h.values n (Some v) }) j ≡ value_or j (Known k v) (said_of h j)
unfolding said_of value_or same_key
value_said h k v n e l j = go (eqb (key_row j).number (key_row k).number) refl
  where
    go : (b : Bool) → eqb (key_row j).number (key_row k).number ≡ b → get_or (set h.values n (Some v)) (key_row j).number None ≡ (if b then Some v else get_or h.values (key_row j).number None)
    go true q = rw (eqb-true (key_row j).number (key_row k).number q, ← e) (get_or-set_same h.values n (Some v) None l)
    go false q = rw e (get_or-set_other h.values (key_row k).number (key_row j).number (Some v) None (eqb-false (key_row j).number (key_row k).number q))
