-- What it is to trim a list of characters (scalar values), said without a walk. Assumes nothing.
use Rattle.std.specs.Prelude.{ℕ, ◌≡◌, Bool, true, false, List, [], ◌∷◌, ◌++◌, reverse}
use Rattle.text.specs.Base.{◌&◌}
use Rattle.text.specs.Unicode.{white}

-- all are White_Space
unfoldable pub all_white : List ℕ → Bool
all_white [] = true
all_white (c ∷ cs) = white c & all_white cs

-- the first one is
unfoldable pub begins_white : List ℕ → Bool
begins_white [] = false
begins_white (c ∷ cs) = white c

-- `kept` is cs trimmed: all that is cut off at either end is White_Space, and what is kept neither begins nor ends with it.
pub record Trimmed (cs kept : List ℕ) : Type 0 where
  pub before : List ℕ
  pub after : List ℕ
  pub parts : cs ≡ before ++ (kept ++ after)
  pub white-before : all_white before ≡ true
  pub white-after : all_white after ≡ true
  pub begins : begins_white kept ≡ false
  pub ends : begins_white (reverse kept) ≡ false
