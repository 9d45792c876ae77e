-- What a word spells, and where it ends. Assumes nothing.
use Rattle.std.specs.Prelude.{ℕ}

pub record Field (A : Type 0) : Type 0 where
  pub value : A
  pub end : ℕ
