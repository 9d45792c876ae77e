-- What the code relies on while it walks: numbers so small that no sum of them overflows. Assumes nothing.
use Rattle.std.specs.Prelude.{ℕ, ◌≤◌}
use Rattle.script.specs.declared.records.Counts.{Counts}
use Rattle.measuring.specs.declared.Open.{Open}

-- each number of what is open is at most m
pub record Small (m : ℕ) (o : Open) : Type 0 where
  pub inline : o.inline ≤ m
  pub pairs : o.pairs ≤ m
  pub paths : o.paths ≤ m
  pub refs : o.refs ≤ m
  pub suffix : o.suffix ≤ m
  pub text : o.text ≤ m
  pub name : o.name ≤ m
  pub cam_str : o.cam_str ≤ m
  pub «data» : o.«data» ≤ m
  pub raw : o.raw ≤ m
  pub features : o.features ≤ m
  pub server_features : o.server_features ≤ m

-- each total is at most m
pub record Few (m : ℕ) (t : Counts) : Type 0 where
  pub entries : t.entries ≤ m
  pub items : t.items ≤ m
  pub expectations : t.expectations ≤ m
  pub store : t.store ≤ m
