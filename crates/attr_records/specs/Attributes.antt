-- The attributes of a node as a value.
use Rattle.std.specs.Prelude.{ℕ, ℤ}

pub record Attributes : Type 0 where
  pub mode : ℕ
  pub uid : ℕ
  pub gid : ℕ
  pub mtime : ℤ
  -- behind the seconds of mtime
  pub nanos : ℕ
