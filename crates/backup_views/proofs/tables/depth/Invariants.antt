-- The lines so far aren't filled.
use Rattle.std.proofs.Common.{◌≡◌, ℕ, ◌+◌, drop}
use Rattle.backup_views.specs.Stored.{depth_of}
use Rattle.backup_views.proofs.tables.depth.Given as goal

pub record IsSoFar (count index whole rest : ℕ) : Type 0 where
  pub count_is : count ≡ index
  pub value : whole ≡ index + rest

abbrev pub invariant-loop-line : goal.invariant-loop-line
invariant-loop-line l = IsSoFar l.count l.line-index (depth_of l.lines) (depth_of (drop l.line-index l.lines))
