-- A walk over backups from the newest to the oldest.
use Rattle.std.specs.Prelude.{◌≡◌, ℕ, ◌≤◌, List, length, drop}
use Rattle.backup_rules.specs.declared.lines.Line.{Line}
use Rattle.merge_view.specs.Views.{Rows}
use Rattle.backup_delete.specs.Trees.{tree_of}
use Rattle.backup_delete.specs.Folds.{next_tree}

-- The walk has come to an index, and the first backup from there on that stays is at another; or none stays, and that is
-- their number.
pub record IsNext (numbers : List ℕ) (lines : List Line) (tables : List Rows) (next index : ℕ) : Type 0 where
  pub within : index ≤ next
  pub end : next ≤ length lines
  pub tree : next_tree numbers (drop index lines) (drop index tables) ≡ tree_of (drop next lines) (drop next tables)
