use Rattle.std.proofs.Common.{◌≡◌, ◌++◌}
use Rattle.std.specs.FinMap.Entries.{where_key}
use Rattle.attr_records.specs.Paths.{path_cmp}
use Rattle.tree_frames.specs.Frames.{removal_frames}
use Rattle.tree_restores.specs.Since.{is_top_at, lost_tops}
use Rattle.tree_restores.proofs.changes.push_removals.Given as goal

-- the paths told so far, and those still to be
abbrev pub invariant-loop-path : goal.invariant-loop-path
invariant-loop-path l =
    l.list.items ++ removal_frames (where_key path_cmp (is_top_at l.base.entries l.tree.entries) l.path-iterator)
    ≡ l.initial.list.items ++ removal_frames (lost_tops l.base.entries l.tree.entries)
