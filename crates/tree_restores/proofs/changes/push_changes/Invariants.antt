use Rattle.std.proofs.Common.{◌≡◌, ◌+◌, ◌++◌, length}
use Rattle.std.specs.List.{flat_map}
use Rattle.std.specs.FinMap.Entries.{where_key}
use Rattle.attr_records.specs.Paths.{path_cmp}
use Rattle.tree_restores.specs.Rows.{row_frames}
use Rattle.tree_restores.specs.Since.{is_changed_at, told_rows}
use Rattle.tree_restores.proofs.changes.push_changes.Given as goal

-- the rows told so far, and those still to be; and how many
abbrev pub invariant-loop-path : goal.invariant-loop-path
invariant-loop-path l =
    (l.list.items ++ flat_map row_frames (where_key path_cmp (is_changed_at l.base.entries l.tree.entries) l.path-iterator)
    ≡ l.initial.list.items ++ flat_map row_frames (told_rows l.base.entries l.tree.entries))
    × (l.count + length (where_key path_cmp (is_changed_at l.base.entries l.tree.entries) l.path-iterator) ≡ length (told_rows l.base.entries l.tree.entries))
