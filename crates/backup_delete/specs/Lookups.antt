-- The entries of a run that a table resolves or leaves, or that change a tree, each looked up there.
--     differs entry there      something else is there
--     resolved_by_lookup entries table      the entries at whose paths the table has something else
--     remaining_by_lookup entries table      the entries at whose paths the table has nothing
--     is_needed entry there      an entry changes what is there
--     trimmed_by_lookup tree entries      the entries that change the tree
use Rattle.std.specs.Prelude.{Bool, true, false, not, Option, Some, None, is_some}
use Rattle.std.specs.List.{filter}
use Rattle.attr_records.specs.Trees.{node_at}
use Rattle.attr_tables.specs.Records.{is_same_record}
use Rattle.attr_tables.specs.declared.records.Record.{Record}
use Rattle.attr_tables.specs.declared.records.Record.TheVariants.{File, Dir, Link, Deleted}
use Rattle.merge_view.specs.Views.{Rows}

-- something else is there
abbrev pub differs : Record → Option Record → Bool
differs entry None = false
differs entry (Some base) = not (is_same_record entry base)

-- nothing is there
abbrev pub is_alone : Record → Option Record → Bool
is_alone entry there = not (is_some there)

abbrev pub resolved_by_lookup : Rows → Rows → Rows
resolved_by_lookup entries table = filter (λ row. differs row.1 (node_at table row.0)) entries

abbrev pub remaining_by_lookup : Rows → Rows → Rows
remaining_by_lookup entries table = filter (λ row. is_alone row.1 (node_at table row.0)) entries

-- nothing is there, or something else
abbrev pub is_other : Record → Option Record → Bool
is_other entry None = true
is_other entry (Some base) = not (is_same_record entry base)

-- an entry changes what is there
abbrev pub is_needed : Record → Option Record → Bool
is_needed Deleted there = is_some there
is_needed (File file) there = is_other (File file) there
is_needed (Dir dir) there = is_other (Dir dir) there
is_needed (Link link) there = is_other (Link link) there

abbrev pub trimmed_by_lookup : Rows → Rows → Rows
trimmed_by_lookup tree entries = filter (λ row. is_needed row.1 (node_at tree row.0)) entries
