-- A new table by tables alone: the entries of a run laid over each other, and of them those that change the newer tree.
--     resolved entries table      the entries at the table's paths that differ from it
--     remaining entries table      the entries at other paths
use Rattle.std.specs.Prelude.{Bool, false, not, List, [], ◌∷◌, Option, Some, None, if◌then◌else◌}
use Rattle.ordered_lists.specs.Merge.{merge}
use Rattle.attr_records.specs.Paths.{path_cmp}
use Rattle.attr_tables.specs.Records.{is_same_record}
use Rattle.attr_tables.specs.declared.records.Record.{Record}
use Rattle.backup_rules.specs.declared.lines.Line.{Line}
use Rattle.merge_view.specs.Views.{Rows}

-- an entry where a table has something else
abbrev pub differing : Option Record → Option Record → Option Record
differing None base = None
differing (Some entry) None = None
differing (Some entry) (Some base) = if is_same_record entry base then None else Some entry

-- an entry where a table has nothing
abbrev pub elsewhere : Option Record → Option Record → Option Record
elsewhere None base = None
elsewhere (Some entry) None = Some entry
elsewhere (Some entry) (Some base) = None

abbrev pub resolved : Rows → Rows → Rows
resolved entries table = merge path_cmp differing entries table

abbrev pub remaining : Rows → Rows → Rows
remaining entries table = merge path_cmp elsewhere entries table

-- the first backup is there and isn't filled, and some entries are left
abbrev pub goes_on : Rows → List Line → Bool
goes_on entries [] = false
goes_on [] (line ∷ lines) = false
goes_on (entry ∷ entries) (line ∷ lines) = not line.filled
