-- What a deletion makes of backups, the oldest first.
--     left_lines, left_trees      the lines and the trees of those that stay; the last of them becomes filled
--     folded_tables      their tables
--     changes      what becomes of tables, the newest first: a table, or None where it is removed
use Rattle.std.specs.Prelude.{ℕ, ◌==◌, true, ◌||◌, List, [], ◌∷◌, ◌++◌, Option, Some, None, if◌then◌else◌}
use Rattle.std.specs.Option.{unwrap_or, option_to_list}
use Rattle.std.specs.List.{filter_map}
use Rattle.backup_rules.specs.declared.lines.Line.{Line}
use Rattle.merge_view.specs.Views.{Rows, reverse}
use Rattle.backup_delete.specs.Trees.{tree_of, is_gone, are_gone, needs_fold}

-- the line, filled
abbrev pub filled : Line → Line
filled line = record { number = line.number; start = line.start; end = line.end; kind = line.kind; filled = true; keep = line.keep }

-- the lines of other numbers
abbrev pub kept_lines : List ℕ → List Line → List Line
kept_lines numbers [] = []
kept_lines numbers (line ∷ lines) = if is_gone numbers line.number then kept_lines numbers lines else line ∷ kept_lines numbers lines

-- the same lines, the last of them filled
abbrev pub last_filled : List Line → List Line
last_filled [] = []
last_filled (line ∷ []) = filled line ∷ []
last_filled (line ∷ next ∷ lines) = line ∷ last_filled (next ∷ lines)

-- the lines that stay, the last of them filled
abbrev pub left_lines : List ℕ → List Line → List Line
left_lines numbers [] = []
left_lines numbers (line ∷ newer) =
    if is_gone numbers line.number then left_lines numbers newer
    else (if are_gone numbers newer then filled line else line) ∷ left_lines numbers newer

-- the trees of the backups that stay
abbrev pub left_trees : List ℕ → List Line → List Rows → List Rows
left_trees numbers [] trees = []
left_trees numbers (line ∷ lines) [] = []
left_trees numbers (line ∷ lines) (tree ∷ trees) =
    if is_gone numbers line.number then left_trees numbers lines trees else tree ∷ left_trees numbers lines trees

-- the tree of the first backup that stays, empty if there is none
abbrev pub next_tree : List ℕ → List Line → List Rows → Rows
next_tree numbers [] tables = []
next_tree numbers (line ∷ lines) [] = []
next_tree numbers (line ∷ lines) (table ∷ tables) =
    if is_gone numbers line.number then next_tree numbers lines tables else tree_of (line ∷ lines) (table ∷ tables)

-- the new table of a backup that stays, None where its own stays: its entries relative to the next newer tree that stays
abbrev pub new_table : List ℕ → Line → Rows → List Line → List Rows → Option Rows
new_table numbers line table newer tables =
    if needs_fold numbers line newer then Some (reverse (tree_of (line ∷ newer) (table ∷ tables)) (next_tree numbers newer tables)) else None

-- the tables of the backups that stay
abbrev pub folded_tables : List ℕ → List Line → List Rows → List Rows
folded_tables numbers [] tables = []
folded_tables numbers (line ∷ lines) [] = []
folded_tables numbers (line ∷ lines) (table ∷ tables) =
    if is_gone numbers line.number then folded_tables numbers lines tables
    else unwrap_or (new_table numbers line table lines tables) table ∷ folded_tables numbers lines tables

-- a table by its backup's number, None where it is removed
abbrev pub Change : Type 0
Change = ℕ × Option Rows

-- a table's new one
abbrev pub replaced : ℕ → Option Rows → Option Change
replaced number None = None
replaced number (Some table) = Some (number, Some table)

-- what becomes of a backup's table, None where it stays
abbrev pub change_of : List ℕ → Line → Rows → List Line → List Rows → Option Change
change_of numbers line table newer tables =
    if is_gone numbers line.number then Some (line.number, None) else replaced line.number (new_table numbers line table newer tables)

-- what becomes of all tables, the newest first
abbrev pub changes : List ℕ → List Line → List Rows → List Change
changes numbers [] tables = []
changes numbers (line ∷ lines) [] = []
changes numbers (line ∷ lines) (table ∷ tables) = changes numbers lines tables ++ option_to_list (change_of numbers line table lines tables)

-- what becomes of the table of a number, None where nothing does
abbrev pub change_at : List Change → ℕ → Option (Option Rows)
change_at [] number = None
change_at (change ∷ others) number = if change.0 == number then Some change.1 else change_at others number

-- what a change makes of a table, which may be absent
abbrev pub changed : Option (Option Rows) → Option Rows → Option Rows
changed None table = table
changed (Some new) table = new

-- the table of a number, None where no line has it
abbrev pub table_at : List Line → List Rows → ℕ → Option Rows
table_at [] tables number = None
table_at (line ∷ lines) [] number = None
table_at (line ∷ lines) (table ∷ tables) number = if line.number == number then Some table else table_at lines tables number

-- the tables that are written
abbrev pub added_tables : List Change → List Rows
added_tables all = filter_map (λ change. change.1) all

-- the tables that are removed or replaced
abbrev pub taken_tables : List ℕ → List Line → List Rows → List Rows
taken_tables numbers [] tables = []
taken_tables numbers (line ∷ lines) [] = []
taken_tables numbers (line ∷ lines) (table ∷ tables) =
    if is_gone numbers line.number || needs_fold numbers line lines then table ∷ taken_tables numbers lines tables
    else taken_tables numbers lines tables
