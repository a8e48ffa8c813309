-- How many paths an open dump has, and how many of them a removal takes away.
use Rattle.std.specs.Prelude.{ℕ, ◌+◌, not, List, [], ◌∷◌, length, map, is_some}
use Rattle.std.specs.List.{filter}
use Rattle.attr_records.specs.Trees.{node_at}
use Rattle.merge_view.specs.Views.{Rows}
use Rattle.merge_view.specs.Runs.{within_rows}

-- entries that stand at no row of a tree
abbrev pub fresh : Rows → Rows → Rows
fresh tree puts = filter (λ row. not (is_some (node_at tree row.0))) puts

-- how many rows the directories have together
abbrev pub total_rows : Rows → List (List ℕ) → ℕ
total_rows base [] = 0
total_rows base (directory ∷ directories) = length (within_rows directory base) + total_rows base directories

abbrev pub paths_of : {X : Type 0} → List (List ℕ × X) → List (List ℕ)
paths_of rows = map (λ row. row.0) rows
