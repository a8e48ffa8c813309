-- Several tables, from the filled one downwards: each next one holds the entries of the next older backup.
--     whole tables      the tree that they show
--     told tables path base      what they say of a path, over what is there without them
--     fronted row rows      a row and those after it
--     reverses newer trees      the entries that a list of trees, each older than the one before, is stored as
use Rattle.std.specs.Prelude.{ℕ, List, [], ◌∷◌, Option, Some, None}
use Rattle.std.specs.List.{AllByRecursion}
use Rattle.attr_records.specs.Paths.{path_cmp}
use Rattle.ordered_lists.specs.Order.{IsInOrder}
use Rattle.attr_records.specs.Trees.{node_at}
use Rattle.attr_tables.specs.declared.records.Record.{Record}
use Rattle.merge_view.specs.Views.{Rows, laid, view, reverse, stacked}

-- each table is in order
abbrev pub AllInOrder : List Rows → Type 0
AllInOrder = AllByRecursion (IsInOrder path_cmp)

-- a tree viewed through one table after the other
abbrev pub viewed : Rows → List Rows → Rows
viewed tree [] = tree
viewed tree (table ∷ tables) = viewed (view tree table) tables

-- the tree that tables show, the filled one first
abbrev pub whole : List Rows → Rows
whole tables = viewed [] tables

-- what tables say of a path, over what is there without them
abbrev pub told : List Rows → List ℕ → Option Record → Option Record
told [] path base = base
told (table ∷ tables) path base = told tables path (laid (node_at table path) base)

-- each tree as its entries relative to the tree before it
abbrev pub reverses : Rows → List Rows → List Rows
reverses newer [] = []
reverses newer (older ∷ trees) = reverse older newer ∷ reverses older trees

-- the last of a tree and those that follow it
abbrev pub oldest : Rows → List Rows → Rows
oldest newer [] = newer
oldest newer (older ∷ trees) = oldest older trees

-- all entries laid over each other, those of the last table uppermost
abbrev pub stack : List Rows → Rows
stack [] = []
stack (table ∷ tables) = stacked (stack tables) table

-- a row before others, without which there is nothing
abbrev pub fronted : Option (List ℕ × Record) → Rows → Rows
fronted None rest = []
fronted (Some row) rest = row ∷ rest
