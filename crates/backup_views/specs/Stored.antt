-- What files tell of a host's backups by their tables.
--     IsTableFile rows found      what was found is the file of these rows, in either layout
--     AreTableFiles all host lines tables      each line's table is its file
--     AreTables all host lines tables      and that of a filled backup is a whole tree
--     tree_from lines tables      the tree of the first of these backups, the oldest, through the tables
--     TellsTree all host lines tree      the files tell this tree of the first of these backups
use Rattle.std.specs.Prelude.{◌≡◌, ℕ, ◌+◌, true, List, [], ◌∷◌, length, reverse, take, Option, Some, if◌then◌else◌}
use Rattle.disk_trait.specs.declared.ids.FileId.TheVariants.{Table}
use Rattle.disk_trait.specs.Files.{Files}
use Rattle.backup_rules.specs.declared.lines.Line.{Line}
use Rattle.attr_tables.specs.declared.layouts.TableLayout.{TableLayout}
use Rattle.attr_tables.specs.Layout.{IsTable}
use Rattle.attr_tables.specs.Tables.{table_file}
use Rattle.merge_view.specs.Views.{Rows, IsWhole, view}
use Rattle.merge_view.specs.Tables.{whole}

pub record IsTableFile (rows : Rows) (found : Option (List ℕ)) : Type 0 where
  pub layout : TableLayout
  pub fits : IsTable layout rows
  pub is : found ≡ Some (table_file layout rows)

-- one table for each line, which its file tells
abbrev pub AreTableFiles : Files → ℕ → List Line → List Rows → Type 0
AreTableFiles all host [] [] = Unit {0}
AreTableFiles all host [] (rows ∷ tables) = ⊥
AreTableFiles all host (line ∷ lines) [] = ⊥
AreTableFiles all host (line ∷ lines) (rows ∷ tables) = IsTableFile rows (all (Table host line.number)) × AreTableFiles all host lines tables

-- the table of a backup of this host; a filled one is a whole tree
pub record HasTable (all : Files) (host : ℕ) (line : Line) (rows : Rows) : Type 0 where
  pub file : IsTableFile rows (all (Table host line.number))
  pub whole : line.filled ≡ true → IsWhole rows

abbrev pub AreTables : Files → ℕ → List Line → List Rows → Type 0
AreTables all host [] [] = Unit {0}
AreTables all host [] (rows ∷ tables) = ⊥
AreTables all host (line ∷ lines) [] = ⊥
AreTables all host (line ∷ lines) (rows ∷ tables) = HasTable all host line rows × AreTables all host lines tables

-- a filled one has its own rows, another its entries over the tree of the next newer one
abbrev pub tree_from : List Line → List Rows → Rows
tree_from [] tables = []
tree_from (line ∷ lines) [] = []
tree_from (line ∷ lines) (rows ∷ tables) = if line.filled then rows else view (tree_from lines tables) rows

-- how many of these backups show the tree of the first: up to the nearest filled one
abbrev pub depth_of : List Line → ℕ
depth_of [] = 0
depth_of (line ∷ lines) = if line.filled then 1 else depth_of lines + 1

-- each table that the first of these backups calls for is there and in its grammar, and the tree is what they show
pub record TellsTree (all : Files) (host : ℕ) (lines : List Line) (tree : Rows) : Type 0 where
  pub tables : List Rows
  pub files : AreTableFiles all host (take (depth_of lines) lines) tables
  pub shown : tree ≡ whole (reverse tables)
