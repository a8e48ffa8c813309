-- The rows of a partial dump, and the partial dumps that have a file.
--     HasNoMark      no row is a deletion mark
--     IsNext      a row that may stand behind others
--     IsPartial      what has a file
use Rattle.std.specs.Prelude.{◌≡◌, ◌≢◌, ℕ, true, List, [], ◌∷◌}
use Rattle.std.specs.Int.{w64}
use Rattle.std.specs.List.{AllByRecursion}
use Rattle.wire_bytes.specs.Layout.{IsNumber}
use Rattle.ordered_lists.specs.Order.{is_after}
use Rattle.attr_records.specs.Paths.{path_cmp}
use Rattle.attr_tables.specs.declared.layouts.TableLayout.TheVariants.{Second}
use Rattle.attr_tables.specs.declared.records.Record.{Record}
use Rattle.attr_tables.specs.declared.records.Record.TheVariants.{Deleted}
use Rattle.attr_tables.specs.Layout.{Rows, IsRow, IsTable}
use Rattle.partial_files.specs.declared.partial.PartialFile.{PartialFile}

-- RPD1
abbrev pub partial_magic : List ℕ
partial_magic = 82 ∷ 80 ∷ 68 ∷ 49 ∷ []

-- the row is no deletion mark
abbrev pub IsUnmarked : List ℕ × Record → Type 0
IsUnmarked row = row.1 ≢ Deleted

-- no row is a deletion mark
abbrev pub HasNoMark : Rows → Type 0
HasNoMark rows = AllByRecursion IsUnmarked rows

-- a row of the second layout that is no deletion mark
abbrev pub IsKept : List ℕ × Record → Type 0
IsKept row = IsRow Second row × IsUnmarked row

-- such a row whose path comes after those of the rows before it
abbrev pub IsNext : Rows → List ℕ × Record → Type 0
IsNext before row = IsKept row × (is_after path_cmp before row.0 ≡ true)

-- a partial dump that has a file: its rows are those of a table, and none is a deletion mark
pub record IsPartial (file : PartialFile) : Type 0 where
  pub start : IsNumber w64 file.start
  pub table : IsTable Second file.rows
  pub no_mark : HasNoMark file.rows
