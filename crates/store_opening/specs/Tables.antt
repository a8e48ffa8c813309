-- Tables that the lines of hosts call for.
--     noted      whether one of some files is a table, or it was noted before
--     first_gap, first_of_hosts      the first table that a line of a host calls for and that isn't there, and that of all hosts
--     HasTables      the files have each;  IsMissingTable      they lack one
use Rattle.std.specs.Prelude.{◌≡◌, ◌||◌, ℕ, Bool, true, false, if◌then◌else◌, List, [], ◌∷◌, Option, Some, None, is_some, slice_get}
use Rattle.disk_trait.specs.declared.ids.FileId.{FileId}
use Rattle.disk_trait.specs.declared.ids.FileId.TheVariants as F
use Rattle.disk_trait.specs.Names.{is_same_file}
use Rattle.disk_trait.specs.Files.{Files}
use Rattle.backup_rules.specs.declared.lines.Line.{Line}
use Rattle.backup_index.specs.Index.{Index}
use Rattle.office_catalog.specs.Known.{Known}
use Rattle.office_catalog.specs.Held.{HoldsCatalog}

abbrev pub is_table : FileId → Bool
is_table F.Head = false
is_table F.Intent = false
is_table F.Gate = false
is_table (F.Host host) = false
is_table (F.Table host number) = true
is_table (F.Counts host) = false
is_table F.PoolIndex = false
is_table (F.PoolBucket byte) = false
is_table (F.Partial host) = false
is_table (F.Pool id) = false
is_table (F.Stage number) = false

abbrev pub noted : List FileId → Bool → FileId → Bool
noted [] before table = before
noted (file ∷ files) before table = noted files (is_same_file table file || before) table

abbrev pub first_gap : (has : FileId → Bool) → ℕ → List Line → Option FileId
first_gap has host [] = None
first_gap has host (line ∷ lines) =
    if has (F.Table host line.number) then first_gap has host lines else Some (F.Table host line.number)

abbrev pub first_of_hosts : (has : FileId → Bool) → List Index → Option FileId
first_of_hosts has [] = None
first_of_hosts has (index ∷ hosts) =
    if is_some (first_gap has index.host index.lines) then first_gap has index.host index.lines else first_of_hosts has hosts

-- each table that a line of a host calls for is there
abbrev pub HasTables : Known → Files → Type 0
HasTables known files =
    (host : ℕ) (index : Index) → slice_get known.hosts host ≡ Some index → (i : ℕ) (line : Line) → slice_get index.lines i ≡ Some line
    → is_some (files (F.Table index.host line.number)) ≡ true

-- the file is a table that a line of a host calls for, and isn't there
pub record IsMissingTable (files : Files) (file : FileId) (found : Option (List ℕ)) : Type 0 where
  pub known : Known
  pub holds : HoldsCatalog files known
  pub host : ℕ
  pub index : Index
  pub i : ℕ
  pub line : Line
  pub is_host : slice_get known.hosts host ≡ Some index
  pub is_line : slice_get index.lines i ≡ Some line
  pub file_is : file ≡ F.Table index.host line.number
  pub none : found ≡ None
  pub absent : files file ≡ None
