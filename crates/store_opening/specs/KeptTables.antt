-- What an opening leaves of the tables of hosts, and which of them it found of the first layout.
--     HasTablesOf all found      the tables are those of other files
--     HasTablesFound told uncertain found      they are those of files that might have been found before
--     AreOldIn told hosts      these are the hosts that have a table of the first layout
use Rattle.std.specs.Prelude.{◌≡◌, ℕ, List, Option, Some}
use Rattle.disk_trait.specs.declared.ids.FileId.TheVariants.{Table}
use Rattle.disk_trait.specs.Files.{Files}
use Rattle.disk_trait.specs.Images.{FileSet}
use Rattle.journal_view.specs.Found.{CanFind}
use Rattle.office_files.specs.TableLayouts.{AreOldHosts}

abbrev pub HasTablesOf : (all found : Files) → Type 0
HasTablesOf all found = (host number : ℕ) → found (Table host number) ≡ all (Table host number)

-- an opening wrote no table
pub record HasTablesFound (told : Option Files) (uncertain : FileSet) (found : Files) : Type 0 where
  pub before : Files
  pub may : CanFind told uncertain before
  pub same : HasTablesOf before found

-- the hosts, by their indexes, that have a table of the first layout in the files that are told
abbrev pub AreOldIn : (told : Option Files) → List ℕ → Type 0
AreOldIn told hosts = (all : Files) → told ≡ Some all → AreOldHosts hosts all
