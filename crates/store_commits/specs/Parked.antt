-- What a commit reads of its host's partial.
--     AreParked told head host rows      the rows of the host's partial, if one is known
use Rattle.std.specs.Prelude.{◌≡◌, ℕ, Option, Some, None}
use Rattle.disk_trait.specs.declared.ids.FileId.TheVariants.{Partial as PartialOf}
use Rattle.disk_trait.specs.Files.{Files}
use Rattle.merge_view.specs.Views.{Rows}
use Rattle.partial_files.specs.declared.partial.PartialFile.{PartialFile}
use Rattle.host_partials.specs.declared.held.PartialHead.{PartialHead}
use Rattle.host_partials.specs.Held.{HasPartial}

-- the rows of a partial, which the host's file holds
pub record AreRowsOf (told : Option Files) (host : ℕ) (rows : Rows) : Type 0 where
  pub file : PartialFile
  pub rows_are : rows ≡ file.rows
  pub there : (all : Files) → told ≡ Some all → HasPartial host (Some file) (all (PartialOf host))

-- there are rows exactly if a partial is known
abbrev pub AreParked : Option Files → Option PartialHead → ℕ → Option Rows → Type 0
AreParked told None host rows = rows ≡ None
AreParked told (Some head) host None = ⊥
AreParked told (Some head) host (Some rows) = AreRowsOf told host rows
