-- What reading the partial of a host finds.
--     IsParkedAs head host parked found      the file of the partial of which this is known, none without one
--     IsParkedFault told head host refusal      why it wasn't read
use Rattle.std.specs.Prelude.{⊤, ◌≡◌, ◌⊎◌, ℕ, List, Option, Some, None}
use Rattle.disk_trait.specs.declared.ids.FileId.{FileId}
use Rattle.disk_trait.specs.declared.ids.FileId.TheVariants.{Partial as PartialOf}
use Rattle.disk_trait.specs.Files.{Files}
use Rattle.partial_files.specs.declared.partial.PartialFile.{PartialFile}
use Rattle.host_partials.specs.declared.held.PartialHead.{PartialHead}
use Rattle.host_partials.specs.Held.{HasPartial, HasNone}
use Rattle.office_model.specs.declared.refusal.Refusal.{Refusal}
use Rattle.office_model.specs.declared.refusal.Refusal.TheVariants as R

-- a partial is read exactly if one is known, and then it is the file's
abbrev pub IsParkedAs : Option PartialHead → ℕ → Option PartialFile → Option (List ℕ) → Type 0
IsParkedAs None host parked found = parked ≡ None
IsParkedAs (Some head) host None found = ⊥
IsParkedAs (Some head) host (Some file) found = HasPartial host (Some file) found

-- bytes that were found, or none: they are no partial of the host
abbrev pub HoldsNone : ℕ → Option (List ℕ) → Type 0
HoldsNone host None = ⊤
HoldsNone host (Some bytes) = HasNone host bytes

-- what was found of the file of a partial that is known
pub record IsNoPartial (told : Option Files) (host : ℕ) (file : FileId) (found : Option (List ℕ)) : Type 0 where
  pub is_file : file ≡ PartialOf host
  pub is : (all : Files) → told ≡ Some all → found ≡ all file
  pub none : HoldsNone host found

-- Why a partial wasn't read: the disk failed, memory was wanting, or its file has none: what was found of it.
abbrev pub IsParkedFault : Option Files → Option PartialHead → ℕ → Refusal → Type 0
IsParkedFault told None host refusal = ⊥
IsParkedFault told (Some head) host R.DiskFault = ⊤
IsParkedFault told (Some head) host R.Memory = ⊤
IsParkedFault told (Some head) host (R.Damaged file found) = IsNoPartial told host file found
IsParkedFault told (Some head) host refusal = ⊥
