-- Which files hold partials.
--     head_of_file file, head_at heads host      what is known of a partial;  of the partial of a host
--     HasPartial host partial found      what was found is the file of this partial, or there is neither
--     AreTold files hosts heads      files hold the partials of this many hosts of which the heads are known
--     IsForeign told hosts file found      what was found of the file of one of these hosts is of no partial of it
use Rattle.std.specs.Prelude.{◌≡◌, ℕ, ◌<◌, List, length, Option, Some, None, slice_get}
use Rattle.std.specs.Option.{option_map, option_and_then}
use Rattle.disk_trait.specs.declared.ids.FileId.{FileId}
use Rattle.disk_trait.specs.declared.ids.FileId.TheVariants.{Partial as PartialOf}
use Rattle.disk_trait.specs.Files.{Files}
use Rattle.partial_files.specs.declared.partial.PartialFile.{PartialFile}
use Rattle.partial_files.specs.Layout.{IsPartial}
use Rattle.partial_files.specs.Partials.{partial_file}
use Rattle.host_partials.specs.declared.held.PartialHead.{PartialHead}
use Rattle.host_partials.specs.declared.fault.HostPartialsFault.{HostPartialsFault}
use Rattle.host_partials.specs.declared.fault.HostPartialsFault.TheVariants.{Foreign}

-- the number of its paths, its kind and its start
abbrev pub head_of_file : PartialFile → PartialHead
head_of_file file = record { entries = length file.rows; kind = file.kind; start = file.start }

abbrev pub head_at : List (Option PartialHead) → ℕ → Option PartialHead
head_at heads host = option_and_then (λ head. head) (slice_get heads host)

-- the file of a partial, or no file without one
abbrev pub HasPartial : ℕ → Option PartialFile → Option (List ℕ) → Type 0
HasPartial host None found = found ≡ None
HasPartial host (Some partial) found = IsPartial partial × (found ≡ Some (partial_file host partial))

-- the head is that of the partial that the file holds
pub record TellsHead (host : ℕ) (head : Option PartialHead) (found : Option (List ℕ)) : Type 0 where
  pub partial : Option PartialFile
  pub has : HasPartial host partial found
  pub is : head ≡ option_map head_of_file partial

-- the heads of the partials of the first hosts, in the order of adding
pub record AreTold (files : Files) (hosts : ℕ) (heads : List (Option PartialHead)) : Type 0 where
  pub count : length heads ≡ hosts
  pub each : (host : ℕ) (head : Option PartialHead) → slice_get heads host ≡ Some head → TellsHead host head (files (PartialOf host))

-- ---- refusals

-- the bytes are the file of no partial of the host
abbrev pub HasNone : ℕ → List ℕ → Type 0
HasNone host bytes = (partial : PartialFile) → IsPartial partial → bytes ≡ partial_file host partial → ⊥

-- what a refusal says of what was found of a host's file
abbrev pub SaysNone : ℕ → Option (List ℕ) → HostPartialsFault → Type 0
SaysNone host was fault =
    (file : FileId) (found : List ℕ) → fault ≡ Foreign file found → (file ≡ PartialOf host) × (Some found ≡ was) × HasNone host found

-- the file of a host, of which this was found, holds no partial of it
pub record IsForeignOf (told : Option Files) (host : ℕ) (file : FileId) (found : List ℕ) : Type 0 where
  pub is_file : file ≡ PartialOf host
  pub is : (all : Files) → told ≡ Some all → Some found ≡ all file
  pub none : HasNone host found

abbrev pub SaysForeignOf : Option Files → ℕ → HostPartialsFault → Type 0
SaysForeignOf told host fault = (file : FileId) (found : List ℕ) → fault ≡ Foreign file found → IsForeignOf told host file found

-- that of one of the first hosts
pub record IsForeign (told : Option Files) (hosts : ℕ) (file : FileId) (found : List ℕ) : Type 0 where
  pub host : ℕ
  pub within : host < hosts
  pub of_host : IsForeignOf told host file found

abbrev pub SaysForeign : Option Files → ℕ → HostPartialsFault → Type 0
SaysForeign told hosts fault = (file : FileId) (found : List ℕ) → fault ≡ Foreign file found → IsForeign told hosts file found
