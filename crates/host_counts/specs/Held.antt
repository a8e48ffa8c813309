-- Which files hold counts.
--     HasCounts host items found      what was found is the file of these counts
--     TellsCounts host items found      and of no others
--     AreTold files hosts counts      files hold the counts of this many hosts, and no others
--     IsForeign told hosts file found      what was found of the file of one of these hosts is of no counts
use Rattle.std.specs.Prelude.{◌≡◌, ℕ, ◌<◌, List, length, Option, Some, slice_get}
use Rattle.disk_trait.specs.declared.ids.FileId.{FileId}
use Rattle.disk_trait.specs.declared.ids.FileId.TheVariants.{Counts as CountsFile}
use Rattle.disk_trait.specs.Files.{Files}
use Rattle.ref_counts.specs.Numbers.{Items}
use Rattle.ref_counts.specs.Layout.{IsCounts}
use Rattle.ref_counts.specs.CountsFile.{counts_file}
use Rattle.host_counts.specs.declared.fault.HostCountsFault.{HostCountsFault}
use Rattle.host_counts.specs.declared.fault.HostCountsFault.TheVariants.{Foreign}

pub record HasCounts (host : ℕ) (items : Items) (found : Option (List ℕ)) : Type 0 where
  pub fits : IsCounts items
  pub is : found ≡ Some (counts_file host items)

pub record TellsCounts (host : ℕ) (items : Items) (found : Option (List ℕ)) : Type 0 where
  pub has : HasCounts host items found
  pub only : (others : Items) → HasCounts host others found → items ≡ others

-- the counts of the first hosts, in the order of adding
pub record AreTold (files : Files) (hosts : ℕ) (counts : List Items) : Type 0 where
  pub count : length counts ≡ hosts
  pub each : (host : ℕ) (items : Items) → slice_get counts host ≡ Some items → TellsCounts host items (files (CountsFile host))

-- ---- refusals

abbrev pub HasNone : ℕ → Option (List ℕ) → Type 0
HasNone host found = (items : Items) → HasCounts host items found → ⊥

-- what a refusal says of what was found of a host's file
abbrev pub SaysNone : ℕ → Option (List ℕ) → HostCountsFault → Type 0
SaysNone host was fault =
    (file : FileId) (found : Option (List ℕ)) → fault ≡ Foreign file found → (file ≡ CountsFile host) × (found ≡ was) × HasNone host found

-- the file of a host, of which this was found, holds no counts
pub record IsForeignOf (told : Option Files) (host : ℕ) (file : FileId) (found : Option (List ℕ)) : Type 0 where
  pub is_file : file ≡ CountsFile host
  pub is : (all : Files) → told ≡ Some all → found ≡ all file
  pub none : HasNone host found

abbrev pub SaysForeignOf : Option Files → ℕ → HostCountsFault → Type 0
SaysForeignOf told host fault = (file : FileId) (found : Option (List ℕ)) → fault ≡ Foreign file found → IsForeignOf told host file found

-- that of one of the first hosts
pub record IsForeign (told : Option Files) (hosts : ℕ) (file : FileId) (found : Option (List ℕ)) : Type 0 where
  pub host : ℕ
  pub within : host < hosts
  pub of_host : IsForeignOf told host file found

abbrev pub SaysForeign : Option Files → ℕ → HostCountsFault → Type 0
SaysForeign told hosts fault = (file : FileId) (found : Option (List ℕ)) → fault ≡ Foreign file found → IsForeign told hosts file found
