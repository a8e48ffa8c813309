-- Steps of an opening.
use Rattle.std.specs.Prelude.{◌≡◌, ◌⊎◌, ℕ, List, Option, Some, None, length}
use Rattle.disk_trait.specs.declared.ids.FileId.{FileId}
use Rattle.disk_trait.specs.declared.ids.FileId.TheVariants.{Head, Host}
use Rattle.disk_trait.specs.Files.{Files}
use Rattle.backup_index.specs.declared.head.HeadFile.{HeadFile}
use Rattle.backup_index.specs.Index.{Index}
use Rattle.office_catalog.specs.declared.fault.CatalogFault.{CatalogFault}
use Rattle.office_catalog.specs.declared.fault.CatalogFault.TheVariants.{Foreign, Memory}
use Rattle.office_catalog.specs.Known.{Known, with_host}
use Rattle.office_catalog.specs.Held.{HoldsHead, HoldsIndex, IsNoHead, IsUncalled, IsForeign}

-- why bytes are no head
abbrev pub SaysNoHead : List ℕ → CatalogFault → Type 0
SaysNoHead bytes fault = (fault ≡ Memory) ⊎ ((fault ≡ Foreign Head (Some bytes)) × IsNoHead (Some bytes))

-- Head is absent, or says this head
abbrev pub IsHeadOf : Option HeadFile → Option (List ℕ) → Type 0
IsHeadOf None found = found ≡ None
IsHeadOf (Some head) found = HoldsHead head found

-- the head was told
abbrev pub TellsHead : Option Files → HeadFile → Type 0
TellsHead told head = (all : Files) → told ≡ Some all → HoldsHead head (all Head)

-- the index of the host of this number and name
pub record IsCalled (host : ℕ) (name : List ℕ) (index : Index) : Type 0 where
  pub host_is : index.host ≡ host
  pub name_is : index.name ≡ name

-- why what was found isn't the index that was called for
abbrev pub SaysUncalled : ℕ → List ℕ → Option (List ℕ) → CatalogFault → Type 0
SaysUncalled host name found fault = (fault ≡ Memory) ⊎ ((fault ≡ Foreign (Host host) found) × IsUncalled host name found)

-- what a fault says of a host's file
pub record IsHostFault (told : Option Files) (host : ℕ) (name : List ℕ) (file : FileId) (found : Option (List ℕ)) : Type 0 where
  pub file_is : file ≡ Host host
  pub there : (all : Files) → told ≡ Some all → found ≡ all file
  pub why : IsUncalled host name found

abbrev pub SaysHost : Option Files → ℕ → List ℕ → CatalogFault → Type 0
SaysHost told host name fault =
    (file : FileId) (found : Option (List ℕ)) → fault ≡ Foreign file found → IsHostFault told host name file found

-- what a fault of an opening says of the files
abbrev pub SaysForeign : Option Files → CatalogFault → Type 0
SaysForeign told fault = (file : FileId) (found : Option (List ℕ)) → fault ≡ Foreign file found → IsForeign told file found

-- the index of a further host of this name is known, as the files tell it
pub record IsPushed (told : Option Files) (name : List ℕ) (old new : Known) : Type 0 where
  pub index : Index
  pub called : IsCalled (length old.hosts) name index
  pub new_is : new ≡ with_host old index
  pub held : (all : Files) → told ≡ Some all → HoldsIndex index (all (Host (length old.hosts)))
