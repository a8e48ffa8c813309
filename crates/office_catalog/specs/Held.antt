-- Files that hold a catalog.
--     head_file, index_file      the bytes of Head, and of the index of a host in a layout
--     HoldsCatalog      the catalog that Head and the Host files hold
--     IsForeign      a file that Head calls for, or Head itself, was found to be none
use Rattle.std.specs.Prelude.{◌≡◌, ◌⊎◌, ℕ, List, Option, Some, None, slice_get}
use Rattle.wire_bytes.specs.Seal.{sealed}
use Rattle.disk_trait.specs.declared.ids.FileId.{FileId}
use Rattle.disk_trait.specs.declared.ids.FileId.TheVariants.{Head, Host}
use Rattle.disk_trait.specs.Files.{Files}
use Rattle.backup_index.specs.declared.head.HeadFile.{HeadFile}
use Rattle.backup_index.specs.declared.layouts.IndexLayout.{IndexLayout}
use Rattle.backup_index.specs.Head.{IsHead, head_grammar}
use Rattle.backup_index.specs.Index.{Index, IsStored}
use Rattle.backup_index.specs.Stored.{index_grammar}
use Rattle.office_catalog.specs.Known.{Known, nothing_known, head_of, IsCatalog}

abbrev pub head_file : HeadFile → List ℕ
head_file head = sealed ((head_grammar).print head)

abbrev pub index_file : IndexLayout × Index → List ℕ
index_file stored = sealed ((index_grammar).print stored)

-- the file says this head
pub record HoldsHead (head : HeadFile) (found : Option (List ℕ)) : Type 0 where
  pub fits : IsHead head
  pub is : found ≡ Some (head_file head)

-- the file says this index, in one layout or another
pub record HoldsIndex (index : Index) (found : Option (List ℕ)) : Type 0 where
  pub layout : IndexLayout
  pub fits : IsStored (layout, index)
  pub is : found ≡ Some (index_file (layout, index))

-- Head says what is known of epoch and names; an absent Head stands for no hosts and epoch 0
abbrev pub HoldsNames : Known → Option (List ℕ) → Type 0
HoldsNames known found = HoldsHead (head_of known) found ⊎ ((found ≡ None) × (known ≡ nothing_known))

-- The files Head and Host hold this catalog. Of other Host files it says nothing.
pub record HoldsCatalog (files : Files) (known : Known) : Type 0 where
  pub is : IsCatalog known.hosts
  pub head : HoldsNames known (files Head)
  pub each : (host : ℕ) (index : Index) → slice_get known.hosts host ≡ Some index → HoldsIndex index (files (Host host))

-- ---- files that hold none

-- no head has these bytes
pub record IsNoHead (found : Option (List ℕ)) : Type 0 where
  pub bytes : List ℕ
  pub is : found ≡ Some bytes
  pub none : (head : HeadFile) → IsHead head → bytes ≡ head_file head → ⊥

-- no index has these bytes
pub record IsNoIndex (found : Option (List ℕ)) : Type 0 where
  pub bytes : List ℕ
  pub is : found ≡ Some bytes
  pub none : (stored : IndexLayout × Index) → IsStored stored → bytes ≡ index_file stored → ⊥

-- an index of another number or name
pub record IsAnother (host : ℕ) (name : List ℕ) (found : Option (List ℕ)) : Type 0 where
  pub index : Index
  pub holds : HoldsIndex index found
  pub other : index.host ≡ host → index.name ≡ name → ⊥

-- the index of a host of this name was called for, and its file is absent, outside its grammar, or of another host
abbrev pub IsUncalled : ℕ → List ℕ → Option (List ℕ) → Type 0
IsUncalled host name found = (found ≡ None) ⊎ (IsNoIndex found ⊎ IsAnother host name found)

-- Head calls for a host, and what was found of its file isn't that host's index
pub record IsForeignHost (told : Option Files) (file : FileId) (found : Option (List ℕ)) : Type 0 where
  pub host : ℕ
  pub name : List ℕ
  pub head : HeadFile
  pub file_is : file ≡ Host host
  pub named : slice_get head.names host ≡ Some name
  pub called : (all : Files) → told ≡ Some all → HoldsHead head (all Head)
  pub why : IsUncalled host name found

-- what was found of a file that doesn't belong to a catalog
pub record IsForeign (told : Option Files) (file : FileId) (found : Option (List ℕ)) : Type 0 where
  pub there : (all : Files) → told ≡ Some all → found ≡ all file
  pub why : ((file ≡ Head) × IsNoHead found) ⊎ IsForeignHost told file found
