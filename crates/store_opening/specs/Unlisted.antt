-- Contents that the counts of hosts have and the index of the pool lacks.
--     first_unlisted, first_of_all      the first of a host's counts, and of all hosts'
--     AreAllListed      there is none
--     index_file_of      the file of the index in which a content is to be listed
--     IsUnlisting      it was found not to list one
use Rattle.std.specs.Prelude.{◌≡◌, ◌<◌, ℕ, Bool, true, false, if◌then◌else◌, List, [], ◌∷◌, length, Option, Some, None, is_some, slice_get}
use Rattle.disk_trait.specs.declared.ids.PoolId.{PoolId}
use Rattle.disk_trait.specs.declared.ids.FileId.{FileId}
use Rattle.disk_trait.specs.declared.ids.FileId.TheVariants.{PoolIndex, PoolBucket}
use Rattle.disk_trait.specs.Files.{Files}
use Rattle.pool_index.specs.Items.{byte_of}
use Rattle.pool_index.specs.Index.{Index as Listing}
use Rattle.pool_changes.specs.Slots.{Slots}
use Rattle.pool_changes.specs.Listed.{index_of}
use Rattle.pool_store.specs.Opened.{Opens}
use Rattle.ref_counts.specs.Numbers.{Items, number}
use Rattle.host_counts.specs.Held.{AreTold}
use Rattle.office_catalog.specs.Known.{Known}
use Rattle.office_catalog.specs.Held.{HoldsCatalog}

abbrev pub first_unlisted : Listing → Items → Option PoolId
first_unlisted index [] = None
first_unlisted index (item ∷ items) = if is_some (index item.0) then first_unlisted index items else Some item.0

abbrev pub first_of_all : Listing → List Items → Option PoolId
first_of_all index [] = None
first_of_all index (items ∷ counts) = if is_some (first_unlisted index items) then first_unlisted index items else first_of_all index counts

-- each content that a host's counts have is listed
abbrev pub AreAllListed : Listing → List Items → Type 0
AreAllListed index counts =
    (host : ℕ) (items : Items) → slice_get counts host ≡ Some items → (id : PoolId) → 0 < number items id → is_some (index id) ≡ true

-- the one file where there is one, else that of the digest's first byte
abbrev pub index_file_of : (in_one_file : Bool) → PoolId → FileId
index_file_of true id = PoolIndex
index_file_of false id = PoolBucket (byte_of id)

-- this was found of a file of the index, absent or not, which doesn't list a content that the counts of a host have
pub record IsUnlisting (files : Files) (file : FileId) (found : Option (List ℕ)) : Type 0 where
  pub in_one_file : Bool
  pub slots : Slots
  pub catalog : Known
  pub counts : List Items
  pub pool : Opens in_one_file slots files
  pub holds : HoldsCatalog files catalog
  pub counted : AreTold files (length catalog.hosts) counts
  pub host : ℕ
  pub items : Items
  pub at : slice_get counts host ≡ Some items
  pub id : PoolId
  pub some : 0 < number items id
  pub unlisted : index_of slots id ≡ None
  pub file_is : file ≡ index_file_of (is_some (files PoolIndex)) id
  pub is : found ≡ files file
