-- What files tell of the pool's index: in the one file of older stores, or in a file for each first byte of a digest.
use Rattle.std.specs.Prelude.{◌≡◌, ◌⊎◌, ℕ, ◌<◌, Bool, true, false, List, Option, Some, None, is_some}
use Rattle.disk_trait.specs.declared.ids.PoolId.{PoolId}
use Rattle.disk_trait.specs.declared.ids.FileId.{FileId}
use Rattle.disk_trait.specs.declared.ids.FileId.TheVariants.{PoolIndex, PoolBucket}
use Rattle.disk_trait.specs.Files.{Files}
use Rattle.pool_index.specs.declared.item.IndexItem.{IndexItem}
use Rattle.pool_index.specs.Items.{byte_of, item_at}
use Rattle.pool_index.specs.Layout.{AreItemsOf, IsIndex, index_file, bucket_of}

-- the file of a byte, and the one file
abbrev pub index_id : Option ℕ → FileId
index_id (Some byte) = PoolBucket byte
index_id None = PoolIndex

-- the item of each name, None where it isn't listed
abbrev pub Index : Type 0
Index = PoolId → Option IndexItem

-- what was found of the file of a byte is that of the items that the index has there
pub record TellsByte (byte : ℕ) (index : Index) (found : Option (List ℕ)) : Type 0 where
  pub items : List IndexItem
  pub are : AreItemsOf (Some byte) items
  pub is : found ≡ bucket_of byte items
  pub each : (id : PoolId) → byte_of id ≡ byte → index id ≡ item_at items id

-- the files of all bytes, without the one file
pub record TellsBuckets (index : Index) (files : Files) : Type 0 where
  pub none : files PoolIndex ≡ None
  pub each : (byte : ℕ) → byte < 256 → TellsByte byte index (files (PoolBucket byte))
  pub within : (id : PoolId) → is_some (index id) ≡ true → byte_of id < 256

-- the one file, without that of any byte
pub record TellsOne (index : Index) (files : Files) : Type 0 where
  pub items : List IndexItem
  pub are : IsIndex None items
  pub is : files PoolIndex ≡ Some (index_file None items)
  pub each : (id : PoolId) → index id ≡ item_at items id
  pub none : (byte : ℕ) → byte < 256 → files (PoolBucket byte) ≡ None

-- the same by a flag: whether it is in one file
abbrev pub TellsIn : Bool → Index → Files → Type 0
TellsIn true = TellsOne
TellsIn false = TellsBuckets

-- what the files tell of the index, in either way
abbrev pub TellsIndex : Index → Files → Type 0
TellsIndex index files = TellsOne index files ⊎ TellsBuckets index files
