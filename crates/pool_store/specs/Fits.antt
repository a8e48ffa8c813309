-- What holds between a pool and the files, and that its calls keep it.
use Rattle.std.specs.Prelude.{◌≡◌, ℕ, ◌<◌, true, List, length, Option, Some}
use Rattle.disk_trait.specs.declared.ids.PoolId.{PoolId}
use Rattle.disk_trait.specs.declared.ids.FileId.TheVariants.{Pool}
use Rattle.disk_trait.specs.Files.{Files}
use Rattle.disk_trait.specs.Images.{FileSet}
use Rattle.pool_changes.specs.declared.slot.Slot.{Slot}
use Rattle.pool_changes.specs.Slots.{Slots, is_live, is_given, size_of}
use Rattle.pool_store.specs.Pools.{IsCertain}

-- the file of a name holds a content of its digest and size
pub record IsHeld (digest_of : List ℕ → List ℕ) (id : PoolId) (slot : Option Slot) (bytes : Option (List ℕ)) : Type 0 where
  pub content : List ℕ
  pub is : bytes ≡ Some content
  pub digest : digest_of content ≡ id.digest
  pub size : size_of slot ≡ length content
  pub some : 0 < length content

-- live and staged names have files that hold their contents, different names different ones; those of the index are durable
pub record Fits (digest_of : List ℕ → List ℕ) (slots : Slots) (uncertain : FileSet) (all : Files) : Type 0 where
  pub near : (id : PoolId) → is_given (slots id) ≡ true → id.extension < 65536
  pub held : (id : PoolId) → is_given (slots id) ≡ true → IsHeld digest_of id (slots id) (all (Pool id))
  pub one : (a b : PoolId) (content : List ℕ) → is_given (slots a) ≡ true → is_given (slots b) ≡ true → all (Pool a) ≡ Some content
      → all (Pool b) ≡ Some content → a ≡ b
  pub certain : IsCertain slots uncertain

-- what is given now was given, with the same size and file, and what is live was live
pub record IsLess (old new : Slots) (all all' : Files) : Type 0 where
  pub given : (asked : PoolId) → is_given (new asked) ≡ true → is_given (old asked) ≡ true
  pub size : (asked : PoolId) → is_given (new asked) ≡ true → size_of (new asked) ≡ size_of (old asked)
  pub file : (asked : PoolId) → is_given (new asked) ≡ true → all' (Pool asked) ≡ all (Pool asked)
  pub live : (asked : PoolId) → is_live (new asked) ≡ true → is_live (old asked) ≡ true
