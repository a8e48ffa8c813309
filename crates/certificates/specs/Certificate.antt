-- What a certificate says of a store: of each host the ids that its tables and its partial name, and its counts; of each file of the pool
-- the digest of the bytes that were found in it.
use Rattle.std.specs.Prelude.{ℕ, Bool, List}

-- an id: the sixteen bytes of a content's MD5, and the two of its extension, the highest first
abbrev pub Id : Type 0
Id = List ℕ

-- a table: the ids of its files that aren't empty, in the order of its records
pub record Table : Type 0 where
  pub number : ℕ
  pub ids : List Id

-- what the counts of a host have of an id
pub record Item : Type 0 where
  pub id : Id
  pub count : ℕ

pub record HostPart : Type 0 where
  pub name : List ℕ
  pub tables : List Table
  pub partial : List Id
  pub items : List Item

-- a file of the pool, with the MD5 of the bytes that were found in it
pub record PoolFile : Type 0 where
  pub id : Id
  pub size : ℕ
  pub found : List ℕ
  pub mark : Bool

pub record Certificate : Type 0 where
  pub epoch : ℕ
  pub hosts : List HostPart
  pub pool : List PoolFile
