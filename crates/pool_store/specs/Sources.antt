-- What a pool takes in.
--     IsStaged told number size content      the file of a stage holds this content
--     IsSource source told content      the source is this content
--     SaysLost source told fault      the file of a stage isn't as long as it was made
use Rattle.std.specs.Prelude.{⊤, ◌≡◌, ℕ, Bool, true, false, List, length, Option, Some}
use Rattle.disk_trait.specs.declared.ids.FileId.{FileId}
use Rattle.disk_trait.specs.declared.ids.FileId.TheVariants.{Stage as StageFile}
use Rattle.disk_trait.specs.Files.{Files}
use Rattle.pool_store.specs.declared.fault.PoolFault.{PoolFault}
use Rattle.pool_store.specs.declared.fault.PoolFault.TheVariants.{Foreign, Disk, Memory, Damaged, ChainFull}
use Rattle.pool_store.specs.declared.source.Source.{Source}
use Rattle.pool_store.specs.declared.source.Source.TheVariants.{Bytes, Stage}

abbrev pub length_of : Source → ℕ
length_of (Bytes bytes) = length bytes.now
length_of (Stage number size) = size

abbrev pub is_in_memory : Source → Bool
is_in_memory (Bytes bytes) = true
is_in_memory (Stage number size) = false

-- where the files are told, that of the stage holds this content; it has so many bytes
pub record IsStaged (told : Option Files) (number size : ℕ) (content : List ℕ) : Type 0 where
  pub there : (all : Files) → told ≡ Some all → all (StageFile number) ≡ Some content
  pub size_is : length content ≡ size

-- it is this content
abbrev pub IsSource : Source → Option Files → List ℕ → Type 0
IsSource (Bytes bytes) told content = bytes.now ≡ content
IsSource (Stage number size) told content = IsStaged told number size content

-- the file of the stage is told, and holds nothing of its size
pub record IsStageLost (number size : ℕ) (told : Option Files) (file : FileId) : Type 0 where
  pub is : file ≡ StageFile number
  pub never : (all : Files) (content : List ℕ) → told ≡ Some all → IsStaged told number size content → ⊥

abbrev pub SaysStageLost : ℕ → ℕ → Option Files → PoolFault → Type 0
SaysStageLost number size told fault =
    (file : FileId) (found : Option (List ℕ)) → fault ≡ Foreign file found → IsStageLost number size told file

-- no bytes in memory are lost
abbrev pub IsLost : Source → Option Files → FileId → Type 0
IsLost (Bytes bytes) told file = ⊥
IsLost (Stage number size) told file = IsStageLost number size told file

abbrev pub SaysLost : Source → Option Files → PoolFault → Type 0
SaysLost source told fault = (file : FileId) (found : Option (List ℕ)) → fault ≡ Foreign file found → IsLost source told file

-- the faults that a piece may have
abbrev pub OfPiece : PoolFault → Type 0
OfPiece (Foreign file found) = ⊤
OfPiece Disk = ⊤
OfPiece Memory = ⊤
OfPiece (Damaged id found) = ⊥
OfPiece ChainFull = ⊥
