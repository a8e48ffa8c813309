-- A piece of a content of the pool, whatever its file holds.
--     size_at index id      how many bytes a content has, by what the index says of its name
--     room_of size from      how many bytes the piece from a place on has
--     IsPieceAt told id size from part      nothing past the end; else what the content's file has there
--     GivesPiece old id from reply      what is answered, or why there is none
use Rattle.std.specs.Prelude.{◌≡◌, ◌<◌, ◌-◌, ℕ, min, List, length, Option, Some, None, Ok, Err, option_map}
use Rattle.disk_trait.specs.declared.ids.PoolId.{PoolId}
use Rattle.disk_trait.specs.declared.ids.FileId.TheVariants.{Pool as PoolFile}
use Rattle.disk_trait.specs.declared.disk.Disk.{Ghosts as DiskGhosts}
use Rattle.disk_trait.specs.Files.{Files, piece}
use Rattle.pool_name.specs.declared.namer.Namer.{Ghosts as NamerGhosts}
use Rattle.journal_view.specs.View.{told}
use Rattle.pool_index.specs.declared.item.IndexItem.{IndexItem}
use Rattle.pool_index.specs.Index.{Index}
use Rattle.pool_changes.specs.Listed.{index_of}
use Rattle.office_model.specs.declared.answer.Answer.TheVariants.{Part}
use Rattle.office_model.specs.declared.refusal.BrokenRule.TheVariants.{NoContent}
use Rattle.office_model.specs.declared.refusal.Refusal.TheVariants as R
use Rattle.office_model.specs.Meaning.{Reply}
use Rattle.office_model.specs.Office.{piece_limit}
use Rattle.store_parts.specs.declared.parts.StoreParts.{StoreParts}
use Rattle.store_parts.specs.States.{slots}
use Rattle.store_reads.specs.Pieces.{IsPieceFault}

abbrev pub size_at : Index → PoolId → Option ℕ
size_at index id = option_map (λ (item : IndexItem). item.size) (index id)

abbrev pub room_of : ℕ → ℕ → ℕ
room_of size from = min piece_limit (size - from)

pub record IsPieceAt (told : Option Files) (id : PoolId) (size from : ℕ) (part : List ℕ) : Type 0 where
  pub whole : length part ≡ room_of size from
  pub there : from < size → (all : Files) → told ≡ Some all → piece (all (PoolFile id)) from (room_of size from) ≡ Some part

module _ {D N S : Type 0} {d : DiskGhosts D} {n : NamerGhosts N S} where
  -- how many bytes the index in memory says that the content of a name has
  abbrev pub IsSized : StoreParts D N S d n → PoolId → ℕ → Type 0
  IsSized parts id size = size_at (index_of (slots parts)) id ≡ Some size

  -- A piece is of a listed content; a damaged file is that of the content, and has less than the index says.
  abbrev pub GivesPiece : StoreParts D N S d n → PoolId → ℕ → Reply → Type 0
  GivesPiece old id from (Ok answer) =
      (size : ℕ) × IsSized old id size × (part : List ℕ) × (answer ≡ Part part) × IsPieceAt (told old.journal) id size from part
  GivesPiece old id from (Err (R.Broken rule)) = (rule ≡ NoContent) × (size_at (index_of (slots old)) id ≡ None)
  GivesPiece old id from (Err refusal) =
      (size : ℕ) × IsSized old id size × (from < size) × IsPieceFault old id from (room_of size from) refusal
