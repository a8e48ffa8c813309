-- Where memory finds a reader.
--     IsReaderHere parts number      there is one
--     HasReader old number reply      an answer, and a damaged file, are said only of one that is there
use Rattle.std.specs.Prelude.{⊤, ◌≡◌, ℕ, Some, Ok, Err, slice_get}
use Rattle.disk_trait.specs.declared.disk.Disk.{Ghosts as DiskGhosts}
use Rattle.pool_name.specs.declared.namer.Namer.{Ghosts as NamerGhosts}
use Rattle.open_sessions.specs.declared.readers.OpenReader.{OpenReader}
use Rattle.office_model.specs.declared.refusal.Refusal.TheVariants as R
use Rattle.office_model.specs.Meaning.{Reply}
use Rattle.store_parts.specs.declared.parts.StoreParts.{StoreParts}
use Rattle.store_parts.specs.FoundLaws.{reader_place}

module _ {D N S : Type 0} {d : DiskGhosts D} {n : NamerGhosts N S} where
  -- there is one
  pub record IsReaderHere (parts : StoreParts D N S d n) (number : ℕ) : Type 0 where
    pub place : ℕ
    pub reader : OpenReader S
    pub numbered : Some place ≡ reader_place parts number
    pub here : slice_get parts.sessions.readers.items.items place ≡ Some reader

  abbrev pub HasReader : StoreParts D N S d n → ℕ → Reply → Type 0
  HasReader old number (Ok answer) = IsReaderHere old number
  HasReader old number (Err (R.Damaged file found)) = IsReaderHere old number
  HasReader old number (Err refusal) = ⊤
