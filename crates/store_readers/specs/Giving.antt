-- What an open reader gives.
--     room_of reader      how many bytes its next part has
--     next_of reader      what it gives next
--     FitsNumbers next      where a part ends is a number of 64 bits
--     IsDamagedOr content digest refusal      how a wrong digest is refused
--     GivesPart old at reader reply new      what the reader at an index gives, whatever the files hold; GivesNext, by what comes next
use Rattle.std.specs.Prelude.{⊤, ◌≡◌, ◌⊎◌, ◌+◌, ◌-◌, ◌^◌, ◌<◌, ℕ, min, nat_le, List, [], length, Option, Some, None, Ok, Err, if◌then◌else◌}
use Rattle.disk_trait.specs.declared.ids.PoolId.{PoolId}
use Rattle.disk_trait.specs.declared.ids.FileId.TheVariants.{Pool as PoolFile}
use Rattle.disk_trait.specs.declared.disk.Disk.{Ghosts as DiskGhosts}
use Rattle.disk_trait.specs.Files.{Files, piece as piece_of}
use Rattle.pool_name.specs.declared.namer.Namer.{Ghosts as NamerGhosts}
use Rattle.journal_view.specs.View.{told}
use Rattle.office_model.specs.declared.answer.Answer.TheVariants.{Part}
use Rattle.office_model.specs.declared.refusal.Refusal.{Refusal}
use Rattle.office_model.specs.declared.refusal.Refusal.TheVariants as R
use Rattle.office_model.specs.Meaning.{Reply}
use Rattle.office_model.specs.Office.{piece_limit}
use Rattle.open_sessions.specs.declared.readers.OpenReader.{OpenReader}
use Rattle.open_sessions.specs.Giving.{IsFurther, IsPassed}
use Rattle.open_sessions.specs.Opened.{OnlyReaders}
use Rattle.store_parts.specs.declared.parts.StoreParts.{StoreParts}
use Rattle.store_reads.specs.Pieces.{IsPieceFault}
use Rattle.store_readers.specs.declared.next_part.Asked.{Asked}
use Rattle.store_readers.specs.declared.next_part.NextPart.{NextPart}
use Rattle.store_readers.specs.declared.next_part.NextPart.TheVariants.{End, Piece, Wrong}

-- ---- what comes next

module _ {S : Type 0} where
  abbrev pub room_of : OpenReader S → ℕ
  room_of reader = min piece_limit (reader.size - reader.given)

  -- behind the last byte comes nothing
  abbrev pub asked_of : PoolId → OpenReader S → NextPart
  asked_of content reader =
      if nat_le reader.size reader.given then End
      else Piece (record { content = content; from = reader.given; room = room_of reader })

  abbrev pub next_by : OpenReader S → Option PoolId → Option (List ℕ) → NextPart
  next_by reader None wrong = End
  next_by reader (Some content) (Some digest) = Wrong content digest
  next_by reader (Some content) None = asked_of content reader

  abbrev pub next_of : OpenReader S → NextPart
  next_of reader = next_by reader reader.content reader.wrong

abbrev pub FitsNumbers : NextPart → Type 0
FitsNumbers End = ⊤
FitsNumbers (Piece asked) = asked.from + asked.room < 2 ^ 64
FitsNumbers (Wrong content digest) = ⊤

-- this content was found to have this digest, or memory was wanting
abbrev pub IsDamagedOr : PoolId → List ℕ → Refusal → Type 0
IsDamagedOr content digest (R.Damaged file found) = (file ≡ PoolFile content) × (found ≡ Some digest)
IsDamagedOr content digest R.Memory = ⊤
IsDamagedOr content digest refusal = ⊥

-- ---- whatever the files hold

module _ {D N S : Type 0} {d : DiskGhosts D} {n : NamerGhosts N S} where
  -- the file of the content has the part, and the reader took it in
  pub record PassesPart (old : StoreParts D N S d n) (at : ℕ) (reader : OpenReader S) (asked : Asked) (part : List ℕ)
      (new : StoreParts D N S d n) : Type 0 where
    pub there : (all : Files) → told old.journal ≡ Some all → piece_of (all (PoolFile asked.content)) asked.from asked.room ≡ Some part
    pub whole : length part ≡ asked.room
    pub passed : IsPassed n.holds n.digest_of reader part old.sessions.readers.items.items at new.sessions.readers.items.items
    pub next : new.sessions.readers.next ≡ old.sessions.readers.next
    pub only : OnlyReaders old.sessions new.sessions

  -- behind the last part the digest of all is not that of the name
  pub record FindsWrong (old : StoreParts D N S d n) (at : ℕ) (reader : OpenReader S) (asked : Asked) (refusal : Refusal)
      (new : StoreParts D N S d n) : Type 0 where
    pub part : List ℕ
    pub passes : PassesPart old at reader asked part new
    pub digest : List ℕ
    pub is : passes.passed.next.wrong ≡ Some digest
    pub refused : IsDamagedOr asked.content digest refusal

  -- A part is given only if its file has it, and the last one only if all parts have the digest of the name. A digest that was found
  -- wrong is told each time again.
  abbrev pub GivesNext : NextPart → StoreParts D N S d n → ℕ → OpenReader S → Reply → StoreParts D N S d n → Type 0
  GivesNext End old at reader (Ok answer) new = (answer ≡ Part []) × (new.sessions ≡ old.sessions)
  GivesNext End old at reader (Err refusal) new = ⊥
  GivesNext (Piece asked) old at reader (Ok answer) new =
      (part : List ℕ) × (answer ≡ Part part)
      × ((passes : PassesPart old at reader asked part new)
      × ((bytes : List ℕ) → n.holds reader.digest bytes → IsFurther n.holds n.digest_of reader part passes.passed.next))
  GivesNext (Piece asked) old at reader (Err refusal) new =
      (IsPieceFault old asked.content asked.from asked.room refusal × (new.sessions ≡ old.sessions))
      ⊎ FindsWrong old at reader asked refusal new
  GivesNext (Wrong content digest) old at reader (Ok answer) new = ⊥
  GivesNext (Wrong content digest) old at reader (Err refusal) new =
      IsDamagedOr content digest refusal × (new.sessions ≡ old.sessions)

  abbrev pub GivesPart : StoreParts D N S d n → ℕ → OpenReader S → Reply → StoreParts D N S d n → Type 0
  GivesPart old at reader reply new = GivesNext (next_of reader) old at reader reply new
