-- What a restore gives from its rows.
--     removal_in removed row      the frame of the removal of a row
--     entry_in rows row      the frame of the entry of a row; behind the last row the end
--     room_of asked, is_last asked      how many bytes the asked piece has, and whether it is the last of its content
--     HasTaken holds place content      the digest at a place took in these bytes of its content, and no more
--     IsBehind holds digest_of place asked piece next      how a place moves on behind this piece
--     wrong_in place      a wrong digest, if a place has one
--     IsDamagedOr content digest refusal      how that is refused
--     MovesTo old at restore place new      sessions whose restore at this index has another place
--     GivesNext next old at restore reply new      what a restore gives next, whatever the files hold
use Rattle.std.specs.Prelude.{⊤, ◌≡◌, ◌≢◌, ◌⊎◌, Ok, Err, ℕ, ◌+◌, ◌-◌, min, nat_le, Bool, true, false, List, [], ◌++◌, length, Option, Some, None, slice_get, slice_set}
use Rattle.disk_trait.specs.declared.ids.PoolId.{PoolId}
use Rattle.disk_trait.specs.declared.ids.FileId.TheVariants.{Pool as PoolFile}
use Rattle.disk_trait.specs.declared.disk.Disk.{Ghosts as DiskGhosts}
use Rattle.disk_trait.specs.Files.{Files, piece as piece_of}
use Rattle.pool_name.specs.declared.namer.Namer.{Ghosts as NamerGhosts}
use Rattle.journal_view.specs.View.{told}
use Rattle.attr_tables.specs.declared.records.Record.{Record}
use Rattle.merge_view.specs.Views.{Rows}
use Rattle.tree_frames.specs.declared.nodes.Node.{Node}
use Rattle.tree_frames.specs.declared.nodes.Frame.{Frame}
use Rattle.tree_frames.specs.declared.nodes.Frame.TheVariants as F
use Rattle.office_model.specs.declared.answer.Answer.TheVariants.{Next as NextAnswer}
use Rattle.office_model.specs.declared.refusal.Refusal.{Refusal}
use Rattle.office_model.specs.declared.refusal.Refusal.TheVariants as R
use Rattle.office_model.specs.Meaning.{Reply}
use Rattle.open_sessions.specs.declared.sessions.Asked.{Asked}
use Rattle.open_sessions.specs.declared.sessions.Next.{Next}
use Rattle.open_sessions.specs.declared.sessions.OpenRestore.{OpenRestore}
use Rattle.open_sessions.specs.declared.sessions.Place.{Place}
use Rattle.open_sessions.specs.declared.sessions.Place.TheVariants.{Removal, Entry, Content, Piece, Wrong}
use Rattle.open_sessions.specs.declared.sessions.Sessions.{Sessions}
use Rattle.open_sessions.specs.Opened.{OnlyRestores}
use Rattle.open_sessions.specs.Places.{at_removal, behind_entry}
use Rattle.store_parts.specs.declared.parts.StoreParts.{StoreParts}
use Rattle.store_reads.specs.Shown.{node_in}
use Rattle.store_reads.specs.Pieces.{IsPieceFault}

-- ---- removals

-- a place stands at none that isn't there
abbrev pub removal_told : Option (List ℕ × Record) → Frame
removal_told None = F.End 0
removal_told (Some row) = F.Deleted row.0

abbrev pub removal_in : Rows → ℕ → Frame
removal_in removed row = removal_told (slice_get removed row)

-- ---- entries

-- how many rows the end says; a tree has fewer
abbrev pub count_of : Rows → ℕ
count_of rows = min (length rows) 4294967295

-- a deletion mark has no entry; a whole tree has none
abbrev pub entry_frame : ℕ → List ℕ → Option Node → Frame
entry_frame total path None = F.End total
entry_frame total path (Some node) = F.Entry path node

abbrev pub frame_found : ℕ → Option (List ℕ × Record) → Frame
frame_found total None = F.End total
frame_found total (Some row) = entry_frame total row.0 (node_in row.1)

abbrev pub entry_in : Rows → ℕ → Frame
entry_in rows row = frame_found (count_of rows) (slice_get rows row)

-- ---- pieces

abbrev pub room_of : Asked → ℕ
room_of asked = min 65536 (asked.size - asked.from)

abbrev pub is_last : Asked → Bool
is_last asked = nat_le (asked.size - asked.from) 65536

abbrev pub HasTaken : {S : Type 0} → (S → List ℕ → Type 0) → Place S → List ℕ → Type 0
HasTaken holds (Removal row) content = ⊥
HasTaken holds (Entry row) content = ⊥
HasTaken holds (Content row) content = content ≡ []
HasTaken holds (Piece row given digest) content = holds digest content
HasTaken holds (Wrong content' digest) content = ⊥

module _ {S : Type 0} (holds : S → List ℕ → Type 0) (digest_of : List ℕ → List ℕ) where
  -- behind the last piece comes the next row's entry, if the digest of all pieces is the one in the content's name
  abbrev pub IsBehind : Place S → Asked → List ℕ → Place S → Type 0
  IsBehind place asked piece (Removal row) = ⊥
  IsBehind place asked piece (Entry row) =
      (row ≡ asked.row + 1) × (is_last asked ≡ true)
      × ((content : List ℕ) → HasTaken holds place content → asked.content.digest ≡ digest_of (content ++ piece))
  IsBehind place asked piece (Content row) = ⊥
  IsBehind place asked piece (Piece row given digest) =
      (row ≡ asked.row) × (given ≡ asked.from + 65536) × (is_last asked ≡ false)
      × ((content : List ℕ) → HasTaken holds place content → holds digest (content ++ piece))
  IsBehind place asked piece (Wrong content' digest) =
      (content' ≡ asked.content) × (is_last asked ≡ true) × (digest ≢ asked.content.digest)
      × ((content : List ℕ) → HasTaken holds place content → digest ≡ digest_of (content ++ piece))

abbrev pub wrong_in : {S : Type 0} → Place S → Option (List ℕ)
wrong_in (Removal row) = None
wrong_in (Entry row) = None
wrong_in (Content row) = None
wrong_in (Piece row given digest) = None
wrong_in (Wrong content digest) = Some digest

-- this content was found to have this digest, or memory was wanting
abbrev pub IsDamagedOr : PoolId → List ℕ → Refusal → Type 0
IsDamagedOr content digest (R.Damaged file found) = (file ≡ PoolFile content) × (found ≡ Some digest)
IsDamagedOr content digest R.Memory = ⊤
IsDamagedOr content digest refusal = ⊥

-- ---- what is done

pub record MovesTo {S : Type 0} (old : Sessions S) (at : ℕ) (restore : OpenRestore S) (place : Place S) (new : Sessions S) : Type 0 where
  pub restores : new.restores.items ≡ slice_set old.restores.items at (record restore { place = place })
  pub only : OnlyRestores old new

-- ---- whatever the files hold

module _ {D N S : Type 0} {d : DiskGhosts D} {n : NamerGhosts N S} where
  -- the file of the content has the piece, and the restore moved on behind it
  pub record PassesPiece (old : StoreParts D N S d n) (at : ℕ) (restore : OpenRestore S) (asked : Asked) (piece : List ℕ)
      (new : StoreParts D N S d n) : Type 0 where
    pub there : (all : Files) → told old.journal ≡ Some all
        → piece_of (all (PoolFile asked.content)) asked.from (room_of asked) ≡ Some piece
    pub place : Place S
    pub behind : IsBehind n.holds n.digest_of restore.place asked piece place
    pub moves : MovesTo old.sessions at restore place new.sessions

  -- behind the last piece the digest of all is not that of the name
  pub record FindsWrong (old : StoreParts D N S d n) (at : ℕ) (restore : OpenRestore S) (asked : Asked) (refusal : Refusal)
      (new : StoreParts D N S d n) : Type 0 where
    pub piece : List ℕ
    pub passes : PassesPiece old at restore asked piece new
    pub digest : List ℕ
    pub is : Some digest ≡ wrong_in passes.place
    pub refused : IsDamagedOr asked.content digest refusal

  -- a piece is given only if its file has it, and the last one only if all pieces have the digest of the name
  abbrev pub GivesNext : Next → StoreParts D N S d n → ℕ → OpenRestore S → Reply → StoreParts D N S d n → Type 0
  GivesNext (Next.Removal row) old at restore (Ok answer) new =
      (answer ≡ NextAnswer (removal_in restore.removed row))
      × MovesTo old.sessions at restore (at_removal (row + 1) (slice_get restore.removed (row + 1))) new.sessions
  GivesNext (Next.Removal row) old at restore (Err refusal) new = (refusal ≡ R.Memory) × (new.sessions ≡ old.sessions)
  GivesNext (Next.Entry row) old at restore (Ok answer) new =
      (answer ≡ NextAnswer (entry_in restore.rows row))
      × MovesTo old.sessions at restore (behind_entry row (slice_get restore.rows row)) new.sessions
  GivesNext (Next.Entry row) old at restore (Err refusal) new = (refusal ≡ R.Memory) × (new.sessions ≡ old.sessions)
  GivesNext (Next.Piece asked) old at restore (Ok answer) new =
      (piece : List ℕ) × (answer ≡ NextAnswer (F.Piece piece))
      × ((passes : PassesPiece old at restore asked piece new) × (wrong_in passes.place ≡ None))
  GivesNext (Next.Piece asked) old at restore (Err refusal) new =
      (IsPieceFault old asked.content asked.from (room_of asked) refusal × (new.sessions ≡ old.sessions))
      ⊎ FindsWrong old at restore asked refusal new
  GivesNext (Next.Wrong content digest) old at restore (Ok answer) new = ⊥
  GivesNext (Next.Wrong content digest) old at restore (Err refusal) new =
      IsDamagedOr content digest refusal × (new.sessions ≡ old.sessions)
