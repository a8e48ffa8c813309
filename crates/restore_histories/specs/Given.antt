-- What a restore gives through a history, whoever reads it, and whatever comes between.
--     given_in      the frames that a restore gave, in order
--     IsRun      frames are a beginning of a list, or all of it with its last frame again and again
--     GivesBackup      what was given is a run of what leads to a backup's tree
--     RestoreGives      so it is of a backup of the office in which the restore was opened
--     OpenedIsListed      and of the office in which the host's backups were listed before
--     RunBegins      up to the first End a run is a beginning of the frames, and with it it is all of them
use Rattle.std.specs.Prelude.{◌≡◌, ℕ, ◌-◌, min, List, [], ◌∷◌, ◌++◌, length, Option, Some, IfSome, Ok, slice_get, if◌then◌else◌}
use Rattle.attr_records.specs.Items.{Tree}
use Rattle.backup_rules.specs.declared.lines.Line.{Line}
use Rattle.receipts.specs.declared.session.SessionName.{SessionName}
use Rattle.receipts.specs.Session.{is_same_session}
use Rattle.tree_frames.specs.declared.nodes.Frame.{Frame}
use Rattle.tree_frames.specs.declared.nodes.Frame.TheVariants.{End}
use Rattle.tree_frames.specs.Frames.{frames_since}
use Rattle.office_model.specs.declared.event.Event.{Event}
use Rattle.office_model.specs.declared.event.Event.TheVariants.{OpenRead, ReadNext, Backups}
use Rattle.office_model.specs.declared.answer.Answer.TheVariants.{Next, Restore as Opened, Backups as Listing}
use Rattle.office_model.specs.Office.{Office, Host, Backup, Names}
use Rattle.office_model.specs.Parts.{backup_of}
use Rattle.office_model.specs.Meaning.{Reply}
use Rattle.office_model.specs.UsedNames.{AreSound}
use Rattle.office_model.specs.Step.{Call, Running}
use Rattle.office_model.specs.History.{Entry, IsHistory, calls_of}
use Rattle.office_model.specs.events.OpenRead.{base_of}

-- the frame that an answered ReadNext of this restore gave
abbrev pub given_by : SessionName → Event → Reply → List Frame
given_by session (ReadNext read) (Ok (Next frame)) = if is_same_session read session then frame ∷ [] else []
given_by session event reply = []

abbrev pub given_in : SessionName → List Call → List Frame
given_in session [] = []
given_in session (call ∷ calls) = given_by session call.0 call.1 ++ given_in session calls

-- the frame at each place is that of the list at this place, or, behind its end, its last one
abbrev pub IsRun : (frames given : List Frame) → Type 0
IsRun frames given = (k : ℕ) (frame : Frame) → slice_get given k ≡ Some frame
    → slice_get frames (min k (length frames - 1)) ≡ Some frame

-- these frames are a run of those that lead to the tree of this backup of these hosts, from that of the base, if there is one
pub record GivesBackup (hosts : List Host) (name : List ℕ) (number : ℕ) (base : Option ℕ) (given : List Frame) : Type 0 where
  pub backup : Backup
  pub is_backup : backup_of hosts name number ≡ Ok backup
  pub base_tree : Option Tree
  pub is_base : base_of hosts name base ≡ Ok base_tree
  pub run : IsRun (frames_since base_tree backup.tree) given

-- behind an OpenRead that a sound office answered its restore gives the backup as it was then
abbrev pub RestoreGives : Type 0
RestoreGives = (office : Office) (names : Names) (faults : ℕ) (opening : Entry) (entries : List Entry) (name : List ℕ) (number : ℕ)
    (base : Option ℕ) (session : SessionName) → AreSound office names → IsHistory (Running office names) faults (opening ∷ entries)
    → opening.event ≡ OpenRead name number base → opening.reply ≡ Ok (Opened session)
    → GivesBackup office.hosts name number base (given_in session (calls_of entries))

-- ---- after a listing

-- one of these lines has this number
abbrev pub Lists : List Line → ℕ → Type 0
Lists lines number = (place : ℕ) × (line : Line) × (slice_get lines place ≡ Some line) × (line.number ≡ number)

-- behind an answered Backups, and an OpenRead of a line's backup (with the backup of another line as its base, or with none), the
-- restore gives the backup of that line as it was when it was listed
abbrev pub OpenedIsListed : Type 0
OpenedIsListed = (office : Office) (names : Names) (faults : ℕ) (asking : Entry) (between : List Entry) (opening : Entry)
    (entries : List Entry) (name : List ℕ) (lines : List Line) (next : ℕ) (dump : Option SessionName) (place : ℕ) (line : Line)
    (base : Option ℕ) (session : SessionName) → AreSound office names
    → IsHistory (Running office names) faults (asking ∷ (between ++ opening ∷ entries))
    → asking.event ≡ Backups name → asking.reply ≡ Ok (Listing lines next dump)
    → slice_get lines place ≡ Some line → IfSome base (Lists lines)
    → opening.event ≡ OpenRead name line.number base → opening.reply ≡ Ok (Opened session)
    → (gives : GivesBackup office.hosts name line.number base (given_in session (calls_of entries))) × (gives.backup.line ≡ line)

-- ---- up to the end

-- none of these frames is an End
abbrev pub HaveNoEnd : List Frame → Type 0
HaveNoEnd given = (k count : ℕ) → slice_get given k ≡ Some (End count) → ⊥

-- behind frames without an End that a restore gave, its next frame is the next one of what leads to the tree, and if it is an End, the last
abbrev pub RunBegins : Type 0
RunBegins = (base : Option Tree) (tree : Tree) (done : List Frame) (frame : Frame)
    → IsRun (frames_since base tree) (done ++ frame ∷ []) → HaveNoEnd done
    → (rest : List Frame) × (frames_since base tree ≡ done ++ frame ∷ rest) × ((count : ℕ) → frame ≡ End count → rest ≡ [])
