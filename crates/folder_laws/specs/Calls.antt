-- The calls of a dump and of a restore, and their answers.
--     IsPut, ArePuts      of a row, of all rows
--     dump_calls, restore_calls      of a whole dump, of a whole restore
use Rattle.std.specs.Prelude.{◌≡◌, ℕ, Bool, true, false, List, [], ◌∷◌, ◌++◌, None, Ok, map}
use Rattle.attr_records.specs.declared.nodes.Item.{Item}
use Rattle.attr_records.specs.declared.nodes.Item.TheVariants as I
use Rattle.attr_records.specs.declared.nodes.File.{File}
use Rattle.attr_records.specs.Items.{Tree, is_large}
use Rattle.backup_rules.specs.declared.lines.Kind.{Kind}
use Rattle.receipts.specs.declared.session.SessionName.{SessionName}
use Rattle.office_model.specs.declared.event.Event.TheVariants as E
use Rattle.office_model.specs.declared.event.Event.{Event}
use Rattle.office_model.specs.declared.event.PutItem.TheVariants.{Whole, Staged}
use Rattle.office_model.specs.declared.answer.Answer.TheVariants as A
use Rattle.tree_frames.specs.declared.nodes.Frame.{Frame}
use Rattle.tree_frames.specs.declared.nodes.Frame.TheVariants.{Deleted, Entry, Piece, End}
use Rattle.tree_frames.specs.Frames.{pieces}
use Rattle.office_model.specs.Step.{Call}

-- a dump was opened
abbrev pub open_call : List ℕ → Kind → ℕ → SessionName → Call
open_call host kind now dump = (E.OpenDump host kind now None, Ok (A.Dump dump))

-- an opening was answered with the number of a backup, which none is that has no token
abbrev pub already_call : List ℕ → Kind → ℕ → ℕ → Call
already_call host kind now number = (E.OpenDump host kind now None, Ok (A.Already number))

-- an item was put with its bytes
abbrev pub put_call : SessionName → List ℕ → Item → Call
put_call dump path item = (E.Put dump path (Whole item) None, Ok A.Done)

-- the put of a file whose bytes are in a stage
abbrev pub staged_put : SessionName → List ℕ → File → ℕ → Event
staged_put dump path file stage = E.Put dump path (Staged (record { attr = file.attr; group = file.group; stage = stage })) None

-- a stage took a piece
abbrev pub piece_call : ℕ → List ℕ → Call
piece_call stage piece = (E.StagePiece stage piece, Ok A.Done)

abbrev pub piece_calls : ℕ → List (List ℕ) → List Call
piece_calls stage list = map (piece_call stage) list

-- a stage was opened, took the bytes of a file piece by piece, and was put
abbrev pub stage_calls : SessionName → List ℕ → File → ℕ → List Call
stage_calls dump path file stage =
    (E.StageOpen dump, Ok (A.Stage stage)) ∷ (piece_calls stage (pieces file.bytes) ++ (staged_put dump path file stage, Ok A.Done) ∷ [])

-- a large file goes by a stage, another is put with its bytes
abbrev pub file_calls : Bool → SessionName → List ℕ → File → ℕ → List Call
file_calls true dump path file stage = stage_calls dump path file stage
file_calls false dump path file stage = put_call dump path (I.File file) ∷ []

abbrev pub item_calls : SessionName → List ℕ → Item → ℕ → List Call
item_calls dump path (I.File file) stage = file_calls (is_large (I.File file)) dump path file stage
item_calls dump path (I.Dir dir) stage = put_call dump path (I.Dir dir) ∷ []
item_calls dump path (I.Link link) stage = put_call dump path (I.Link link) ∷ []

-- these calls put a row, by some stage if it goes by one
abbrev pub IsPut : SessionName → List ℕ × Item → List Call → Type 0
IsPut dump row calls = (stage : ℕ) × (calls ≡ item_calls dump row.0 row.1 stage)

-- these put rows, one after the other
abbrev pub ArePuts : SessionName → Tree → List Call → Type 0
ArePuts dump [] calls = calls ≡ []
ArePuts dump (row ∷ rows) calls =
    (first : List Call) × (rest : List Call) × IsPut dump row first × (calls ≡ first ++ rest) × ArePuts dump rows rest

-- a path was removed
abbrev pub remove_call : SessionName → List ℕ → Call
remove_call dump path = (E.Remove dump path None, Ok A.Done)

abbrev pub remove_calls : SessionName → List (List ℕ) → List Call
remove_calls dump paths = map (remove_call dump) paths

-- a dump was committed as the backup of this number
abbrev pub commit_call : SessionName → ℕ → ℕ → Call
commit_call dump now number = (E.Commit dump now, Ok (A.Committed number))

-- a dump: it is opened, its base is made ready, rows are put, and it is committed
abbrev pub dump_calls : List ℕ → Kind → ℕ → ℕ → SessionName → ℕ → List Call → List Call → List Call
dump_calls host kind now later dump number base puts =
    open_call host kind now dump ∷ (base ++ (puts ++ commit_call dump later number ∷ []))

-- a frame of a restore was given
abbrev pub next_call : SessionName → Frame → Call
next_call restore frame = (E.ReadNext restore, Ok (A.Next frame))

-- a restore: it is opened, its frames are asked for up to the end, and it is closed
abbrev pub restore_calls : List ℕ → ℕ → SessionName → List Frame → ℕ → List Call
restore_calls host number restore frames count =
    (E.OpenRead host number None, Ok (A.Restore restore))
    ∷ (map (next_call restore) frames ++ next_call restore (End count) ∷ (E.CloseRead restore, Ok A.Done) ∷ [])

-- no frame is the end
abbrev pub ArePlain : List Frame → Type 0
ArePlain [] = Unit {0}
ArePlain (Deleted path ∷ frames) = ArePlain frames
ArePlain (Entry path node ∷ frames) = ArePlain frames
ArePlain (Piece bytes ∷ frames) = ArePlain frames
ArePlain (End count ∷ frames) = ⊥
