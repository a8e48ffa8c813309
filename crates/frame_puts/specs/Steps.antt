-- What a frame of a restore calls in a dump, by what is pending.
--     Step      the calls, each answered, and what is pending behind them
--     frame_step      of a frame; None of one that doesn't fit
use Rattle.std.specs.Prelude.{ℕ, ◌-◌, ◌==◌, min, nat_lt, List, [], ◌∷◌, length, Option, Some, None, Ok, if◌then◌else◌}
use Rattle.attr_records.specs.declared.nodes.Item.{Item}
use Rattle.attr_records.specs.declared.nodes.Item.TheVariants as I
use Rattle.tree_frames.specs.declared.nodes.FileNode.{FileNode}
use Rattle.tree_frames.specs.declared.nodes.Node.{Node}
use Rattle.tree_frames.specs.declared.nodes.Node.TheVariants as N
use Rattle.tree_frames.specs.declared.nodes.Frame.{Frame}
use Rattle.tree_frames.specs.declared.nodes.Frame.TheVariants.{Deleted, Entry, Piece, End}
use Rattle.receipts.specs.declared.session.SessionName.{SessionName}
use Rattle.office_model.specs.declared.event.Event.{Event}
use Rattle.office_model.specs.declared.event.Event.TheVariants as E
use Rattle.office_model.specs.declared.event.PutItem.TheVariants.{Staged}
use Rattle.office_model.specs.declared.answer.Answer.TheVariants as A
use Rattle.office_model.specs.Step.{Call}
use Rattle.folder_laws.specs.Calls.{remove_call, put_call, piece_call}
use Rattle.frame_puts.specs.declared.files.SmallFile.{SmallFile}
use Rattle.frame_puts.specs.declared.files.LargeFile.{LargeFile}
use Rattle.frame_puts.specs.declared.laying.Laying.{Laying}
use Rattle.frame_puts.specs.declared.laying.Laying.TheVariants.{Nothing, Small, Large, Ended}

-- what is called, each call with its reply, and what is pending then
pub record Step : Type 0 where
  pub calls : List Call
  pub laying : Laying

-- the number of entries, if a frame is the end
abbrev pub end_of : Frame → Option ℕ
end_of (Deleted path) = None
end_of (Entry path node) = None
end_of (Piece bytes) = None
end_of (End count) = Some count

-- a File of these attributes, this group and these bytes
abbrev pub file_item : FileNode → List ℕ → Item
file_item node bytes = I.File (record { attr = node.attr; group = node.group; bytes = bytes })

-- the put of a file whose bytes are in a stage
abbrev pub node_put : SessionName → List ℕ → FileNode → ℕ → Event
node_put dump path node stage = E.Put dump path (Staged (record { attr = node.attr; group = node.group; stage = stage })) None

-- ---- nothing is pending

abbrev pub removal_step : SessionName → List ℕ → Step
removal_step dump path = record { calls = remove_call dump path ∷ []; laying = Nothing }

-- an item is put with all its bytes
abbrev pub whole_step : SessionName → List ℕ → Item → Step
whole_step dump path item = record { calls = put_call dump path item ∷ []; laying = Nothing }

-- a stage is opened, with this number, and all bytes of the file are still to come
abbrev pub opening_step : SessionName → List ℕ → FileNode → ℕ → Step
opening_step dump path node stage = record {
  calls = (E.StageOpen dump, Ok (A.Stage stage)) ∷ [];
  laying = Large (record { path = path; node = node; stage = stage; left = node.size });
}

-- the one piece of the file is still to come
abbrev pub waiting_step : List ℕ → FileNode → Step
waiting_step path node = record { calls = []; laying = Small (record { path = path; node = node }) }

-- more bytes than a piece has go by a stage; for fewer it waits; without any the file is put
abbrev pub file_step : SessionName → List ℕ → FileNode → (stage : ℕ) → Step
file_step dump path node stage =
    if nat_lt 65536 node.size then opening_step dump path node stage
    else if nat_lt 0 node.size then waiting_step path node else whole_step dump path (file_item node [])

abbrev pub node_step : SessionName → List ℕ → Node → (stage : ℕ) → Step
node_step dump path (N.File node) stage = file_step dump path node stage
node_step dump path (N.Dir dir) stage = whole_step dump path (I.Dir dir)
node_step dump path (N.Link link) stage = whole_step dump path (I.Link link)

-- the last frame
abbrev pub end_step : Step
end_step = record { calls = []; laying = Ended }

abbrev pub first_step : SessionName → (stage : ℕ) → Frame → Option Step
first_step dump stage (Deleted path) = Some (removal_step dump path)
first_step dump stage (Entry path node) = Some (node_step dump path node stage)
first_step dump stage (Piece bytes) = None
first_step dump stage (End count) = Some end_step

-- ---- a small file is pending

-- its piece has all of its bytes
abbrev pub only_step : SessionName → SmallFile → List ℕ → Option Step
only_step dump file bytes =
    if length bytes == file.node.size then Some (whole_step dump file.path (file_item file.node bytes)) else None

abbrev pub small_step : SessionName → SmallFile → Frame → Option Step
small_step dump file (Deleted path) = None
small_step dump file (Entry path node) = None
small_step dump file (Piece bytes) = only_step dump file bytes
small_step dump file (End count) = None

-- ---- a large file is pending

-- the stage takes a piece, and so many bytes are still to come
abbrev pub more_step : LargeFile → ℕ → List ℕ → Step
more_step file left bytes = record {
  calls = piece_call file.stage bytes ∷ [];
  laying = Large (record { path = file.path; node = file.node; stage = file.stage; left = left });
}

-- the stage takes the last piece, and the file is put
abbrev pub last_step : SessionName → LargeFile → List ℕ → Step
last_step dump file bytes = record {
  calls = piece_call file.stage bytes ∷ (node_put dump file.path file.node file.stage, Ok A.Done) ∷ [];
  laying = Nothing;
}

-- a piece has 65,536 bytes, or all that are left
abbrev pub piece_step : SessionName → LargeFile → List ℕ → Option Step
piece_step dump file bytes =
    if length bytes == min 65536 file.left then
    Some (if nat_lt (length bytes) file.left then more_step file (file.left - length bytes) bytes else last_step dump file bytes)
    else None

abbrev pub large_step : SessionName → LargeFile → Frame → Option Step
large_step dump file (Deleted path) = None
large_step dump file (Entry path node) = None
large_step dump file (Piece bytes) = piece_step dump file bytes
large_step dump file (End count) = None

-- ---- by what is pending

-- what a frame calls; a stage that is opened gets this number
abbrev pub frame_step : SessionName → Laying → (stage : ℕ) → Frame → Option Step
frame_step dump Nothing stage frame = first_step dump stage frame
frame_step dump (Small file) stage frame = small_step dump file frame
frame_step dump (Large file) stage frame = large_step dump file frame
frame_step dump Ended stage frame = None
