-- What a request calls, and what is answered to its calls.
--     IsRunOf      calls are those of a script, to its end
--     stage_script      a file in stages: StageOpen, a StagePiece for each piece, the put; perhaps a StageDrop
--     file_script      a file in parts: OpenFile, one ReadPart after the other, CloseFile
--     event_script      the calls of an event that a request asks for
--     calls_response, calls_fate      the response to calls, and whether the connection goes on behind it
use Rattle.std.specs.Prelude.{◌≡◌, ℕ, ◌+◌, ◌/◌, ◌%◌, ◌==◌, Bool, true, false, zero, suc, List, [], ◌∷◌, ◌++◌, Option, Some, None, Ok, Err, min, if◌then◌else◌}
use Rattle.http_wire.specs.Message.{bytes_head}
use Rattle.office_model.specs.declared.event.Event.{Event}
use Rattle.office_model.specs.declared.event.Event.TheVariants as E
use Rattle.office_model.specs.declared.event.PutItem.TheVariants.{Staged}
use Rattle.office_model.specs.declared.answer.Answer.TheVariants as A
use Rattle.office_model.specs.declared.refusal.BrokenRule.TheVariants as B
use Rattle.office_model.specs.declared.refusal.Refusal.{Refusal}
use Rattle.office_model.specs.declared.refusal.Refusal.TheVariants as R
use Rattle.office_model.specs.Meaning.{Reply}
use Rattle.office_model.specs.Step.{Call}
use Rattle.call_scripts.specs.Scripts.{Script, one_call}
use Rattle.request_events.specs.declared.plan.FilePut.{FilePut}
use Rattle.http_replies.specs.Messages.{reply_response}

-- the calls are those of a script, to its end
abbrev pub IsRunOf : Script → List Call → Type 0
IsRunOf next [] = next [] ≡ None
IsRunOf next (call ∷ calls) = (next [] ≡ Some call.0) × IsRunOf (λ later. next (call ∷ later)) calls

-- ---- a file in stages

-- the stage is dropped after this refusal of a piece; not if it isn't there, the office is halted, or the fault ended it
abbrev pub piece_drops : Refusal → Bool
piece_drops (R.Broken B.NoSession) = false
piece_drops R.Halted = false
piece_drops R.DiskFault = false
piece_drops refusal = true

-- the stage is dropped after this refusal of the put
abbrev pub put_drops : Refusal → Bool
put_drops (R.Broken B.NoSession) = false
put_drops R.Halted = false
put_drops refusal = true

-- the put of a stage
abbrev pub staged_event : FilePut → ℕ → Event
staged_event put stage = E.Put put.dump put.path (Staged (record { attr = put.attr; group = put.group; stage = stage })) put.token

abbrev pub drop_script : ℕ → Bool → Script
drop_script stage true [] = Some (E.StageDrop stage)
drop_script stage true (call ∷ calls) = None
drop_script stage false calls = None

abbrev pub put_script : FilePut → ℕ → Script
put_script put stage [] = Some (staged_event put stage)
put_script put stage ((event, Ok answer) ∷ calls) = None
put_script put stage ((event, Err refusal) ∷ calls) = drop_script stage (put_drops refusal) calls

-- once a stage is open: its pieces, and then the put if the body came whole, else the drop
abbrev pub pieces_script : FilePut → ℕ → List (List ℕ) → Bool → Script
pieces_script put stage [] true calls = put_script put stage calls
pieces_script put stage [] false calls = drop_script stage true calls
pieces_script put stage (piece ∷ pieces) whole [] = Some (E.StagePiece stage piece)
pieces_script put stage (piece ∷ pieces) whole ((event, Ok answer) ∷ calls) = pieces_script put stage pieces whole calls
pieces_script put stage (piece ∷ pieces) whole ((event, Err refusal) ∷ calls) = drop_script stage (piece_drops refusal) calls

-- a file of these pieces, which came whole or didn't
abbrev pub stage_script : FilePut → List (List ℕ) → Bool → Script
stage_script put pieces whole [] = Some (E.StageOpen put.dump)
stage_script put pieces whole ((event, Ok (A.Stage stage)) ∷ calls) = pieces_script put stage pieces whole calls
stage_script put pieces whole (call ∷ calls) = None

-- ---- a file in parts

-- how many parts may come behind the first, the empty one at the end of the file among them
abbrev pub parts_behind : ℕ → ℕ
parts_behind size = size / 65536 + (if size % 65536 == 0 then 0 else 1)

abbrev pub close_script : ℕ → Script
close_script reader [] = Some (E.CloseFile reader)
close_script reader (call ∷ calls) = None

-- at most so many parts, up to the empty one or a refusal
abbrev pub parts_script : ℕ → ℕ → Script
parts_script reader zero calls = close_script reader calls
parts_script reader (suc more) [] = Some (E.ReadPart reader)
parts_script reader (suc more) ((event, Ok (A.Part (byte ∷ bytes))) ∷ calls) = parts_script reader more calls
parts_script reader (suc more) (call ∷ calls) = close_script reader calls

-- so many parts behind the first, if a write behind them failed
abbrev pub parts_wanted : Option ℕ → ℕ → ℕ
parts_wanted None most = most
parts_wanted (Some count) most = min count most

-- a file; perhaps a write failed behind its first part and so many others
abbrev pub file_script : Event → Option ℕ → Script
file_script first failed [] = Some first
file_script first failed ((event, Ok (A.Opened reader size)) ∷ calls) =
    parts_script reader (suc (parts_wanted failed (parts_behind size))) calls
file_script first failed (call ∷ calls) = None

-- the calls of an event that a request asks for: those of a file in parts, or one
abbrev pub event_script : Event → Option ℕ → Script
event_script (E.OpenFile host number path) failed = file_script (E.OpenFile host number path) failed
event_script event failed = one_call event

-- ---- what is answered

-- the call that is answered: the first that was refused, else the last
abbrev pub answering : List Call → Option Call
answering [] = None
answering ((event, Err refusal) ∷ calls) = Some (event, Err refusal)
answering ((event, Ok answer) ∷ []) = Some (event, Ok answer)
answering ((event, Ok answer) ∷ call ∷ calls) = answering (call ∷ calls)

-- how the connection goes on behind the response: as it may; there was no memory; the link failed; or the response was cut off
pub data Fate : Type 0 where
  Fine NoMemory Failed : Fate
  CutOff : Refusal → Fate

abbrev pub reply_fate : Reply → Fate
reply_fate (Err R.Memory) = NoMemory
reply_fate reply = Fine

-- a part that is refused behind the head of its response cuts it off
abbrev pub cut_fate : Refusal → Fate
cut_fate R.Memory = NoMemory
cut_fate refusal = CutOff refusal

-- the bytes of a part
abbrev pub part_bytes : Call → List ℕ
part_bytes (E.ReadPart reader, Ok (A.Part bytes)) = bytes
part_bytes call = []

abbrev pub parts_in : List Call → List ℕ
parts_in [] = []
parts_in (call ∷ calls) = part_bytes call ++ parts_in calls

-- whether a part was refused
abbrev pub parts_fate : List Call → Fate
parts_fate [] = Fine
parts_fate ((E.ReadPart reader, Err refusal) ∷ calls) = cut_fate refusal
parts_fate (call ∷ calls) = parts_fate calls

-- a file of which a part was read: its size, the bytes that were read, and whether a part was refused
pub record FileRead : Type 0 where
  pub size : ℕ
  pub bytes : List ℕ
  pub fate : Fate

abbrev pub file_behind : ℕ → List Call → Option FileRead
file_behind size ((E.ReadPart reader, Ok (A.Part bytes)) ∷ calls) =
    Some (record { size = size; bytes = bytes ++ parts_in calls; fate = parts_fate calls })
file_behind size calls = None

abbrev pub file_read : List Call → Option FileRead
file_read ((E.OpenFile host number path, Ok (A.Opened reader size)) ∷ calls) = file_behind size calls
file_read calls = None

-- the response to a request's calls: the parts of a file behind their head, or the response to one reply
abbrev pub response_by : Option FileRead → Option Call → Bool → Bool → List ℕ
response_by (Some file) answered closes is_head = bytes_head file.size closes ++ file.bytes
response_by None (Some call) closes is_head = reply_response call.0 call.1 closes is_head
response_by None None closes is_head = []

abbrev pub calls_response : List Call → Bool → Bool → List ℕ
calls_response calls closes is_head = response_by (file_read calls) (answering calls) closes is_head

abbrev pub fate_by : Option FileRead → Option Call → Fate
fate_by (Some file) answered = file.fate
fate_by None (Some call) = reply_fate call.1
fate_by None None = Fine

abbrev pub calls_fate : List Call → Fate
calls_fate calls = fate_by (file_read calls) (answering calls)

-- ---- no memory

-- want of memory
abbrev pub is_memory : Reply → Bool
is_memory (Err R.Memory) = true
is_memory reply = false

-- the event changes nothing but the place of a restore
abbrev pub only_reads : Event → Bool
only_reads (E.List host number directory) = true
only_reads (E.Lookup host number path) = true
only_reads E.Hosts = true
only_reads (E.Backups host) = true
only_reads (E.ReadNext restore) = true
only_reads _ = false

-- the one call only read, and was answered
abbrev pub ReadOnce : List Call → Type 0
ReadOnce ((event, Ok answer) ∷ []) = only_reads event ≡ true
ReadOnce calls = ⊥
