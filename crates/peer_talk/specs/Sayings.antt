-- What the responses of this server say.
use Rattle.std.specs.Prelude.{◌≡◌, ℕ, ◌<◌, ◌≤◌, ◌^◌, ◌==◌, true, false, List, length, Option, Some, None, Ok, Err, IfSome, if◌then◌else◌}
use Rattle.http_wire.specs.Message.{Message}
use Rattle.office_model.specs.declared.event.Event.{Event}
use Rattle.office_model.specs.declared.refusal.Refusal.TheVariants as R
use Rattle.office_model.specs.Meaning.{Reply}
use Rattle.office_model.specs.Step.{Call}
use Rattle.reply_bodies.specs.Objects.{object_text}
use Rattle.reply_bodies.specs.Replies.{refused, refusal_fields}
use Rattle.http_replies.specs.Messages.{request_refusal_name, request_refusal_status, refusal_status, answer_message}
use Rattle.browse_http.specs.Scripts.{answering, FileRead, file_read}
use Rattle.browse_http.specs.Talk as T
use Rattle.peer_talk.specs.Mirror.{Response, no_memory, Saying}

abbrev pub message_said : Message → Response
message_said m = record { status = m.status; body = m.body }

-- the response to a reply
abbrev pub reply_said : Event → Reply → Response
reply_said event (Ok answer) = message_said (answer_message event answer false false)
reply_said event (Err R.Memory) = no_memory
reply_said event (Err refusal) = record { status = refusal_status refusal; body = object_text (refusal_fields refusal) }

-- the response of a file, if all its bytes came
abbrev pub file_said : FileRead → Option Response
file_said file = if length file.bytes == file.size then Some (record { status = 200; body = file.bytes }) else None

abbrev pub said_by : Option FileRead → Option Call → Option Response
said_by (Some file) answered = file_said file
said_by None (Some call) = Some (reply_said call.0 call.1)
said_by None None = None

abbrev pub calls_said : List Call → Option Response
calls_said calls = said_by (file_read calls) (answering calls)

-- the response to what came of a request
abbrev pub says : Saying
says (T.Refused refusal) =
    Some (record { status = request_refusal_status refusal; body = object_text (refused (request_refusal_name refusal)) })
says (T.Called calls) = calls_said calls
says (T.Stopped count calls) = calls_said calls
says (T.Unsaid calls) = Some no_memory
says T.Lost = Some no_memory

-- of a file no more bytes came than it has, and all of them if the connection goes on behind it
pub record IsFileOf (outcome : T.Outcome) (file : FileRead) : Type 0 where
  pub size : file.size < 2 ^ 64
  pub few : length file.bytes ≤ file.size
  pub whole : T.is_fine (T.outcome_fate outcome) ≡ true → length file.bytes ≡ file.size

-- what is asked of the replies behind an outcome: bodies of fewer than 2^64 bytes, and files of as many bytes as they have
pub record IsFitting (outcome : T.Outcome) : Type 0 where
  pub body : IfSome (says outcome) (λ a. length a.body < 2 ^ 64)
  pub file : IfSome (file_read (T.calls_in outcome)) (IsFileOf outcome)
