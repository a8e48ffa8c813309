-- The responses of the server: status, names of refusals, body.
use Rattle.std.specs.Prelude.{ℕ, Bool, true, List, [], codes, Option, Some, None, Ok, Err, unwrap_or}
use Rattle.std.specs.Option.{option_map}
use Rattle.attr_records.specs.declared.paths.BadPath.{BadPath}
use Rattle.attr_records.specs.declared.paths.BadPath.TheVariants as P
use Rattle.attr_records.specs.declared.trees.PutRule.{PutRule}
use Rattle.attr_records.specs.declared.trees.PutRule.TheVariants as T
use Rattle.http_heads.specs.declared.refusal.HeadRefusal.{HeadRefusal}
use Rattle.http_heads.specs.Names.{head_refusal_name, head_refusal_status}
use Rattle.http_replies.specs.declared.body_refusal.BodyRefusal.{BodyRefusal}
use Rattle.http_replies.specs.declared.body_refusal.BodyRefusal.TheVariants.{BadChunk, FileTooLarge}
use Rattle.http_wire.specs.Message.{Message, response_bytes, no_memory_response}
use Rattle.http_query.specs.declared.keys.QueryRule.{QueryRule}
use Rattle.http_query.specs.declared.keys.QueryRule.TheVariants as Q
use Rattle.http_routes.specs.Actions.{allow_of}
use Rattle.request_events.specs.declared.refusal.RequestRefusal.{RequestRefusal}
use Rattle.request_events.specs.declared.refusal.RequestRefusal.TheVariants.{NoRoute, NoMethod, BadName, BadNumber, BadQuery, BadPath as RefusedPath, BadTarget, NoLength}
use Rattle.office_model.specs.declared.event.Event.{Event}
use Rattle.office_model.specs.declared.event.Event.TheVariants as E
use Rattle.office_model.specs.declared.answer.Answer.{Answer}
use Rattle.office_model.specs.declared.answer.Answer.TheVariants as A
use Rattle.office_model.specs.declared.refusal.BrokenRule.{BrokenRule}
use Rattle.office_model.specs.declared.refusal.BrokenRule.TheVariants as B
use Rattle.office_model.specs.declared.refusal.Refusal.{Refusal}
use Rattle.office_model.specs.declared.refusal.Refusal.TheVariants as R
use Rattle.office_model.specs.Meaning.{Reply}
use Rattle.restore_stream.specs.Layouts.{frame_bytes}
use Rattle.reply_bodies.specs.Objects.{json_text, object_text}
use Rattle.reply_bodies.specs.Replies.{short_fields, long_data, refused, refusal_fields}

-- ---- names

abbrev pub query_rule_name : QueryRule → List ℕ
query_rule_name Q.Utf8 = codes "BadQuery.Utf8"
query_rule_name Q.Unknown = codes "BadQuery.Unknown"
query_rule_name Q.Repeated = codes "BadQuery.Repeated"
query_rule_name Q.Missing = codes "BadQuery.Missing"
query_rule_name Q.Value = codes "BadQuery.Value"

abbrev pub path_rule_name : BadPath → List ℕ
path_rule_name P.NotUtf8 = codes "BadPath.NotUtf8"
path_rule_name P.Empty = codes "BadPath.Empty"
path_rule_name P.TooLong = codes "BadPath.TooLong"
path_rule_name P.Nul = codes "BadPath.Nul"
path_rule_name P.EmptyComponent = codes "BadPath.EmptyComponent"
path_rule_name P.Dot = codes "BadPath.Dot"
path_rule_name P.LongComponent = codes "BadPath.LongComponent"
path_rule_name P.Memory = codes "BadPath"

-- the names of what refuses a body while it is read
abbrev pub body_refusal_name : BodyRefusal → List ℕ
body_refusal_name BadChunk = codes "BadChunk"
body_refusal_name FileTooLarge = codes "FileTooLarge"

-- the names of what refuses a request
abbrev pub request_refusal_name : RequestRefusal → List ℕ
request_refusal_name NoRoute = codes "NoRoute"
request_refusal_name (NoMethod route) = codes "NoMethod"
request_refusal_name BadName = codes "BadName"
request_refusal_name BadNumber = codes "BadNumber"
request_refusal_name (BadQuery rule) = query_rule_name rule
request_refusal_name (RefusedPath rule) = path_rule_name rule
request_refusal_name BadTarget = codes "BadTarget"
request_refusal_name NoLength = codes "NoLength"

-- ---- statuses

abbrev pub body_refusal_status : BodyRefusal → ℕ
body_refusal_status BadChunk = 400
body_refusal_status FileTooLarge = 413

abbrev pub request_refusal_status : RequestRefusal → ℕ
request_refusal_status NoRoute = 404
request_refusal_status (NoMethod route) = 405
request_refusal_status NoLength = 411
request_refusal_status refusal = 400

abbrev pub put_rule_status : PutRule → ℕ
put_rule_status T.NoParent = 409
put_rule_status T.IsDirectory = 409
put_rule_status T.TooManyEntries = 422
put_rule_status T.FileTooLarge = 413

abbrev pub rule_status : BrokenRule → ℕ
rule_status B.HostExists = 409
rule_status B.HostsFull = 422
rule_status B.NoHost = 404
rule_status B.SessionOpen = 409
rule_status B.NumbersSpent = 422
rule_status B.NoSession = 404
rule_status (B.Put rule) = put_rule_status rule
rule_status B.NoBackup = 404
rule_status B.NoPartial = 404
rule_status B.ChainFull = 422
rule_status B.NoPath = 404
rule_status B.NotAFile = 409
rule_status B.NotADirectory = 409
rule_status B.Kept = 409
rule_status B.BadBucket = 422
rule_status B.BadPiece = 400
rule_status B.TokensFull = 422
rule_status B.NumberBehind = 409
rule_status B.NoContent = 404

abbrev pub refusal_status : Refusal → ℕ
refusal_status (R.Broken rule) = rule_status rule
refusal_status R.Halted = 503
refusal_status R.DiskFault = 500
refusal_status (R.Damaged file found) = 502
refusal_status R.Memory = 507

-- an event that was done and gives nothing: 201 if it made something
abbrev pub done_status : Event → ℕ
done_status (E.AddHost host rules) = 201
done_status _ = 200

abbrev pub answer_status : Event → Answer → ℕ
answer_status event A.Done = done_status event
answer_status event (A.Dump name) = 201
answer_status event (A.Committed number) = 201
answer_status event (A.Stage number) = 201
answer_status event (A.Opened reader size) = 201
answer_status event (A.Restore name) = 201
answer_status event _ = 200

-- ---- responses

-- the methods that the target takes, if the method was refused
abbrev pub allowed_by : RequestRefusal → Option (List ℕ)
allowed_by (NoMethod route) = Some (allow_of route)
allowed_by refusal = None

-- a message of JSON
abbrev pub json_message : ℕ → List ℕ → Option (List ℕ) → Bool → Bool → Message
json_message status body allow closes is_head = record {
  status = status;
  content_type = codes "application/json";
  body = body;
  allow = allow;
  closes = closes;
  is_head = is_head;
}

-- a message of bytes
abbrev pub bytes_message : List ℕ → Bool → Bool → Message
bytes_message body closes is_head = record {
  status = 200;
  content_type = codes "application/octet-stream";
  body = body;
  allow = None;
  closes = closes;
  is_head = is_head;
}

-- the response to a head that is refused, the connection's last
unfoldable pub bad_response : HeadRefusal → Bool → List ℕ
bad_response refusal for_head =
    response_bytes (json_message (head_refusal_status refusal) (object_text (refused (head_refusal_name refusal))) None true for_head)

-- the response to a body that is refused while it is read, the connection's last
unfoldable pub broken_response : BodyRefusal → Bool → List ℕ
broken_response refusal is_head =
    response_bytes (json_message (body_refusal_status refusal) (object_text (refused (body_refusal_name refusal))) None true is_head)

-- the response to a request that is refused
unfoldable pub refused_response : RequestRefusal → Bool → Bool → List ℕ
refused_response refusal closes is_head =
    response_bytes (json_message (request_refusal_status refusal) (object_text (refused (request_refusal_name refusal)))
    (allowed_by refusal) closes is_head)

-- the JSON of an answer, short or longer
abbrev pub answer_json : Event → Answer → List ℕ
answer_json event answer =
    unwrap_or (option_map (λ fields. object_text fields) (short_fields event answer))
    (unwrap_or (option_map (λ value. json_text value) (long_data answer)) [])

-- the message of an answer: the bytes of a file, of a part of it or of a frame, or JSON
abbrev pub answer_message : Event → Answer → Bool → Bool → Message
answer_message event (A.Content bytes) closes is_head = bytes_message bytes closes is_head
answer_message event (A.Part bytes) closes is_head = bytes_message bytes closes is_head
answer_message event (A.Next frame) closes is_head = bytes_message (frame_bytes frame) closes is_head
answer_message event answer closes is_head = json_message (answer_status event answer) (answer_json event answer) None closes is_head

-- the response to a reply
unfoldable pub reply_response : Event → Reply → Bool → Bool → List ℕ
reply_response event (Ok answer) closes is_head = response_bytes (answer_message event answer closes is_head)
reply_response event (Err R.Memory) closes is_head = no_memory_response
reply_response event (Err refusal) closes is_head =
    response_bytes (json_message (refusal_status refusal) (object_text (refusal_fields refusal)) None closes is_head)
