-- A push's events as texts: the requests that ask for them, and the replies that responses say.
--     may      the event has a request
--     request_of      that request
--     refusal_of      what an event without a request is refused with
--     Says      the response to it says this reply
--     InRange      a server may reply so to it
use Rattle.std.specs.Prelude.{◌≡◌, ℕ, ◌<◌, ◌≤◌, ◌^◌, nat_lt, Bool, true, false, ◌&&◌, not, [], length, Some, None, Ok, Err, codes, unwrap_or, is_some, if◌then◌else◌}
use Rattle.attr_records.specs.Items.{is_large}
use Rattle.attr_records.specs.declared.nodes.Item.TheVariants.{File}
use Rattle.attr_records.specs.declared.trees.PutRule.TheVariants.{FileTooLarge}
use Rattle.office_model.specs.declared.event.Event.{Event}
use Rattle.office_model.specs.declared.event.Event.TheVariants as E
use Rattle.office_model.specs.declared.event.PutItem.TheVariants.{Whole, Staged}
use Rattle.office_model.specs.declared.answer.Answer.{Answer}
use Rattle.office_model.specs.declared.answer.Answer.TheVariants as A
use Rattle.office_model.specs.declared.refusal.BrokenRule.TheVariants.{Put, NoPath}
use Rattle.office_model.specs.declared.refusal.Refusal.{Refusal}
use Rattle.office_model.specs.declared.refusal.Refusal.TheVariants.{Broken}
use Rattle.office_model.specs.Meaning.{Reply}
use Rattle.office_model.specs.Office.{number_limit, piece_limit}
use Rattle.office_model.specs.Step.{IsAnswerTo}
use Rattle.reply_bodies.specs.Objects.{json_text}
use Rattle.reply_bodies.specs.Replies.{entries_data}
use Rattle.http_client.specs.Requests.{Ask}
use Rattle.peer_talk.specs.Mirror.{Response}
use Rattle.pull_codec.specs.Codec.{IsRefusal}
use Rattle.push_texts.specs.Requests.{PushTexts, push_texts}
use Rattle.push_texts.specs.Laws as L
use Rattle.push_replies.specs.Replies.{reply_in}
use Rattle.push_replies.specs.Laws.{IsAnswer}
use Rattle.push_codec.specs.Ranges.{is_ranged}

-- ---- events

-- an event of a push that has a request, and is as the program's types have it
abbrev pub may : Event → Bool
may event = is_some (push_texts event) && is_ranged event

-- stands for the texts of events that have none
abbrev pub no_texts : PushTexts
no_texts = record { method = []; target = []; body = None }

-- the request of these texts, to the host `b`
abbrev pub ask_with : PushTexts → Ask
ask_with texts = record { method = texts.method; target = texts.target; host = codes "b"; body = texts.body }

-- the request that asks for the event
abbrev pub request_of : Event → Ask
request_of event = ask_with (unwrap_or (push_texts event) no_texts)

-- the event as a server has it, at its own moment
abbrev pub at : ℕ → Event → Event
at moment event = L.at moment event

-- the event is of a file that goes by stages, or is too large for a request
abbrev pub is_of_large : Event → Bool
is_of_large (E.Put dump path (Whole item) token) = is_large item
is_of_large (E.Put dump path (Staged file) token) = true
is_of_large (E.StageOpen dump) = true
is_of_large (E.StagePiece stage bytes) = true
is_of_large (E.StageDrop stage) = true
is_of_large event = false

-- what an event without a request is refused with: for its file, or for its path
abbrev pub refusal_of : Event → Refusal
refusal_of event = if is_of_large event then Broken (Put FileTooLarge) else Broken NoPath

-- a server takes the event as one call: it isn't the put of a file of more than a piece
abbrev pub is_one : Event → Bool
is_one (E.Put dump path (Whole (File file)) token) = not (nat_lt piece_limit (length file.bytes))
is_one event = true

abbrev pub may_one : Event → Bool
may_one event = may event && is_one event

-- ---- replies

-- what a response says
abbrev pub Says : Event → Response → Reply → Type 0
Says event response reply = reply_in event response.status response.body ≡ Some reply

-- there is at most a line for each number; and the body that lists entries has fewer than 2^64 bytes
abbrev pub IsFew : Answer → Type 0
IsFew (A.Backups lines next dump) = length lines ≤ number_limit
IsFew (A.Entries entries) = length (json_text (entries_data entries)) < 2 ^ 64
IsFew answer = Unit {0}

-- an answer of the event's kind, in its ranges, or a refusal
abbrev pub InRange : Event → Reply → Type 0
InRange event (Ok answer) = IsAnswerTo event answer × IsAnswer answer × IsFew answer
InRange event (Err refusal) = IsRefusal refusal
