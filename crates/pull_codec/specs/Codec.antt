-- A pull's events as texts: the requests that ask for them, and the replies that responses say.
--     may      the event is one of a pull, in its range
--     request_of      its request
--     Says      the response to it says this reply
--     InRange      a server may reply so to it
use Rattle.std.specs.Prelude.{◌≡◌, ℕ, ◌<◌, ◌≤◌, ◌^◌, nat_lt, Bool, true, false, ◌&&◌, List, [], length, Option, Some, None, Ok, Err, unwrap_or}
use Rattle.std.specs.List.{AllByRecursion}
use Rattle.disk_trait.specs.declared.ids.FileId.{FileId}
use Rattle.disk_trait.specs.declared.ids.FileId.TheVariants as F
use Rattle.attr_records.specs.Names.{is_host_name}
use Rattle.receipts.specs.declared.session.SessionName.{SessionName}
use Rattle.office_model.specs.declared.event.Event.{Event}
use Rattle.office_model.specs.declared.event.Event.TheVariants as E
use Rattle.office_model.specs.declared.answer.Answer.{Answer}
use Rattle.office_model.specs.declared.answer.Answer.TheVariants as A
use Rattle.office_model.specs.declared.refusal.Refusal.{Refusal}
use Rattle.office_model.specs.declared.refusal.Refusal.TheVariants.{Damaged}
use Rattle.office_model.specs.Meaning.{Reply}
use Rattle.office_model.specs.Office.{number_limit}
use Rattle.office_model.specs.Step.{IsAnswerTo}
use Rattle.restore_stream.specs.OneFrame.{IsFrameInRange, IsFrameOf}
use Rattle.reply_bodies.specs.Laws.{IsSession, IsFile}
use Rattle.listing_back.specs.Laws.{IsRanged, MaybeSession}
use Rattle.http_client.specs.Requests.{Ask}
use Rattle.event_texts.specs.Requests.{RequestTexts, request_of as texts_of}
use Rattle.peer_talk.specs.Mirror.{Response}
use Rattle.peer_asks.specs.Asks.{ask_with, IsListing, IsOpened}

-- ---- events

-- both numbers have 64 bits
abbrev pub is_session : SessionName → Bool
is_session name = nat_lt name.epoch (2 ^ 64) && nat_lt name.sequence (2 ^ 64)

-- the number of a base, if there is one, has 32 bits
abbrev pub is_base : Option ℕ → Bool
is_base None = true
is_base (Some number) = nat_lt number (2 ^ 32)

-- an event of a pull, of a host's name and of numbers that have their bits
abbrev pub may : Event → Bool
may (E.Backups host) = is_host_name host
may (E.OpenRead host number base) = is_host_name host && (nat_lt number (2 ^ 32) && is_base base)
may (E.ReadNext restore) = is_session restore
may (E.CloseRead restore) = is_session restore
may event = false

-- stands for the texts of events that are none of a pull
abbrev pub no_texts : RequestTexts
no_texts = record { method = []; target = [] }

-- the request that asks for the event
abbrev pub request_of : Event → Ask
request_of event = ask_with (unwrap_or (texts_of event) no_texts)

-- a server has the event as it was asked for: it has no moment
abbrev pub at : ℕ → Event → Event
at moment event = event

-- ---- responses

-- the status of its answer
abbrev pub wanted : Event → ℕ
wanted (E.OpenRead host number base) = 201
wanted event = 200

-- the body of the answer reads as this reply; of a restore that was closed nothing is read
abbrev pub IsRead : Event → List ℕ → Reply → Type 0
IsRead (E.Backups host) body (Ok (A.Backups lines next dump)) = IsListing body (Some (record { lines = lines; next = next; dump = dump }))
IsRead (E.OpenRead host number base) body (Ok (A.Restore name)) = IsOpened body (Some name)
IsRead (E.ReadNext restore) body (Ok (A.Next frame)) = IsFrameOf body (Some frame)
IsRead (E.CloseRead restore) body (Ok A.Done) = Unit {0}
IsRead event body reply = ⊥

-- what a response of the wanted status says; one of another status says nothing
abbrev pub Says : Event → Response → Reply → Type 0
Says event response reply = (response.status ≡ wanted event) × IsRead event response.body reply

-- ---- replies

-- numbers have their bits and frames are in their ranges, and there is at most a line for each number
abbrev pub IsAnswer : Answer → Type 0
IsAnswer (A.Backups lines next dump) = (length lines ≤ number_limit) × AllByRecursion IsRanged lines × (next < 2 ^ 64) × MaybeSession dump
IsAnswer (A.Restore name) = IsSession name
IsAnswer (A.Next frame) = IsFrameInRange frame
IsAnswer answer = Unit {0}

-- the digest in a content's name has 16 bytes
abbrev pub HasDigest : FileId → Type 0
HasDigest (F.Pool id) = length id.digest ≡ 16
HasDigest file = Unit {0}

-- the file that a refusal names is one
abbrev pub IsRefusal : Refusal → Type 0
IsRefusal (Damaged file found) = IsFile file × HasDigest file
IsRefusal refusal = Unit {0}

-- an answer of the event's kind, in its ranges, or a refusal
abbrev pub InRange : Event → Reply → Type 0
InRange event (Ok answer) = IsAnswerTo event answer × IsAnswer answer
InRange event (Err refusal) = IsRefusal refusal
