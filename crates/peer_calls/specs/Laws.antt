-- The calls that a client heard are its server's.
use Rattle.std.specs.Prelude.{ℕ, Bool, List, ◌++◌, Option}
use Rattle.http_client.specs.Requests.{Ask}
use Rattle.office_model.specs.declared.event.Event.{Event}
use Rattle.office_model.specs.Meaning.{Reply}
use Rattle.office_model.specs.Step.{Call}
use Rattle.request_events.specs.declared.defaults.Defaults.{Defaults}
use Rattle.browse_http.specs.declared.end.End.{End}
use Rattle.browse_http.specs.Talk as T
use Rattle.peer_talk.specs.Mirror.{AreRequests, written_for, Response, AreResponses, Saying, IsTalkBetween, AreAnswered}
use Rattle.peer_talk.specs.Sayings.{says}
use Rattle.peer_calls.specs.Calls.{Heard, requests_of, responses_of, AreSaid, IsFaithful, IsLegible, AreRanged, AreServed, IsCodec}

-- where each response is the one to its request, each call is the one of its exchange
abbrev pub CallsAreServed : Type 0
CallsAreServed =
    (may : Event → Bool) (ranged : Reply → Bool) (request_of : Event → Ask) (reply_of : Event → Response → Option Reply)
    (at : ℕ → Event → Event) (saying : Saying) (defaults : Defaults)
    → IsFaithful may ranged request_of reply_of at saying defaults
    → (heard : List Heard) (later : List Ask) (xs : List T.Exchange)
    → AreSaid may reply_of heard → T.AreExchanges defaults xs → AreRanged ranged xs
    → AreAnswered saying (requests_of request_of heard ++ later) xs (responses_of heard) → AreServed at heard xs

-- so it is of what a client wrote and read, and a server's talk of it
abbrev pub TalksAreServed : Type 0
TalksAreServed =
    (may : Event → Bool) (ranged : Reply → Bool) (request_of : Event → Ask) (reply_of : Event → Response → Option Reply)
    (at : ℕ → Event → Event) (saying : Saying) (defaults : Defaults)
    → IsFaithful may ranged request_of reply_of at saying defaults → IsLegible may ranged at saying
    → (heard : List Heard) (later : List Ask) (xs : List T.Exchange) (made : List Call) (end : End) (read rest : List ℕ)
    → AreRequests (requests_of request_of heard ++ later) → AreSaid may reply_of heard
    → T.AreExchanges defaults xs → AreRanged ranged xs
    → IsTalkBetween (written_for (requests_of request_of heard ++ later)) read xs made end
    → AreResponses read (responses_of heard) rest → AreServed at heard xs

-- with a codec, requests and readings are faithful, by what the responses of this server say
abbrev pub CodecsAreFaithful : Type 0
CodecsAreFaithful =
    (may : Event → Bool) (ranged : Reply → Bool) (request_of : Event → Ask) (reply_of : Event → Response → Option Reply)
    (at : ℕ → Event → Event) (defaults : Defaults) → IsCodec may ranged request_of reply_of at defaults
    → IsFaithful may ranged request_of reply_of at says defaults × IsLegible may ranged at says
