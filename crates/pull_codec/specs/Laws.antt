-- A pull's calls are its server's.
--     PullsAreCoded, AnswersAreSaid, PullsAreRequests, AnsweredPullsAreServed, PullsAreServed      the laws
use Rattle.std.specs.Prelude.{◌≡◌, ℕ, true, List, ◌++◌, Ok}
use Rattle.http_client.specs.Requests.{Ask}
use Rattle.office_model.specs.declared.event.Event.{Event}
use Rattle.office_model.specs.declared.answer.Answer.{Answer}
use Rattle.office_model.specs.Step.{Call}
use Rattle.request_events.specs.declared.defaults.Defaults.{Defaults}
use Rattle.browse_http.specs.declared.end.End.{End}
use Rattle.browse_http.specs.Talk as T
use Rattle.peer_talk.specs.Mirror.{IsRequest, AreRequests, written_for, AreResponses, IsTalkBetween, AreAnswered}
use Rattle.peer_talk.specs.Sayings.{reply_said, says}
use Rattle.peer_calls.specs.Calls.{Heard, requests_of, responses_of, AreServed}
use Rattle.pull_codec.specs.Codec.{may, request_of, at, Says, InRange}
use Rattle.pull_codec.specs.Relations.{IsCodec, AreHeard, AreInRange}

-- a pull's requests and responses are a codec
abbrev pub PullsAreCoded : Type 0
PullsAreCoded = (defaults : Defaults) → IsCodec may InRange request_of Says at defaults

-- each answer in its ranges is what its response says
abbrev pub AnswersAreSaid : Type 0
AnswersAreSaid =
    (event : Event) (answer : Answer) → may event ≡ true → InRange event (Ok answer) → Says event (reply_said event (Ok answer)) (Ok answer)

-- a server reads each request of a pull as it is, and has a body behind the head of its response
abbrev pub PullsAreRequests : Type 0
PullsAreRequests = (event : Event) → may event ≡ true → IsRequest (request_of event)

-- if each response is the one to its request, each call that was heard is that of the exchange at its place, with its reply
abbrev pub AnsweredPullsAreServed : Type 0
AnsweredPullsAreServed =
    (defaults : Defaults) (heard : List Heard) (later : List Ask) (xs : List T.Exchange) → AreHeard may Says heard
    → T.AreExchanges defaults xs → AreInRange InRange xs
    → AreAnswered says (requests_of request_of heard ++ later) xs (responses_of heard) → AreServed at heard xs

-- So it is of what a client wrote and read, and a server's talk of it: requests of a pull, perhaps with more behind them, and responses
-- that say these replies. Either way the connection may be cut at any byte.
abbrev pub PullsAreServed : Type 0
PullsAreServed =
    (defaults : Defaults) (heard : List Heard) (later : List Ask) (xs : List T.Exchange) (made : List Call) (end : End) (read rest : List ℕ)
    → AreHeard may Says heard → AreRequests later → T.AreExchanges defaults xs → AreInRange InRange xs
    → IsTalkBetween (written_for (requests_of request_of heard ++ later)) read xs made end
    → AreResponses read (responses_of heard) rest → AreServed at heard xs
