-- What each end of a connection knows of the other.
use Rattle.std.specs.Prelude.{◌≡◌, ℕ, ◌≤◌, List, [], length, IfSome}
use Rattle.std.specs.List.{AllByRecursion}
use Rattle.http_client.specs.Requests.{Ask}
use Rattle.office_model.specs.Office.{piece_limit}
use Rattle.office_model.specs.Step.{Call}
use Rattle.request_events.specs.declared.defaults.Defaults.{Defaults}
use Rattle.request_events.specs.Asked.{Asked}
use Rattle.request_events.specs.Said.{Said}
use Rattle.browse_http.specs.declared.end.End.{End}
use Rattle.browse_http.specs.Talk as T
use Rattle.peer_talk.specs.Mirror.{AreRequests, written_for, Response, AreResponses, Saying, IsReadable, AreReadable, IsTalkBetween, AreAsked, AreAnswered}
use Rattle.peer_talk.specs.Sayings.{says, IsFitting}

-- each request that a server read of what a client wrote is the client's at that place
abbrev pub ServerTalksAreAsked : Type 0
ServerTalksAreAsked =
    (defaults : Defaults) (asks : List Ask) (xs : List T.Exchange) (made : List Call) (end : End) (read : List ℕ)
    → AreRequests asks → T.AreExchanges defaults xs → IsTalkBetween (written_for asks) read xs made end → AreAsked asks xs

-- each response that a client reads of a server's talk is the one to its request at that place
abbrev pub ServerTalksAreMirrored : Type 0
ServerTalksAreMirrored =
    (saying : Saying) (defaults : Defaults) (asks : List Ask) (xs : List T.Exchange) (made : List Call) (end : End)
    (read : List ℕ) (answers : List Response) (rest : List ℕ)
    → AreRequests asks → T.AreExchanges defaults xs → AreReadable saying xs answers
    → IsTalkBetween (written_for asks) read xs made end → AreResponses read answers rest → AreAnswered saying asks xs answers

-- if no body is longer than a piece, then a request that wasn't read whole called nothing
abbrev pub ShortRequestsCallWhole : Type 0
ShortRequestsCallWhole =
    (asks : List Ask) (xs : List T.Exchange) (made : List Call) (end : End) (read : List ℕ) (defaults : Defaults)
    → AreRequests asks → AllByRecursion (λ ask. IfSome ask.body (λ body. length body ≤ piece_limit)) asks
    → T.AreExchanges defaults xs → IsTalkBetween (written_for asks) read xs made end → made ≡ []

-- the response to what came of a request, but HEAD, is read as it is said
abbrev pub ResponsesAreReadable : Type 0
ResponsesAreReadable =
    (said : Said Asked) (body : List ℕ) (outcome : T.Outcome) → T.IsOutcome said body outcome → IsFitting outcome → IsReadable says outcome
