-- What a port heard is what the other server did.
--     Spoke      these calls were made over a connection, whose bytes were these
--     HeardCallsAreAnswered, HeardCallsAreServed      the laws
use Rattle.std.specs.Prelude.{◌≡◌, ℕ, Bool, true, List, ◌++◌, Some}
use Rattle.std.specs.List.{AllByRecursion}
use Rattle.http_client.specs.Requests.{Ask}
use Rattle.office_model.specs.declared.event.Event.{Event}
use Rattle.office_model.specs.declared.refusal.Refusal.{Refusal}
use Rattle.office_model.specs.Meaning.{Reply}
use Rattle.office_model.specs.Step.{Call}
use Rattle.request_events.specs.declared.defaults.Defaults.{Defaults}
use Rattle.browse_http.specs.declared.end.End.{End}
use Rattle.browse_http.specs.Talk as T
use Rattle.peer_talk.specs.Mirror.{IsRequest, Response, AreReadable, IsTalkBetween, AreAnswered, Saying}
use Rattle.peer_calls.specs.Calls.{Heard, requests_of, responses_of, AreServed}
use Rattle.pull_codec.specs.Relations.{IsCodec, AreInRange}
use Rattle.remote_port.specs.Speaks.{Connection, heard_in, Speaks}

-- what could be read of the connection, and what the calls wrote to it, are the bytes of a server's talk
pub record IsTalkOf (p q : Connection) (defaults : Defaults) (xs : List T.Exchange) : Type 0 where
  pub input : List ℕ
  pub left : p.seen.left ≡ Some input
  pub before : List ℕ
  pub written : p.seen.written ≡ Some before
  pub wrote : List ℕ
  pub writes : q.seen.written ≡ Some (before ++ wrote)
  pub made : List Call
  pub end : End
  pub between : IsTalkBetween wrote input xs made end
  pub are : T.AreExchanges defaults xs

module _ (may : Event → Bool) (request_of : Event → Ask) (refusal_of : Event → Refusal) (Says : Event → Response → Reply → Type 0)
    (InRange : Event → Reply → Type 0) (at : ℕ → Event → Event) where
  -- a server reads each request as it is
  abbrev pub AreAsks : Type 0
  AreAsks = (event : Event) → may event ≡ true → IsRequest (request_of event)

  -- the calls that were heard are of events of this kind
  abbrev pub AllHeard : (Event → Bool) → List Heard → Type 0
  AllHeard few heard = AllByRecursion (λ h. few h.event ≡ true) heard

  -- Over a connection to a server that says its responses so that they are read as they are, each response that was heard is the one to
  -- the request at its place; and behind these at most one request more was written, or a front of it.
  abbrev pub HeardCallsAreAnswered : Type 0
  HeardCallsAreAnswered =
      AreAsks → (saying : Saying) (defaults : Defaults) (p q : Connection) (calls : List Call)
      (s : Speaks may request_of refusal_of Says p q calls) (xs : List T.Exchange) → IsTalkOf p q defaults xs
      → AreReadable saying xs (responses_of (heard_in s.turns))
      → (later : List Ask) × AreAnswered saying (requests_of request_of (heard_in s.turns) ++ later) xs (responses_of (heard_in s.turns))

  -- Over a connection to a server, each call that was heard is the server's at its place, at its own moment and with that reply: of
  -- events of a kind for which requests and responses are a codec.
  abbrev pub HeardCallsAreServed : Type 0
  HeardCallsAreServed =
      AreAsks → (few : Event → Bool) (defaults : Defaults) → IsCodec few InRange request_of Says at defaults
      → (p q : Connection) (calls : List Call) (s : Speaks may request_of refusal_of Says p q calls) → AllHeard few (heard_in s.turns)
      → (xs : List T.Exchange) → IsTalkOf p q defaults xs → AreInRange InRange xs → AreServed at (heard_in s.turns) xs
