-- A push's calls are its server's.
--     PushesAreCoded, RequestsAreRead, PushesAreRequests, RepliesAreSaid      the laws
use Rattle.std.specs.Prelude.{◌≡◌, ℕ, true, [], Ok, Err, unwrap_or}
use Rattle.http_client.specs.Laws.{parts_asked}
use Rattle.office_model.specs.declared.event.Event.{Event}
use Rattle.office_model.specs.declared.answer.Answer.{Answer}
use Rattle.office_model.specs.declared.refusal.Refusal.{Refusal}
use Rattle.request_events.specs.declared.defaults.Defaults.{Defaults}
use Rattle.request_events.specs.Asked.{asked}
use Rattle.peer_talk.specs.Mirror.{IsRequest}
use Rattle.peer_talk.specs.Sayings.{reply_said}
use Rattle.pull_codec.specs.Relations.{IsCodec}
use Rattle.push_texts.specs.Laws.{asked_for}
use Rattle.push_replies.specs.Laws.{IsNamed}
use Rattle.push_codec.specs.Codec.{may, may_one, request_of, at, Says, InRange}

-- requests and responses of the events that are one call are a codec
abbrev pub PushesAreCoded : Type 0
PushesAreCoded = (defaults : Defaults) → IsCodec may_one InRange request_of Says at defaults

-- a server reads each request as its event; that of a file of more than a piece as the put of this file by a stage
abbrev pub RequestsAreRead : Type 0
RequestsAreRead =
    (event : Event) (moment : ℕ) (defaults : Defaults) → may event ≡ true
    → asked (parts_asked (request_of event)) (unwrap_or (request_of event).body []) moment defaults ≡ Ok (asked_for moment event)

-- a server reads each request as it is, and has a body behind the head of its response
abbrev pub PushesAreRequests : Type 0
PushesAreRequests = (event : Event) → may event ≡ true → IsRequest (request_of event)

-- each answer in its ranges is what its response says, and each refusal that its response names whole
pub record RepliesAreSaid : Type 0 where
  pub answers : (event : Event) (answer : Answer) → may event ≡ true → InRange event (Ok answer) → Says event (reply_said event (Ok answer)) (Ok answer)
  pub refusals : (event : Event) (refusal : Refusal) → IsNamed refusal → Says event (reply_said event (Err refusal)) (Err refusal)
