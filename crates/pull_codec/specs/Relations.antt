-- Codecs by relations: as the codec of `peer_calls`, but what a response says may be no function of its bytes, and which replies are in
-- range depends on the event.
--     IsCodec      requests and replies as texts of this server
--     AreHeard      each reply is what its response says
--     AreInRange      the replies of exchanges that made one call are in their ranges
use Rattle.std.specs.Prelude.{◌≡◌, ℕ, ◌<◌, ◌^◌, Bool, true, List, [], ◌∷◌, length, Option, Ok, unwrap_or}
use Rattle.std.specs.List.{AllByRecursion}
use Rattle.http_client.specs.Requests.{Ask}
use Rattle.http_client.specs.Laws.{parts_asked}
use Rattle.office_model.specs.declared.event.Event.{Event}
use Rattle.office_model.specs.Meaning.{Reply}
use Rattle.call_scripts.specs.Scripts.{one_call}
use Rattle.request_events.specs.declared.defaults.Defaults.{Defaults}
use Rattle.request_events.specs.Asked.{One, asked}
use Rattle.browse_http.specs.Scripts.{event_script}
use Rattle.browse_http.specs.Talk as T
use Rattle.peer_talk.specs.Mirror.{Response, no_memory}
use Rattle.peer_talk.specs.Sayings.{reply_said}
use Rattle.peer_calls.specs.Calls.{Heard}

-- The request of each event that may be asked for, and the replies that responses say, with the responses as this server has them: `at`
-- is the event as a server has it at its own moment.
pub record IsCodec (may : Event → Bool) (InRange : Event → Reply → Type 0) (request_of : Event → Ask)
    (Says : Event → Response → Reply → Type 0) (at : ℕ → Event → Event) (defaults : Defaults) : Type 0 where
  -- the server reads the event that was asked for, and makes this one call for it
  pub asks : (event : Event) (moment : ℕ) → may event ≡ true
      → asked (parts_asked (request_of event)) (unwrap_or (request_of event).body []) moment defaults ≡ Ok (One (at moment event))
  pub single : (event : Event) (moment : ℕ) (failed : Option ℕ) → may event ≡ true
      → event_script (at moment event) failed ≡ one_call (at moment event)
  -- the response to a reply in its ranges has fewer than 2^64 bytes, and what it says is that reply
  pub fits : (event : Event) (moment : ℕ) (reply : Reply) → may event ≡ true → InRange (at moment event) reply
      → length (reply_said (at moment event) reply).body < 2 ^ 64
  pub reads : (event : Event) (moment : ℕ) (said read : Reply) → may event ≡ true → InRange (at moment event) said
      → Says event (reply_said (at moment event) said) read → read ≡ said
  -- want of memory says no reply
  pub silent : (event : Event) (reply : Reply) → Says event no_memory reply → ⊥

-- each event may be asked for, and each reply is what its response says
abbrev pub AreHeard : (Event → Bool) → (Event → Response → Reply → Type 0) → List Heard → Type 0
AreHeard may Says heard = AllByRecursion (λ h. (may h.event ≡ true) × Says h.event h.response h.reply) heard

-- the one call of each exchange, if it makes one, has a reply in its ranges
abbrev pub AreInRange : (Event → Reply → Type 0) → List T.Exchange → Type 0
AreInRange InRange xs =
    AllByRecursion (λ x. (event : Event) (reply : Reply) → T.calls_in x.outcome ≡ (event, reply) ∷ [] → InRange event reply) xs
