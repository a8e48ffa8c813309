-- A client's calls over HTTP: what its requests ask for, what its readings say, and which calls its server made.
--     Heard      a call, the response that was read, and the reply that it says
--     IsFaithful      requests ask for their events, and what is read of a response is the reply
--     IsCodec      requests and replies as texts of this server
--     AreServed      each call that a client heard is the server's at its place
use Rattle.std.specs.Prelude.{◌≡◌, ℕ, ◌<◌, ◌^◌, Bool, true, List, [], ◌∷◌, length, map, Option, Some, None, Ok, unwrap_or}
use Rattle.std.specs.List.{AllByRecursion}
use Rattle.http_client.specs.Requests.{Ask}
use Rattle.http_client.specs.Laws.{parts_asked}
use Rattle.office_model.specs.declared.event.Event.{Event}
use Rattle.office_model.specs.Meaning.{Reply}
use Rattle.office_model.specs.Step.{Call}
use Rattle.call_scripts.specs.Scripts.{one_call}
use Rattle.request_events.specs.declared.defaults.Defaults.{Defaults}
use Rattle.request_events.specs.Asked.{One, asked}
use Rattle.browse_http.specs.Scripts.{event_script}
use Rattle.browse_http.specs.Talk as T
use Rattle.peer_talk.specs.Mirror.{Response, no_memory, Saying, IsReadable}
use Rattle.peer_talk.specs.Sayings.{reply_said}

-- a call of a client, the response that was read, and the reply that it says
pub record Heard : Type 0 where
  pub event : Event
  pub response : Response
  pub reply : Reply

abbrev pub requests_of : (Event → Ask) → List Heard → List Ask
requests_of request_of heard = map (λ h. request_of h.event) heard

abbrev pub responses_of : List Heard → List Response
responses_of heard = map (λ h. h.response) heard

-- each event may be asked for, and each reply is what its response says
abbrev pub AreSaid : (Event → Bool) → (Event → Response → Option Reply) → List Heard → Type 0
AreSaid may reply_of heard = AllByRecursion (λ h. (may h.event ≡ true) × (reply_of h.event h.response ≡ Some h.reply)) heard

-- What a client's requests and readings have to be, for events that may be asked for and replies in their ranges: `at` is the event as
-- a server has it at its own moment, and `saying` what its responses say.
pub record IsFaithful (may : Event → Bool) (ranged : Reply → Bool) (request_of : Event → Ask) (reply_of : Event → Response → Option Reply)
    (at : ℕ → Event → Event) (saying : Saying) (defaults : Defaults) : Type 0 where
  -- the server reads the event that was asked for
  pub asks : (event : Event) (moment : ℕ) → may event ≡ true
      → asked (parts_asked (request_of event)) (unwrap_or (request_of event).body []) moment defaults ≡ Ok (One (at moment event))
  -- it makes this one call for it
  pub single : (event : Event) (moment : ℕ) (failed : Option ℕ) → may event ≡ true
      → event_script (at moment event) failed ≡ one_call (at moment event)
  -- what is read of the response to a reply is that reply
  pub reads : (event : Event) (moment : ℕ) (said read : Reply) (response : Response) → may event ≡ true → ranged said ≡ true
      → saying (T.Called ((at moment event, said) ∷ [])) ≡ Some response → reply_of event response ≡ Some read → read ≡ said
  pub stopped : (count : ℕ) (calls : List Call) → saying (T.Stopped count calls) ≡ saying (T.Called calls)
  -- want of memory says no reply, since it doesn't tell whether the event was carried out
  pub silent : (event : Event) → reply_of event no_memory ≡ None
  pub unsaid : (calls : List Call) → saying (T.Unsaid calls) ≡ Some no_memory
  pub lost : saying T.Lost ≡ Some no_memory

-- the response to each reply in its ranges is read as it is said
abbrev pub IsLegible : (Event → Bool) → (Reply → Bool) → (ℕ → Event → Event) → Saying → Type 0
IsLegible may ranged at saying =
    (event : Event) (moment : ℕ) (reply : Reply) → may event ≡ true → ranged reply ≡ true
    → IsReadable saying (T.Called ((at moment event, reply) ∷ []))

-- the one call of each exchange, where it makes one, has a reply in its ranges
abbrev pub AreRanged : (Reply → Bool) → List T.Exchange → Type 0
AreRanged ranged xs =
    AllByRecursion (λ x. (event : Event) (reply : Reply) → T.calls_in x.outcome ≡ (event, reply) ∷ [] → ranged reply ≡ true) xs

-- each call that was heard is the one of the exchange at its place, at the server's moment and with its reply
abbrev pub AreServed : (ℕ → Event → Event) → List Heard → List T.Exchange → Type 0
AreServed at [] xs = Unit {0}
AreServed at (h ∷ hs) [] = ⊥
AreServed at (h ∷ hs) (x ∷ xs) = (T.calls_in x.outcome ≡ (at x.moment h.event, h.reply) ∷ []) × AreServed at hs xs

-- A codec: the request of each event that may be asked for, and the reply that a response says, with the responses as this server has
-- them. From it follow IsFaithful and IsLegible.
pub record IsCodec (may : Event → Bool) (ranged : Reply → Bool) (request_of : Event → Ask) (reply_of : Event → Response → Option Reply)
    (at : ℕ → Event → Event) (defaults : Defaults) : Type 0 where
  -- the server reads the event that was asked for, and makes this one call for it
  pub asks : (event : Event) (moment : ℕ) → may event ≡ true
      → asked (parts_asked (request_of event)) (unwrap_or (request_of event).body []) moment defaults ≡ Ok (One (at moment event))
  pub single : (event : Event) (moment : ℕ) (failed : Option ℕ) → may event ≡ true
      → event_script (at moment event) failed ≡ one_call (at moment event)
  -- the response to a reply in its ranges has fewer than 2^64 bytes, and what is read of it is that reply
  pub fits : (event : Event) (moment : ℕ) (reply : Reply) → may event ≡ true → ranged reply ≡ true
      → length (reply_said (at moment event) reply).body < 2 ^ 64
  pub reads : (event : Event) (moment : ℕ) (said read : Reply) → may event ≡ true → ranged said ≡ true
      → reply_of event (reply_said (at moment event) said) ≡ Some read → read ≡ said
  -- want of memory says no reply
  pub silent : (event : Event) → reply_of event no_memory ≡ None
