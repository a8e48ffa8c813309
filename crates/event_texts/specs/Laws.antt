-- What a client writes of an event is read as that event.
--     RequestsReadBack, RequestsArePlain      the laws
use Rattle.std.specs.Prelude.{◌≡◌, ℕ, ◌+◌, ◌<◌, ◌≤◌, ◌^◌, true, List, length, Some, Ok, IfSome}
use Rattle.std.specs.List.{list_all}
use Rattle.httparse.specs.Grammar.{is_token, is_uri_byte}
use Rattle.attr_records.specs.Names.{is_host_name}
use Rattle.office_model.specs.declared.event.Event.{Event}
use Rattle.office_model.specs.declared.event.Event.TheVariants as E
use Rattle.receipts.specs.declared.session.SessionName.{SessionName}
use Rattle.http_heads.specs.Heads.{HeadParts}
use Rattle.request_events.specs.declared.defaults.Defaults.{Defaults}
use Rattle.request_events.specs.Asked.{One, asked}
use Rattle.event_texts.specs.Requests.{RequestTexts, request_of}

-- both numbers have 64 bits
abbrev pub IsSession : SessionName → Type 0
IsSession session = (session.epoch < 2 ^ 64) × (session.sequence < 2 ^ 64)

-- the host of an event is a name, and its numbers are in their ranges, as the program's types have them
abbrev pub IsInRange : Event → Type 0
IsInRange (E.Backups host) = is_host_name host ≡ true
IsInRange (E.OpenRead host number base) = (is_host_name host ≡ true) × (number < 2 ^ 32) × IfSome base (λ other. other < 2 ^ 32)
IsInRange (E.ReadNext restore) = IsSession restore
IsInRange (E.CloseRead restore) = IsSession restore
IsInRange event = Unit {0}

-- a head with the method and the target of an event's request asks for this event, whatever else it says, and whatever comes with it
abbrev pub RequestsReadBack : Type 0
RequestsReadBack =
    (event : Event) (request : RequestTexts) → request_of event ≡ Some request → IsInRange event
    → (head : HeadParts) → head.method ≡ request.method → head.target ≡ request.target
    → (body : List ℕ) (moment : ℕ) (defaults : Defaults) → asked head body moment defaults ≡ Ok (One event)

-- method and target may stand in a head, and are short
pub record IsPlainRequest (request : RequestTexts) : Type 0 where
  pub method : is_token request.method ≡ true
  pub some : 0 < length request.target
  pub target : list_all is_uri_byte request.target ≡ true
  pub short : length request.method + length request.target ≤ 128

abbrev pub RequestsArePlain : Type 0
RequestsArePlain = (event : Event) (request : RequestTexts) → request_of event ≡ Some request → IsInRange event → IsPlainRequest request
