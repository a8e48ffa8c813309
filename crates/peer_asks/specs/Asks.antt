-- What each call asks of another server, and what it comes to, by what is seen of the wire before and after it.
--     ask_with      the request of an event's texts
--     Asks      what each outcome of a call says whose answer has a body that reads as a value
--     Closes      the same, where nothing is read of the body
use Rattle.std.specs.Prelude.{◌≡◌, ◌⊎◌, ℕ, if◌then◌else◌, bytes_eq, codes, List, [], Option, Some, None, IfSome, Result, Ok, Err}
use Rattle.stream_traits.specs.Seen.{LinkSeen}
use Rattle.office_model.specs.declared.event.Event.{Event}
use Rattle.receipts.specs.declared.session.SessionName.{SessionName}
use Rattle.http_client.specs.Requests.{Ask}
use Rattle.event_texts.specs.Requests.{RequestTexts, request_of}
use Rattle.listing_back.specs.declared.listing.Listing.{Listing}
use Rattle.listing_back.specs.Listings.{listing_of, opened_of}
use Rattle.peer_exchange.specs.declared.fault.PeerFault.{PeerFault}
use Rattle.peer_exchange.specs.declared.fault.PeerFault.TheVariants.{Refused, Foreign, Link, Memory}
use Rattle.peer_exchange.specs.Exchanges.{Answers, Refuses, GivesNone, LacksMemory, Breaks, Exchanges}

-- the most bytes of a body that are taken
abbrev pub most : ℕ
most = 67108864

-- a GET has no body; the others have an empty one, so that its length is named
abbrev pub body_for : List ℕ → Option (List ℕ)
body_for method = if bytes_eq method (codes "GET") then None else Some []

-- the request of these texts, to the host `b`
abbrev pub ask_with : RequestTexts → Ask
ask_with texts = record { method = texts.method; target = texts.target; host = codes "b"; body = body_for texts.method }

-- ---- what a body reads as: a value, or nothing

abbrev pub Reading : Type 0 → Type 1
Reading V = List ℕ → Option V → Type 0

abbrev pub IsListing : Reading Listing
IsListing body listing = listing ≡ listing_of body

abbrev pub IsOpened : Reading SessionName
IsOpened body restore = restore ≡ opened_of body

-- ---- outcomes

-- a whole response of the wanted status was taken, whose body reads as this
pub record Answered {V : Type 0} (old new : LinkSeen) (ask : Ask) (wanted : ℕ) (Reads : Reading V) (value : Option V) : Type 0 where
  pub body : List ℕ
  pub answers : Answers old new ask most wanted body
  pub reads : Reads body value

-- a whole response of the wanted status was taken
pub record HasAnswer (old new : LinkSeen) (ask : Ask) (wanted : ℕ) : Type 0 where
  pub body : List ℕ
  pub answers : Answers old new ask most wanted body

-- What each outcome says: a value, that the body reads as it; a foreign answer, that there was no response, or that its body reads as
-- nothing; want of memory, that there was none for the exchange, or none to read the body.
abbrev pub Hears : {V : Type 0} → LinkSeen → LinkSeen → Ask → ℕ → Reading V → Result V PeerFault → Type 0
Hears old new ask wanted Reads (Ok value) = Answered old new ask wanted Reads (Some value)
Hears old new ask wanted Reads (Err (Refused status)) = Refuses old new ask wanted most status
Hears old new ask wanted Reads (Err Foreign) = GivesNone old new ask most ⊎ Answered old new ask wanted Reads None
Hears old new ask wanted Reads (Err Link) = Breaks old new ask
Hears old new ask wanted Reads (Err Memory) = LacksMemory old new ask most ⊎ HasAnswer old new ask wanted

-- the same where nothing is read of the body
abbrev pub Ends : {T : Type 0} → LinkSeen → LinkSeen → Ask → ℕ → Result T PeerFault → Type 0
Ends old new ask wanted (Ok done) = HasAnswer old new ask wanted
Ends old new ask wanted (Err fault) = Exchanges old new ask wanted most (Err fault)

-- the same of an event's request; each event of the four calls has one
abbrev pub Asks : {V : Type 0} → LinkSeen → LinkSeen → Event → ℕ → Reading V → Result V PeerFault → Type 0
Asks old new event wanted Reads result = IfSome (request_of event) (λ texts. Hears old new (ask_with texts) wanted Reads result)

abbrev pub Closes : {T : Type 0} → LinkSeen → LinkSeen → Event → ℕ → Result T PeerFault → Type 0
Closes old new event wanted result = IfSome (request_of event) (λ texts. Ends old new (ask_with texts) wanted result)

-- ---- steps

-- what was read of a body, as it is told
abbrev pub found : {T E : Type 0} → Result (Option T) E → Result T PeerFault
found (Ok (Some value)) = Ok value
found (Ok None) = Err Foreign
found (Err fault) = Err Memory
