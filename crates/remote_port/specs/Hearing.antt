-- One call over a wire, by what is seen of it before and after.
--     Responds      what each outcome of an exchange says
--     Hears      what each outcome of a call says
use Rattle.std.specs.Prelude.{◌≡◌, ◌⊎◌, ℕ, Result, Ok, Err}
use Rattle.stream_traits.specs.Seen.{LinkSeen}
use Rattle.http_client.specs.Requests.{Ask}
use Rattle.http_client.specs.declared.responses.ResponseRead.{ResponseRead}
use Rattle.http_client.specs.declared.responses.ResponseRead.TheVariants as R
use Rattle.office_model.specs.declared.event.Event.{Event}
use Rattle.office_model.specs.Meaning.{Reply}
use Rattle.peer_exchange.specs.Exchanges.{Answers, GivesNone, LacksMemory, Breaks}
use Rattle.peer_talk.specs.Mirror.{Response}
use Rattle.remote_port.specs.declared.end.PortEnd.{PortEnd}
use Rattle.remote_port.specs.declared.end.PortEnd.TheVariants.{Foreign, Silent, Link, Memory}
use Rattle.remote_port.specs.declared.hearing.Response.{Response as Held}

-- the most bytes of a body that are taken
abbrev pub most : ℕ
most = 67108864

-- a response that the program holds
abbrev pub response_of : Held → Response
response_of held = record { status = held.status; body = held.body.items }

-- what the reading of a response comes to
abbrev pub judged : ResponseRead → Result Held PortEnd
judged (R.Response status body) = Ok (record { status = status; body = body })
judged R.Ended = Err Foreign
judged R.Truncated = Err Foreign
judged R.Foreign = Err Foreign
judged R.TooLong = Err Memory
judged R.LinkFault = Err Link
judged R.Memory = Err Memory

-- what each outcome of an exchange says
abbrev pub Responds : LinkSeen → LinkSeen → Ask → Result Held PortEnd → Type 0
Responds old new ask (Ok held) = Answers old new ask most held.status held.body.items
Responds old new ask (Err Foreign) = GivesNone old new ask most
Responds old new ask (Err (Silent status)) = ⊥
Responds old new ask (Err Link) = Breaks old new ask
Responds old new ask (Err Memory) = LacksMemory old new ask most

-- a whole response was taken
abbrev pub TakesIt : LinkSeen → LinkSeen → Ask → Response → Type 0
TakesIt old new ask response = Answers old new ask most response.status response.body

-- what is read of a response to the event: the reply that it says; that it says none; or there was no memory for it
abbrev pub Reads : (Event → Response → Reply → Type 0) → Event → Response → Result Reply PortEnd → Type 0
Reads Says event response (Ok reply) = Says event response reply
Reads Says event response (Err (Silent status)) = (status ≡ response.status) × ((reply : Reply) → Says event response reply → ⊥)
Reads Says event response (Err Memory) = Unit {0}
Reads Says event response (Err Foreign) = ⊥
Reads Says event response (Err Link) = ⊥

module _ (request_of : Event → Ask) (Says : Event → Response → Reply → Type 0) where
  -- the request was written and sent, a whole response was taken, and this is read of it
  pub record HasResponse (old new : LinkSeen) (event : Event) (read : Result Reply PortEnd) : Type 0 where
    pub response : Response
    pub answers : TakesIt old new (request_of event) response
    pub reads : Reads Says event response read

  -- how a call may end the port
  abbrev pub EndsBy : LinkSeen → LinkSeen → Event → PortEnd → Type 0
  EndsBy old new event Foreign = GivesNone old new (request_of event) most
  EndsBy old new event (Silent status) = HasResponse old new event (Err (Silent status))
  EndsBy old new event Link = Breaks old new (request_of event)
  EndsBy old new event Memory = LacksMemory old new (request_of event) most ⊎ HasResponse old new event (Err Memory)

  -- what each outcome of a call says
  abbrev pub Hears : LinkSeen → LinkSeen → Event → Result Reply PortEnd → Type 0
  Hears old new event (Ok reply) = HasResponse old new event (Ok reply)
  Hears old new event (Err end) = EndsBy old new event end
