-- The calls of a port over one connection.
--     Turn      a call that was heard, or that wasn't asked for
--     EndsWith      the port goes on, or ended by an event
--     Speaks      these calls lead from one state of a connection to another
use Rattle.std.specs.Prelude.{◌≡◌, Bool, true, false, List, [], ◌∷◌, ◌++◌, map, Option, Some, None, Err}
use Rattle.std.specs.List.{AllByRecursion}
use Rattle.fault_counts.specs.Counts.{Counted}
use Rattle.stream_traits.specs.Seen.{LinkSeen}
use Rattle.http_client.specs.Requests.{Ask}
use Rattle.office_model.specs.declared.event.Event.{Event}
use Rattle.office_model.specs.declared.refusal.Refusal.{Refusal}
use Rattle.office_model.specs.declared.refusal.Refusal.TheVariants.{Memory}
use Rattle.office_model.specs.Meaning.{Reply}
use Rattle.office_model.specs.Step.{Call}
use Rattle.peer_exchange.specs.Several.{Exchange, AreExchanged}
use Rattle.peer_talk.specs.Mirror.{Response}
use Rattle.peer_calls.specs.Calls.{Heard}
use Rattle.remote_port.specs.declared.end.PortEnd.{PortEnd}
use Rattle.remote_port.specs.declared.end.PortEnd.TheVariants as End
use Rattle.remote_port.specs.Hearing.{most, EndsBy}

-- what is seen of a port: of its wire, and why it ended, if it did
pub record Connection : Type 0 where
  pub seen : LinkSeen
  pub end : Option PortEnd

-- a call before the end: it was heard; or there was no memory for its request; or there is no request for it
pub data Turn : Type 0 where
  heard : Heard → Turn
  unasked : Event → Turn
  barred : Event → Turn

-- those that were heard
abbrev pub heard_in : List Turn → List Heard
heard_in [] = []
heard_in (heard h ∷ turns) = h ∷ heard_in turns
heard_in (unasked event ∷ turns) = heard_in turns
heard_in (barred event ∷ turns) = heard_in turns

-- a call from the end on: of the first of them it isn't known whether it was carried out
abbrev pub lost_call : Event → Call
lost_call event = (event, Err Memory)

module _ (may : Event → Bool) (request_of : Event → Ask) (refusal_of : Event → Refusal) (Says : Event → Response → Reply → Type 0) where
  abbrev pub call_of : Turn → Call
  call_of (heard h) = (h.event, h.reply)
  call_of (unasked event) = (event, Err Memory)
  call_of (barred event) = (event, Err (refusal_of event))

  abbrev pub IsTurn : Turn → Type 0
  IsTurn (heard h) = (may h.event ≡ true) × Says h.event h.response h.reply
  IsTurn (unasked event) = Unit {0}
  IsTurn (barred event) = may event ≡ false

  -- the request of a call that was heard, and its response
  abbrev pub exchange_of : Heard → Exchange
  exchange_of h = record { ask = request_of h.event; status = h.response.status; body = h.response.body }

  -- nothing was lost, and nothing is seen but what was; or the first call that was lost ended the port
  abbrev pub EndsWith : LinkSeen → LinkSeen → List Event → Option PortEnd → Type 0
  EndsWith old new [] None = new ≡ old
  EndsWith old new [] (Some end) = ⊥
  EndsWith old new (event ∷ events) None = ⊥
  EndsWith old new (event ∷ events) (Some end) = (may event ≡ true) × EndsBy request_of Says old new event end

  -- First come calls that were heard, their requests written one after the other and their responses read in order, and perhaps calls
  -- that weren't asked for. If the port ended, what was seen behind them is `mid`, the call that ended it follows, and the calls
  -- behind it, of which nothing was written or read. Of a port that had ended before nothing changes.
  pub record Speaks (p q : Connection) (calls : List Call) : Type 0 where
    pub turns : List Turn
    pub lost : List Event
    pub calls_are : calls ≡ map call_of turns ++ map lost_call lost
    pub are : AllByRecursion IsTurn turns
    pub mid : LinkSeen
    pub exchanged : AreExchanged most p.seen mid (map exchange_of (heard_in turns))
    pub ends : p.end ≡ None → EndsWith mid q.seen lost q.end
    pub silent : (end : PortEnd) → p.end ≡ Some end → (q ≡ p) × (turns ≡ [])
    pub counted : Counted p.seen.faults q.seen.faults ((p.end ≡ None) × (q.end ≡ Some End.Link))
