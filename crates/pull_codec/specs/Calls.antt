-- A run of a pull's calls over one connection, as what was heard.
--     exchange_of      a call that was heard, as an exchange
--     HasHeard      calls that were heard over a wire, by what is seen of it before and after them
use Rattle.std.specs.Prelude.{List, [], ◌∷◌, map}
use Rattle.stream_traits.specs.Seen.{LinkSeen}
use Rattle.office_model.specs.declared.event.Event.{Event}
use Rattle.office_model.specs.Meaning.{Reply}
use Rattle.peer_exchange.specs.Several.{Exchange, AreExchanged}
use Rattle.peer_asks.specs.Asks.{most}
use Rattle.peer_talk.specs.Mirror.{Response}
use Rattle.peer_calls.specs.Calls.{Heard}
use Rattle.pull_codec.specs.Codec.{may, request_of, Says}
use Rattle.pull_codec.specs.Relations.{AreHeard}

-- its request, and the status and the body of its response
abbrev pub exchange_of : Heard → Exchange
exchange_of h = record { ask = request_of h.event; status = h.response.status; body = h.response.body }

-- each reply is what its response says, and the requests and responses are those of the wire, one after the other
pub record HasHeard (old new : LinkSeen) (heard : List Heard) : Type 0 where
  pub said : AreHeard may Says heard
  pub exchanged : AreExchanged most old new (map exchange_of heard)

-- one call with this reply was heard
pub record HasHeardOne (old new : LinkSeen) (event : Event) (reply : Reply) : Type 0 where
  pub response : Response
  pub heard : HasHeard old new (record { event = event; response = response; reply = reply } ∷ [])
