-- Laws of the calls, for the loops of the crates above.
use Rattle.std.specs.Prelude.{ℕ, List, ◌++◌, Result, Ok, Err}
use Rattle.std.proofs.Common.{inl, inr}
use Rattle.stream_traits.specs.Seen.{LinkSeen}
use Rattle.stream_traits.specs.ToldLaws.{WroteFront-all}
use Rattle.http_client.specs.Requests.{Ask, request_bytes}
use Rattle.peer_exchange.specs.declared.fault.PeerFault.{PeerFault}
use Rattle.peer_exchange.specs.declared.fault.PeerFault.TheVariants.{Refused, Foreign, Link, Memory}
use Rattle.peer_exchange.specs.Exchanges.{Answers, Breaks}
use Rattle.peer_exchange.specs.SeveralLaws.{Exchanges-breaks}
use Rattle.peer_asks.specs.Asks.{most, Reading, Hears, Ends}

answered : (old new : LinkSeen) (ask : Ask) (wanted : ℕ) (body : List ℕ) → Answers old new ask most wanted body → Breaks old new ask
answered old new ask wanted body a = record {
  wrote = WroteFront-all old.written new.written (request_bytes ask) a.sends.wrote;
  took = record { taken = a.took.head ++ body; took = a.took.took };
}

-- whatever a call comes to, a front of its request was written, and a front of the input taken
pub Hears-breaks : {V : Type 0} (old new : LinkSeen) (ask : Ask) (wanted : ℕ) (Reads : Reading V) (result : Result V PeerFault)
    → Hears old new ask wanted Reads result → Breaks old new ask
Hears-breaks old new ask wanted Reads (Ok value) x = answered old new ask wanted x.body x.answers
Hears-breaks old new ask wanted Reads (Err (Refused status)) x = Exchanges-breaks old new ask wanted most (Err (Refused status)) x
Hears-breaks old new ask wanted Reads (Err Foreign) (inl none) = Exchanges-breaks old new ask wanted most (Err Foreign) none
Hears-breaks old new ask wanted Reads (Err Foreign) (inr x) = answered old new ask wanted x.body x.answers
Hears-breaks old new ask wanted Reads (Err Link) x = x
Hears-breaks old new ask wanted Reads (Err Memory) (inl lacks) = Exchanges-breaks old new ask wanted most (Err Memory) lacks
Hears-breaks old new ask wanted Reads (Err Memory) (inr x) = answered old new ask wanted x.body x.answers

pub Ends-breaks : {T : Type 0} (old new : LinkSeen) (ask : Ask) (wanted : ℕ) (result : Result T PeerFault)
    → Ends old new ask wanted result → Breaks old new ask
Ends-breaks old new ask wanted (Ok done) x = answered old new ask wanted x.body x.answers
Ends-breaks old new ask wanted (Err fault) x = Exchanges-breaks old new ask wanted most (Err fault) x
