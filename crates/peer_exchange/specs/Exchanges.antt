-- One exchange, by what is seen of the wire before and after it.
use Rattle.std.specs.Prelude.{◌≡◌, ℕ, ◌==◌, if◌then◌else◌, List, Result, Ok, Err}
use Rattle.std.specs.Global.{Vec}
use Rattle.stream_traits.specs.Seen.{LinkSeen}
use Rattle.stream_traits.specs.Told.{behind, WroteFront}
use Rattle.http_client.specs.Requests.{Ask, request_bytes}
use Rattle.http_client.specs.ResponseReads.{TakesResponse, TookSome, ReadsResponse}
use Rattle.http_client.specs.declared.responses.ResponseRead.{ResponseRead}
use Rattle.http_client.specs.declared.responses.ResponseRead.TheVariants as R
use Rattle.peer_exchange.specs.declared.fault.PeerFault.{PeerFault}
use Rattle.peer_exchange.specs.declared.fault.PeerFault.TheVariants.{Refused, Foreign, Link, Memory}

-- what the reading of a response is told as
abbrev pub told : ℕ → ResponseRead → Result (Vec ℕ) PeerFault
told wanted (R.Response status body) = if status == wanted then Ok body else Err (Refused status)
told wanted R.Ended = Err Foreign
told wanted R.Truncated = Err Foreign
told wanted R.Foreign = Err Foreign
told wanted R.TooLong = Err Memory
told wanted R.LinkFault = Err Link
told wanted R.Memory = Err Memory

-- the request was written, all of it, behind what was, and what was written was sent
pub record Sends (old new : LinkSeen) (ask : Ask) : Type 0 where
  pub wrote : new.written ≡ behind old.written (request_bytes ask)
  pub sent : new.sent ≡ new.written

-- and a whole response with this status and body was taken from the input
pub record Answers (old new : LinkSeen) (ask : Ask) (most status : ℕ) (body : List ℕ) : Type 0 where
  pub sends : Sends old new ask
  pub took : TakesResponse most old.left new.left status body

-- and a whole response of another status than the wanted one was
pub record Refuses (old new : LinkSeen) (ask : Ask) (wanted most status : ℕ) : Type 0 where
  pub other : ¬ (status ≡ wanted)
  pub body : List ℕ
  pub answers : Answers old new ask most status body

-- and there was no response: what came is none, or the input ended before one or inside it
pub data GivesNone (old new : LinkSeen) (ask : Ask) (most : ℕ) : Type 0 where
  foreign : Sends old new ask → ReadsResponse most old.left new.left R.Foreign → GivesNone old new ask most
  ended : Sends old new ask → ReadsResponse most old.left new.left R.Ended → GivesNone old new ask most
  cut : Sends old new ask → ReadsResponse most old.left new.left R.Truncated → GivesNone old new ask most

-- there was no memory for the request, and nothing is changed; or none for its response, or that has a longer body than is taken
pub data LacksMemory (old new : LinkSeen) (ask : Ask) (most : ℕ) : Type 0 where
  unasked : new ≡ old → LacksMemory old new ask most
  unread : Sends old new ask → ReadsResponse most old.left new.left R.Memory → LacksMemory old new ask most
  too_long : Sends old new ask → ReadsResponse most old.left new.left R.TooLong → LacksMemory old new ask most

-- a front of the request was written, and a front of the input taken
pub record Breaks (old new : LinkSeen) (ask : Ask) : Type 0 where
  pub wrote : WroteFront old.written new.written (request_bytes ask)
  pub took : TookSome old.left new.left

-- what each outcome says
abbrev pub Exchanges : LinkSeen → LinkSeen → Ask → (wanted most : ℕ) → Result (Vec ℕ) PeerFault → Type 0
Exchanges old new ask wanted most (Ok body) = Answers old new ask most wanted body.items
Exchanges old new ask wanted most (Err (Refused status)) = Refuses old new ask wanted most status
Exchanges old new ask wanted most (Err Foreign) = GivesNone old new ask most
Exchanges old new ask wanted most (Err Link) = Breaks old new ask
Exchanges old new ask wanted most (Err Memory) = LacksMemory old new ask most
