-- What a pull's calls over one connection give.
--     CallsAreHeard, RunsAreHeard, RunsAreRead, RunsAreServed      the laws
use Rattle.std.specs.Prelude.{◌≡◌, ℕ, true, List, ◌++◌, Option, Some, Ok}
use Rattle.stream_traits.specs.Seen.{LinkSeen}
use Rattle.stream_traits.specs.Told.{behind}
use Rattle.receipts.specs.declared.session.SessionName.{SessionName}
use Rattle.tree_frames.specs.declared.nodes.Frame.{Frame}
use Rattle.http_client.specs.Requests.{Ask}
use Rattle.office_model.specs.declared.event.Event.TheVariants as E
use Rattle.office_model.specs.declared.answer.Answer.TheVariants as A
use Rattle.office_model.specs.Step.{Call}
use Rattle.restore_stream.specs.OneFrame.{IsFrameOf}
use Rattle.listing_back.specs.declared.listing.Listing.{Listing}
use Rattle.request_events.specs.declared.defaults.Defaults.{Defaults}
use Rattle.browse_http.specs.declared.end.End.{End}
use Rattle.browse_http.specs.Talk as T
use Rattle.peer_asks.specs.Asks.{IsListing, IsOpened, Asks, Closes}
use Rattle.peer_talk.specs.Mirror.{AreRequests, written_for, AreResponses, IsTalkBetween}
use Rattle.peer_calls.specs.Calls.{Heard, requests_of, responses_of, AreServed}
use Rattle.pull_codec.specs.Codec.{may, request_of, at, InRange}
use Rattle.pull_codec.specs.Relations.{AreInRange}
use Rattle.pull_codec.specs.Calls.{HasHeard, HasHeardOne}

-- a call that gave a value was heard, with the reply that this value is
pub record CallsAreHeard : Type 0 where
  pub listing : (old new : LinkSeen) (host : List ℕ) (listing : Listing) → may (E.Backups host) ≡ true
      → Asks old new (E.Backups host) 200 IsListing (Ok listing)
      → HasHeardOne old new (E.Backups host) (Ok (A.Backups listing.lines listing.next listing.dump))
  pub opened : (old new : LinkSeen) (host : List ℕ) (number : ℕ) (base : Option ℕ) (restore : SessionName)
      → may (E.OpenRead host number base) ≡ true → Asks old new (E.OpenRead host number base) 201 IsOpened (Ok restore)
      → HasHeardOne old new (E.OpenRead host number base) (Ok (A.Restore restore))
  pub next : (old new : LinkSeen) (restore : SessionName) (frame : Frame) → may (E.ReadNext restore) ≡ true
      → Asks old new (E.ReadNext restore) 200 IsFrameOf (Ok frame) → HasHeardOne old new (E.ReadNext restore) (Ok (A.Next frame))
  pub closed : (old new : LinkSeen) (restore : SessionName) → may (E.CloseRead restore) ≡ true
      → Closes {T = Unit {0}} old new (E.CloseRead restore) 200 (Ok tt) → HasHeardOne old new (E.CloseRead restore) (Ok A.Done)

-- calls, and then others over the same wire
abbrev pub RunsAreHeard : Type 0
RunsAreHeard =
    (old mid new : LinkSeen) (xs ys : List Heard) → HasHeard old mid xs → HasHeard mid new ys → HasHeard old new (xs ++ ys)

-- their requests were written one after the other, and the input begins with their responses; what follows them is left
pub record HasRead (old new : LinkSeen) (heard : List Heard) (input : List ℕ) : Type 0 where
  pub wrote : new.written ≡ behind old.written (written_for (requests_of request_of heard))
  pub rest : List ℕ
  pub left : new.left ≡ Some rest
  pub responses : AreResponses input (responses_of heard) rest

-- so it is if the input is told
abbrev pub RunsAreRead : Type 0
RunsAreRead =
    (old new : LinkSeen) (heard : List Heard) (input : List ℕ) → HasHeard old new heard → old.left ≡ Some input
    → HasRead old new heard input

-- If the input is what came of a server's talk of these requests, and perhaps of more: each call that was heard is the server's at its
-- place, with its reply.
abbrev pub RunsAreServed : Type 0
RunsAreServed =
    (defaults : Defaults) (old new : LinkSeen) (heard : List Heard) (later : List Ask) (xs : List T.Exchange) (made : List Call) (end : End)
    (input : List ℕ) → HasHeard old new heard → old.left ≡ Some input → AreRequests later
    → T.AreExchanges defaults xs → AreInRange InRange xs
    → IsTalkBetween (written_for (requests_of request_of heard ++ later)) input xs made end → AreServed at heard xs
