-- What a pull does, one after the other: calls at home, and what it asks of the other server.
--     Step      one of these, with what came of it
--     calls_in      the calls at home among them
--     AreTold      what they write to the wire, and take of it
use Rattle.std.specs.Prelude.{◌≡◌, ℕ, List, [], ◌∷◌, Option, Result}
use Rattle.stream_traits.specs.Seen.{LinkSeen}
use Rattle.tree_frames.specs.declared.nodes.Frame.{Frame}
use Rattle.receipts.specs.declared.session.SessionName.{SessionName}
use Rattle.office_model.specs.declared.event.Event.TheVariants as E
use Rattle.office_model.specs.Step.{Call}
use Rattle.restore_stream.specs.OneFrame.{IsFrameOf}
use Rattle.listing_back.specs.declared.listing.Listing.{Listing}
use Rattle.peer_exchange.specs.declared.fault.PeerFault.{PeerFault}
use Rattle.peer_asks.specs.Asks.{Asks, Closes as AsksEnd, IsListing, IsOpened}

pub data Step : Type 0 where
  -- a call at home, with its reply
  Home : Call → Step
  -- the host's backups there
  Lists : Result Listing PeerFault → Step
  -- a restore there, of the backup of a number, from a base on if there is one
  Opens : (number : ℕ) → (base : Option ℕ) → Result SessionName PeerFault → Step
  -- its next frame
  Reads : (restore : SessionName) → Result Frame PeerFault → Step
  -- its end
  Closes : (restore : SessionName) → Result (Unit {0}) PeerFault → Step

abbrev pub calls_in : List Step → List Call
calls_in [] = []
calls_in (Home call ∷ steps) = call ∷ calls_in steps
calls_in (Lists result ∷ steps) = calls_in steps
calls_in (Opens number base result ∷ steps) = calls_in steps
calls_in (Reads restore result ∷ steps) = calls_in steps
calls_in (Closes restore result ∷ steps) = calls_in steps

-- what a step writes to the wire, and takes of it: a call at home nothing
abbrev pub IsTold : List ℕ → LinkSeen → LinkSeen → Step → Type 0
IsTold host old new (Home call) = new ≡ old
IsTold host old new (Lists result) = Asks old new (E.Backups host) 200 IsListing result
IsTold host old new (Opens number base result) = Asks old new (E.OpenRead host number base) 201 IsOpened result
IsTold host old new (Reads restore result) = Asks old new (E.ReadNext restore) 200 IsFrameOf result
IsTold host old new (Closes restore result) = AsksEnd old new (E.CloseRead restore) 200 result

-- what steps do, one after the other
abbrev pub AreTold : List ℕ → LinkSeen → LinkSeen → List Step → Type 0
AreTold host old new [] = new ≡ old
AreTold host old new (step ∷ steps) = (mid : LinkSeen) × IsTold host old mid step × AreTold host mid new steps
