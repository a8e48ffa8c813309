-- What is known of a call that failed.
use Rattle.std.proofs.Common.{◌≡◌, ◌⊎◌, ℕ, true, List, Option, Some, None, Ok, Err, subst, inl, inr}
use Rattle.stream_traits.specs.Seen.{LinkSeen}
use Rattle.receipts.specs.declared.session.SessionName.{SessionName}
use Rattle.restore_stream.specs.OneFrame.{IsFrameOf}
use Rattle.office_model.specs.declared.event.Event.{Event}
use Rattle.office_model.specs.declared.event.Event.TheVariants as E
use Rattle.office_model.specs.declared.answer.Answer.TheVariants as A
use Rattle.office_model.specs.Meaning.{Reply}
use Rattle.peer_exchange.specs.declared.fault.PeerFault.{PeerFault}
use Rattle.peer_exchange.specs.declared.fault.PeerFault.TheVariants as F
use Rattle.peer_exchange.specs.Exchanges.{Answers, Refuses, GivesNone, Breaks, Exchanges}
use Rattle.peer_exchange.specs.SeveralLaws.{Exchanges-breaks}
use Rattle.peer_asks.specs.Asks.{most, Reading, IsListing, IsOpened, Answered, Hears}
use Rattle.peer_asks.specs.AskLaws.{Hears-breaks}
use Rattle.pull_codec.specs.Codec.{may, request_of, wanted, IsRead}

-- a whole response of the wanted status was taken, that says no reply
pub record SaysNone (event : Event) (old new : LinkSeen) : Type 0 where
  pub body : List ℕ
  pub answers : Answers old new (request_of event) most (wanted event) body
  pub none : (reply : Reply) → IsRead event body reply → ⊥

pub record Failed (event : Event) (fault : PeerFault) (old new : LinkSeen) : Type 0 where
  pub fits : may event ≡ true
  pub breaks : Breaks old new (request_of event)
  pub refused : (status : ℕ) → fault ≡ F.Refused status → Refuses old new (request_of event) (wanted event) most status
  pub foreign : fault ≡ F.Foreign → GivesNone old new (request_of event) most ⊎ SaysNone event old new

-- a body that reads as nothing says no reply
abbrev Unread : {V : Type 0} → Event → Reading V → Type 0
Unread event Reads = (body : List ℕ) (reply : Reply) → Reads body None → IsRead event body reply → ⊥

says_none : {V : Type 0} (event : Event) (old new : LinkSeen) (Reads : Reading V) → Unread event Reads
    → GivesNone old new (request_of event) most ⊎ Answered old new (request_of event) (wanted event) Reads None
    → GivesNone old new (request_of event) most ⊎ SaysNone event old new
says_none event old new Reads unread (inl none) = inl none
says_none event old new Reads unread (inr x) =
    inr (record { body = x.body; answers = x.answers; none = λ reply read. unread x.body reply x.reads read })

pub ask_failed : {V : Type 0} (event : Event) (fault : PeerFault) (old new : LinkSeen) (Reads : Reading V) → may event ≡ true
    → Unread event Reads → Hears old new (request_of event) (wanted event) Reads (Err fault) → Failed event fault old new
ask_failed event fault old new Reads fits unread x = record {
  fits = fits;
  breaks = Hears-breaks old new (request_of event) (wanted event) Reads (Err fault) x;
  refused = λ status e. subst (λ (f : PeerFault). Hears old new (request_of event) (wanted event) Reads (Err f)) e x;
  foreign = λ e. says_none event old new Reads unread
      (subst (λ (f : PeerFault). Hears old new (request_of event) (wanted event) Reads (Err f)) e x);
}

pub end_failed : (event : Event) (fault : PeerFault) (old new : LinkSeen) → may event ≡ true
    → Exchanges old new (request_of event) (wanted event) most (Err fault) → Failed event fault old new
end_failed event fault old new fits x = record {
  fits = fits;
  breaks = Exchanges-breaks old new (request_of event) (wanted event) most (Err fault) x;
  refused = λ status e. subst (λ (f : PeerFault). Exchanges old new (request_of event) (wanted event) most (Err f)) e x;
  foreign = λ e. inl (subst (λ (f : PeerFault). Exchanges old new (request_of event) (wanted event) most (Err f)) e x);
}

-- ---- the three that are read

none_some : {A : Type 0} (o : Option A) (a : A) → None ≡ o → Some a ≡ o → ⊥
none_some o a e f = cc

pub listing_unread : (host : List ℕ) → Unread (E.Backups host) IsListing
listing_unread host body (Ok (A.Backups lines next dump)) none read = none_some _ _ none read
listing_unread host body reply none read = absurd read

pub opened_unread : (host : List ℕ) (number : ℕ) (base : Option ℕ) → Unread (E.OpenRead host number base) IsOpened
opened_unread host number base body (Ok (A.Restore name)) none read = none_some _ _ none read
opened_unread host number base body reply none read = absurd read

pub next_unread : (restore : SessionName) → Unread (E.ReadNext restore) IsFrameOf
next_unread restore body (Ok (A.Next frame)) none read = none frame read.0 read.1
next_unread restore body reply none read = absurd read
