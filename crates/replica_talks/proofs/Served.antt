-- What a pull heard over its link, as calls of its server's talk.
use Rattle.std.proofs.Common.{◌≡◌, ℕ, List, [], ◌∷◌, ◌++◌, map, take, drop, Option, Some, refl, sym, ap, ◌∙◌, subst, append_assoc, append-nil}
use Rattle.std.proofs.lemmas.List.{append_cancel_left, take-append-drop}
use Rattle.std.proofs.lemmas.Grind.{flat_map-append}
use Rattle.stream_traits.specs.Seen.{LinkSeen}
use Rattle.stream_traits.specs.Told.{behind, WroteFront}
use Rattle.stream_traits.specs.ToldLaws.{WroteFront-none}
use Rattle.http_client.specs.Requests.{Ask, request_bytes}
use Rattle.office_model.specs.declared.event.Event.{Event}
use Rattle.office_model.specs.Office.{Office, Names}
use Rattle.office_model.specs.Step.{Call}
use Rattle.peer_exchange.specs.declared.fault.PeerFault.{PeerFault}
use Rattle.browse_http.specs.declared.end.End.{End}
use Rattle.browse_http.specs.Talk as T
use Rattle.peer_talk.specs.Mirror.{AreRequests, written_for, IsTalkBetween}
use Rattle.peer_calls.specs.Calls.{Heard, requests_of, AreServed}
use Rattle.pull_codec.specs.Codec.{request_of, at}
use Rattle.pull_codec.specs.CallLaws.{HasRead}
use Rattle.pull_codec.proofs.CallLaws.{runs-read, runs-served}
use Rattle.pull_codec.proofs.EventLaws.{requests-are}
use Rattle.pull_work.specs.declared.plan.Plan.{Plan}
use Rattle.pull_work.specs.Script.{Phase, Asking}
use Rattle.pull_work.specs.Runs.{Taken, steps_of}
use Rattle.replicas.specs.Replicas.{heard_in, own_in}
use Rattle.replica_talks.specs.Peers.{Talks}
use Rattle.replica_talks.specs.TalkLaws.{TalksAreHeard}
use Rattle.replica_talks.proofs.Marks.{kept, kept_all, kept_own, kept_alone, kept_first}
use Rattle.replica_talks.proofs.Turns.{call_of}
use Rattle.replica_talks.proofs.Rests.{Last, none, failed, Asked, asks}

-- ---- the request that failed

abbrev pub later_of : {old new : LinkSeen} {faults : List (Event × PeerFault)} → Last old new faults → List Ask
later_of (none fine same) = []
later_of (failed event fault are known) = request_of event ∷ []

pub later_plain : (old new : LinkSeen) (faults : List (Event × PeerFault)) (last : Last old new faults) → AreRequests (later_of last)
later_plain old new faults (none fine same) = tt
later_plain old new faults (failed event fault are known) = (requests-are event known.fits, tt)

later_wrote : (old new : LinkSeen) (faults : List (Event × PeerFault)) (last : Last old new faults)
    → WroteFront old.written new.written (written_for (later_of last))
later_wrote old new faults (none fine same) =
    subst (λ (seen : LinkSeen). WroteFront old.written seen.written []) (sym same) (WroteFront-none old.written [])
later_wrote old new faults (failed event fault are known) =
    subst (λ (bytes : List ℕ). WroteFront old.written new.written bytes) (sym (append-nil (request_bytes (request_of event)))) known.breaks.wrote

-- ---- what was written

same_some : (a b : List ℕ) → Some a ≡ Some b → a ≡ b
same_some a b e = cc (e)

-- requests, and then a front of more
wrote_front : (before wrote heard later : List ℕ) (mid new : Option (List ℕ)) → new ≡ Some (before ++ wrote) → mid ≡ behind (Some before) heard
    → (front : WroteFront mid new later) → wrote ≡ heard ++ take front.count later
wrote_front before wrote heard later mid new all here front =
    let told : new ≡ behind (Some (before ++ heard)) (take front.count later) =
    front.wrote ∙ ap (λ (m : Option (List ℕ)). behind m (take front.count later)) here in
    let bytes : before ++ wrote ≡ (before ++ heard) ++ take front.count later = same_some _ _ (sym all ∙ told) in
    append_cancel_left before wrote (heard ++ take front.count later) (bytes ∙ append_assoc before heard (take front.count later))

-- so the talk is one of whole requests
whole_talk : (wrote read heard later all : List ℕ) (count : ℕ) (exchanges : List T.Exchange) (cut : List Call) (end : End)
    → wrote ≡ heard ++ take count later → all ≡ heard ++ later → IsTalkBetween wrote read exchanges cut end
    → IsTalkBetween all read exchanges cut end
whole_talk wrote read heard later all count exchanges cut end front are t = record {
  input = t.input;
  unread = t.unread ++ drop count later;
  reached = are ∙ ap (λ (bytes : List ℕ). heard ++ bytes) (sym (take-append-drop count later))
      ∙ sym (append_assoc heard (take count later) (drop count later)) ∙ ap (λ (bytes : List ℕ). bytes ++ drop count later) (sym front ∙ t.reached)
      ∙ append_assoc t.input t.unread (drop count later);
  output = t.output;
  unseen = t.unseen;
  came = t.came;
  talk = t.talk;
}

-- ---- calls that were heard are the server's

-- the exchanges behind those
abbrev pub behind_heard : List Heard → List T.Exchange → List T.Exchange
behind_heard [] xs = xs
behind_heard (h ∷ hs) [] = []
behind_heard (h ∷ hs) (x ∷ xs) = behind_heard hs xs

served_calls : (heard : List Heard) (xs : List T.Exchange) → AreServed at heard xs
    → T.calls_of xs ≡ map call_of heard ++ T.calls_of (behind_heard heard xs)
served_calls [] xs served = refl
served_calls (h ∷ hs) [] served = absurd served
served_calls (h ∷ hs) (x ∷ xs) served = λ i. served.0 i ++ served_calls hs xs served.1 i

-- the turns of a pull, with what is known of its server
pub record Heeds (plan : Plan) (first : Office) (names : Names) (turns : List Taken) (phase : Phase) (old new : LinkSeen)
    (input wrote : List ℕ) (talks : Talks plan first names turns phase old new input wrote) : Type 0 where
  pub asked : Asked plan.host Asking old new (steps_of turns) phase
  pub read : HasRead old asked.mid asked.heard input
  pub between : IsTalkBetween (written_for (requests_of request_of asked.heard ++ later_of asked.last)) input talks.peer.exchanges
      talks.peer.cut talks.peer.end
  pub served : AreServed at asked.heard talks.peer.exchanges
  pub calls : own_in talks.peer.marked
      ≡ heard_in plan.host (steps_of turns) ++ (T.calls_of (behind_heard asked.heard talks.peer.exchanges) ++ talks.peer.cut)

pub heeds : (plan : Plan) (first : Office) (names : Names) (turns : List Taken) (phase : Phase) (old new : LinkSeen) (input wrote : List ℕ)
    (talks : Talks plan first names turns phase old new input wrote) → Heeds plan first names turns phase old new input wrote talks
heeds plan first names turns phase old new input wrote talks =
    let peer = talks.peer in
    let asked : Asked plan.host Asking old new (steps_of turns) phase =
    asks plan talks.named turns Asking old new phase tt talks.are talks.told in
    let read = runs-read old asked.mid asked.heard input asked.has talks.left in
    let later = later_of asked.last in
    let plain = later_plain asked.mid new _ asked.last in
    let front = later_wrote asked.mid new _ asked.last in
    let requests = written_for (requests_of request_of asked.heard) in
    let bytes = wrote_front talks.before wrote requests (written_for later) asked.mid.written new.written talks.wrote_is
    (read.wrote ∙ ap (λ (w : Option (List ℕ)). behind w requests) talks.written) front in
    let between = whole_talk wrote input requests (written_for later)
    (written_for (requests_of request_of asked.heard ++ later)) front.count peer.exchanges peer.cut peer.end bytes
    (flat_map-append request_bytes (requests_of request_of asked.heard) later) peer.talk in
    let served = runs-served peer.defaults old asked.mid asked.heard later peer.exchanges peer.cut peer.end input asked.has talks.left plain
    peer.are peer.in_range between in
    let more = T.calls_of (behind_heard asked.heard peer.exchanges) in
    record {
      asked = asked;
      read = read;
      between = between;
      served = served;
      calls = peer.own ∙ ap (λ (cs : List Call). cs ++ peer.cut) (served_calls asked.heard peer.exchanges served)
          ∙ ap (λ (cs : List Call). (cs ++ more) ++ peer.cut) asked.calls_are
          ∙ append_assoc (heard_in plan.host (steps_of turns)) more peer.cut;
    }

pub talks_heard : TalksAreHeard
talks_heard plan first names turns phase old new input wrote talks =
    let peer = talks.peer in
    let h = heeds plan first names turns phase old new input wrote talks in
    let heard = heard_in plan.host (steps_of turns) in
    let more = T.calls_of (behind_heard h.asked.heard peer.exchanges) ++ peer.cut in
    record {
      sound = peer.sound;
      faults = peer.faults;
      entries = peer.entries;
      legal = peer.legal;
      marked = kept heard peer.marked;
      calls = kept_all heard peer.marked ∙ peer.calls;
      own = kept_own heard more peer.marked h.calls;
      alone = kept_alone heard more peer.marked h.calls peer.alone;
      begins = λ call others e. kept_first heard peer.marked call others e
          (peer.begins call (others ++ more) (h.calls ∙ ap (λ (cs : List Call). cs ++ more) e));
    }
