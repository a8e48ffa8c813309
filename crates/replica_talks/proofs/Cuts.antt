-- A foreign answer of a server of this program didn't come whole.
use Rattle.std.proofs.Common.{◌≡◌, ◌⊎◌, ℕ, zero, suc, true, List, [], ◌∷◌, ◌++◌, length, map, Some, Ok, Err, refl, sym, ap, ◌∙◌, subst, inl, inr, arith}
use Rattle.std.specs.List.{Contains}
use Rattle.stream_traits.specs.Seen.{LinkSeen}
use Rattle.http_heads.specs.Responses.{IsEnded, IsTruncated, IsResponseRead}
use Rattle.office_model.specs.declared.event.Event.{Event}
use Rattle.office_model.specs.Meaning.{Reply}
use Rattle.office_model.specs.Step.{Call}
use Rattle.http_replies.specs.Messages.{refusal_status}
use Rattle.peer_exchange.specs.declared.fault.PeerFault.{PeerFault}
use Rattle.peer_exchange.specs.declared.fault.PeerFault.TheVariants as F
use Rattle.peer_exchange.specs.Exchanges.{GivesNone, foreign, ended, cut}
use Rattle.peer_asks.specs.Asks.{most}
use Rattle.request_events.specs.declared.defaults.Defaults.{Defaults}
use Rattle.browse_http.specs.declared.end.End.{End}
use Rattle.browse_http.specs.Talk as T
use Rattle.peer_talk.specs.Mirror.{Response, no_memory, written_for, AreResponses, IsTalkBetween}
use Rattle.peer_talk.specs.Sayings.{reply_said}
use Rattle.peer_calls.specs.Calls.{Heard, requests_of, responses_of, AreServed}
use Rattle.pull_codec.specs.Codec.{may, request_of, at, wanted, IsRead, Says, InRange}
use Rattle.pull_codec.specs.Relations.{AreHeard, AreInRange}
use Rattle.pull_codec.proofs.ReadLaws.{none-said, status-refused, memory-refused, answers-said}
use Rattle.pull_work.specs.Steps.{Step}
use Rattle.pull_work.specs.Runs.{steps_of}
use Rattle.replicas.specs.Replicas.{heard_in}
use Rattle.replicas.specs.ListLaws.{map_long}
use Rattle.replica_talks.specs.Faults.{faults_in}
use Rattle.replica_talks.specs.Peers.{EndsEarly}
use Rattle.replica_talks.specs.TalkLaws.{ForeignIsCut}
use Rattle.replica_talks.proofs.Failures.{SaysNone}
use Rattle.replica_talks.proofs.Turns.{call_of}
use Rattle.replica_talks.proofs.Rests.{Last, none, failed}
use Rattle.replica_talks.proofs.Outcomes.{IsNext}
use Rattle.replica_talks.proofs.Fronts.{talk_may}
use Rattle.replica_talks.proofs.Refusals.{refused_status, next_said, within_behind}
use Rattle.replica_talks.proofs.Served.{later_of, behind_heard, heeds}

only_one : (x y : Event × PeerFault) → Contains (x ∷ []) y → x ≡ y
only_one x y (zero, fits, is) = is
only_one x y (suc k, fits, is) = let no : ⊥ = omega (arith, fits) in absurd no

no_one : (y : Event × PeerFault) → Contains [] y → ⊥
no_one y (k, fits, is) = omega (arith, fits)

-- a response of the wanted status says a reply
says_reply : (event : Event) (a : Response) (reply : Reply) → may event ≡ true → InRange event reply → a.status ≡ wanted event
    → a ≡ reply_said event reply → IsRead event a.body reply
says_reply event a (Ok answer) fits range status is =
    subst (λ (r : Response). IsRead event r.body (Ok answer)) (sym is) (answers-said event answer fits range).1
says_reply event a (Err refusal) fits range status is =
    absurd (none-said event (refusal_status refusal) (status-refused refusal)
    (sym (ap (λ (r : Response). r.status) is ∙ refused_status event refusal) ∙ status))

module _ (host : List ℕ) (steps : List Step) (defaults : Defaults) (old mid new : LinkSeen) (heard : List Heard) (xs : List T.Exchange)
    (made : List Call) (end : End) (input rest : List ℕ) (said : AreHeard may Says heard) (are : T.AreExchanges defaults xs)
    (within : AreInRange InRange xs) (served : AreServed at heard xs) (parsed : AreResponses input (responses_of heard) rest)
    (left : mid.left ≡ Some rest) (calls : map call_of heard ≡ heard_in host steps) where
  ends_early : IsResponseRead rest IsEnded ⊎ IsResponseRead rest IsTruncated → EndsEarly host steps input
  ends_early ends = record {
    answers = responses_of heard;
    each = map_long (λ (h : Heard). h.response) heard ∙ sym (map_long call_of heard) ∙ ap (λ (cs : List Call). length cs) calls;
    rest = rest;
    responses = parsed;
    ends = ends;
  }

  -- a whole response says a reply
  always_said : (event : Event) → may event ≡ true
      → IsTalkBetween (written_for (requests_of request_of heard ++ request_of event ∷ [])) input xs made end → SaysNone event mid new → ⊥
  always_said event fits between s = by (next_said defaults old mid new heard event a xs made end input rest said fits are within between
      served parsed left s.answers.took)
    where
      a : Response
      a = record { status = wanted event; body = s.body }

      by : (a ≡ no_memory) ⊎ IsNext (behind_heard heard xs) event a → ⊥
      by (inl silent) = none-said event 507 memory-refused (sym (ap (λ (r : Response). r.status) silent))
      by (inr n) =
          s.none n.reply (says_reply event a n.reply fits (n.within (within_behind heard xs within)) refl n.is)

  cut_short : (event : Event) → may event ≡ true
      → IsTalkBetween (written_for (requests_of request_of heard ++ request_of event ∷ [])) input xs made end
      → GivesNone mid new (request_of event) most ⊎ SaysNone event mid new → EndsEarly host steps input
  cut_short event fits between (inl (foreign sends reads)) =
      absurd (talk_may defaults heard event xs made end input rest said fits are within between served parsed (reads.told rest left))
  cut_short event fits between (inl (ended sends reads)) = ends_early (inl (reads.told rest left))
  cut_short event fits between (inl (cut sends reads)) = ends_early (inr (reads.told rest left))
  cut_short event fits between (inr s) = absurd (always_said event fits between s)

  foreign_cut : (faults : List (Event × PeerFault)) (last : Last mid new faults) (event : Event)
      → IsTalkBetween (written_for (requests_of request_of heard ++ later_of last)) input xs made end → Contains faults (event, F.Foreign)
      → EndsEarly host steps input
  foreign_cut faults (none fine same) event between among =
      absurd (no_one (event, F.Foreign) (subst (λ (f : List (Event × PeerFault)). Contains f (event, F.Foreign)) fine among))
  foreign_cut faults (failed asked fault only known) event between among =
      let same = only_one (asked, fault) (event, F.Foreign)
      (subst (λ (f : List (Event × PeerFault)). Contains f (event, F.Foreign)) only among) in
      cut_short asked known.fits between (known.foreign (ap (λ (x : Event × PeerFault). x.1) same))

pub foreign_is_cut : ForeignIsCut
foreign_is_cut plan first names turns phase old new input wrote talks event among =
    let peer = talks.peer in
    let h = heeds plan first names turns phase old new input wrote talks in
    foreign_cut plan.host (steps_of turns) peer.defaults old h.asked.mid new h.asked.heard peer.exchanges peer.cut peer.end input h.read.rest
    h.asked.has.said peer.are peer.in_range h.served h.read.responses h.read.left h.asked.calls_are
    (faults_in plan.host (steps_of turns)) h.asked.last event h.between among
