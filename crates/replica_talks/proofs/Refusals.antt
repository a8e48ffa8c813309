-- What a pull was refused, its server refused.
use Rattle.std.proofs.Common.{◌≡◌, ◌⊎◌, ℕ, true, List, [], ◌∷◌, ◌++◌, Option, Some, Ok, Err, refl, sym, ap, ◌∙◌, subst, inl, inr}
use Rattle.stream_traits.specs.Seen.{LinkSeen}
use Rattle.http_heads.specs.Responses.{HasResponse}
use Rattle.http_client.specs.Requests.{Ask}
use Rattle.http_client.specs.ResponseReads.{TakesResponse}
use Rattle.office_model.specs.declared.event.Event.{Event}
use Rattle.office_model.specs.declared.refusal.Refusal.{Refusal}
use Rattle.office_model.specs.declared.refusal.Refusal.TheVariants as R
use Rattle.office_model.specs.Meaning.{Reply}
use Rattle.office_model.specs.Step.{Call}
use Rattle.http_replies.specs.Messages.{refusal_status}
use Rattle.peer_exchange.specs.declared.fault.PeerFault.{PeerFault}
use Rattle.peer_exchange.specs.declared.fault.PeerFault.TheVariants as F
use Rattle.peer_exchange.specs.Several.{Exchange}
use Rattle.peer_exchange.specs.SeveralLaws.{TakesResponses-told}
use Rattle.peer_asks.specs.Asks.{most}
use Rattle.request_events.specs.declared.defaults.Defaults.{Defaults}
use Rattle.browse_http.specs.declared.end.End.{End}
use Rattle.browse_http.specs.Talk as T
use Rattle.peer_talk.specs.Mirror.{Response, no_memory, written_for, AreResponses, IsTalkBetween}
use Rattle.peer_talk.specs.Sayings.{reply_said}
use Rattle.peer_calls.specs.Calls.{Heard, requests_of, responses_of, AreServed}
use Rattle.pull_codec.specs.Codec.{may, request_of, at, wanted, Says, InRange}
use Rattle.pull_codec.specs.Relations.{AreHeard, AreInRange}
use Rattle.pull_codec.proofs.ReadLaws.{answers-said}
use Rattle.pull_work.specs.declared.ends.PullEnd.TheVariants.{PeerRefused}
use Rattle.pull_work.specs.Steps.{Step}
use Rattle.pull_work.specs.Script.{Asking}
use Rattle.pull_work.specs.Runs.{steps_of}
use Rattle.replicas.specs.Replicas.{heard_in, own_in}
use Rattle.replicas.specs.ListLaws.{heads}
use Rattle.replica_talks.specs.Faults.{faults_in, end_in}
use Rattle.replica_talks.specs.Peers.{IsRefusedThere}
use Rattle.replica_talks.specs.TalkLaws.{RefusalsAreSaid}
use Rattle.replica_talks.proofs.Rests.{Last, none, failed, IsRefused}
use Rattle.replica_talks.proofs.Outcomes.{IsNext, behind_is}
use Rattle.replica_talks.proofs.Served.{later_of, behind_heard, Heeds, heeds}

-- ---- one more response

-- a response that was taken stands at the front of what was left
pub taken_response : (ask : Ask) (left left' : Option (List ℕ)) (status : ℕ) (body rest : List ℕ) → TakesResponse most left left' status body
    → left ≡ Some rest → (after : List ℕ) × HasResponse rest status body after
taken_response ask left left' status body rest took is =
    let x : Exchange = record { ask = ask; status = status; body = body } in
    let t = TakesResponses-told most left left' (x ∷ []) (left', took, refl) rest is in (t.2.0, t.2.1)

pub responses_more : (answers : List Response) (a : Response) (input rest after : List ℕ) → AreResponses input answers rest
    → HasResponse rest a.status a.body after → AreResponses input (answers ++ a ∷ []) after
responses_more [] a input rest after are has =
    (after, subst (λ (t : List ℕ). HasResponse t a.status a.body after) (sym are) has, refl)
responses_more (b ∷ answers) a input rest after are has = (are.0, are.1, responses_more answers a are.0 rest after are.2 has)

-- ---- refusals

pub refused_status : (event : Event) (refusal : Refusal) → (reply_said event (Err refusal)).status ≡ refusal_status refusal
refused_status event R.Memory = refl
refused_status event refusal = refl

-- a response of another status than the wanted one says a refusal
says_refusal : (event : Event) (a : Response) (reply : Reply) → may event ≡ true → InRange event reply → ¬ (a.status ≡ wanted event)
    → a ≡ reply_said event reply → (refusal : Refusal) × (reply ≡ Err refusal) × (a.status ≡ refusal_status refusal)
says_refusal event a (Ok answer) fits range other is =
    absurd (other (ap (λ (r : Response). r.status) is ∙ (answers-said event answer fits range).0))
says_refusal event a (Err refusal) fits range other is =
    (refusal, refl, ap (λ (r : Response). r.status) is ∙ refused_status event refusal)

one_event : (a b : Event) (f g : PeerFault) (faults : List (Event × PeerFault)) → faults ≡ (a, f) ∷ [] → faults ≡ (b, g) ∷ []
    → (a ≡ b) × (f ≡ g)
one_event a b f g faults is also =
    let same : ◌≡◌ {A = Event × PeerFault} (a, f) (b, g) = (heads (a, f) (b, g) [] [] (sym is ∙ also)).0 in
    (ap (λ (x : Event × PeerFault). x.0) same, ap (λ (x : Event × PeerFault). x.1) same)

-- what came last of what was asked is a response that says this
pub next_said : (defaults : Defaults) (old mid new : LinkSeen) (heard : List Heard) (event : Event) (a : Response) (xs : List T.Exchange)
    (cut : List Call) (end : End) (input rest : List ℕ) → AreHeard may Says heard → may event ≡ true → T.AreExchanges defaults xs
    → AreInRange InRange xs → IsTalkBetween (written_for (requests_of request_of heard ++ request_of event ∷ [])) input xs cut end
    → AreServed at heard xs → AreResponses input (responses_of heard) rest → mid.left ≡ Some rest
    → TakesResponse most mid.left new.left a.status a.body → (a ≡ no_memory) ⊎ IsNext (behind_heard heard xs) event a
next_said defaults old mid new heard event a xs cut end input rest said fits are within between served parsed left took =
    let next = taken_response (request_of event) mid.left new.left a.status a.body rest took left in
    behind_is defaults heard event a xs cut end input next.0 said fits are within between served
    (responses_more (responses_of heard) a input rest next.0 parsed next.1)

pub within_behind : (heard : List Heard) (xs : List T.Exchange) → AreInRange InRange xs → AreInRange InRange (behind_heard heard xs)
within_behind [] xs within = within
within_behind (h ∷ hs) [] within = tt
within_behind (h ∷ hs) (x ∷ xs) within = within_behind hs xs within.1

module _ (host : List ℕ) (steps : List Step) (defaults : Defaults) (old mid new : LinkSeen) (heard : List Heard) (xs : List T.Exchange)
    (cut made : List Call) (end : End) (input rest : List ℕ) (said : AreHeard may Says heard) (are : T.AreExchanges defaults xs)
    (within : AreInRange InRange xs) (served : AreServed at heard xs) (parsed : AreResponses input (responses_of heard) rest)
    (left : mid.left ≡ Some rest) (calls : made ≡ heard_in host steps ++ (T.calls_of (behind_heard heard xs) ++ cut)) where
  refused_by_next : (event : Event) (a : Response) → may event ≡ true → faults_in host steps ≡ (event, F.Refused a.status) ∷ []
      → ¬ (a.status ≡ wanted event) → (a ≡ no_memory) ⊎ IsNext (behind_heard heard xs) event a
      → (a.status ≡ 507) ⊎ IsRefusedThere host steps made a.status
  refused_by_next event a fits only other (inl silent) = inl (ap (λ (r : Response). r.status) silent)
  refused_by_next event a fits only other (inr n) =
      let w = says_refusal event a n.reply fits (n.within (within_behind heard xs within)) other n.is in
      inr (record {
        event = event;
        refusal = w.0;
        more = n.more ++ cut;
        asked = only;
        calls_are = calls ∙ ap (λ (cs : List Call). heard_in host steps ++ (cs ++ cut)) n.calls
            ∙ ap (λ (r : Reply). heard_in host steps ++ ((event, r) ∷ (n.more ++ cut))) w.1;
        status_is = w.2;
      })

  refused_there : (faults : List (Event × PeerFault)) (last : Last mid new faults) (status : ℕ) → faults_in host steps ≡ faults
      → IsTalkBetween (written_for (requests_of request_of heard ++ later_of last)) input xs cut end → IsRefused host steps status
      → (status ≡ 507) ⊎ IsRefusedThere host steps made status
  refused_there faults (none fine same) status is between r =
      let no : ◌≡◌ {A = List (Event × PeerFault)} [] ((r.event, F.Refused status) ∷ []) = sym fine ∙ sym is ∙ r.only in absurd (cc)
  refused_there faults (failed event fault only known) status is between r =
      let same = one_event event r.event fault (F.Refused status) faults only (sym is ∙ r.only) in
      let x = known.refused status same.1 in
      let a : Response = record { status = status; body = x.body } in
      refused_by_next event a known.fits (is ∙ only ∙ ap (λ (f : PeerFault). (event, f) ∷ []) same.1) x.other
      (next_said defaults old mid new heard event a xs cut end input rest said known.fits are within between served parsed left x.answers.took)

pub refusals_said : RefusalsAreSaid
refusals_said plan first names turns phase old new input wrote talks status ends =
    let peer = talks.peer in
    let h = heeds plan first names turns phase old new input wrote talks in
    by h (h.asked.refused_by status ends)
  where
    by : (h : Heeds plan first names turns phase old new input wrote talks)
        → (end_in Asking ≡ Some (PeerRefused status)) ⊎ IsRefused plan.host (steps_of turns) status
        → (status ≡ 507) ⊎ IsRefusedThere plan.host (steps_of turns) (own_in talks.peer.marked) status
    by h (inl ended) = absurd (cc)
    by h (inr r) =
        let peer = talks.peer in
        refused_there plan.host (steps_of turns) peer.defaults old h.asked.mid new h.asked.heard peer.exchanges peer.cut
        (own_in peer.marked) peer.end input h.read.rest h.asked.has.said peer.are peer.in_range h.served h.read.responses h.read.left h.calls
        (faults_in plan.host (steps_of turns)) h.asked.last status refl h.between r
