-- An answer that a response says is of its event's kind.
use Rattle.std.proofs.Common.{◌≡◌, ℕ, ◌==◌, ◌||◌, Bool, true, false, if◌then◌else◌, List, Option, Some, None, Result, Ok, Err, option_map, IfOk, IfSome, refl, sym, subst}
use Rattle.receipts.specs.declared.session.SessionName.{SessionName}
use Rattle.office_model.specs.declared.event.Event.{Event}
use Rattle.office_model.specs.declared.event.Event.TheVariants as E
use Rattle.office_model.specs.declared.answer.Answer.{Answer}
use Rattle.office_model.specs.declared.answer.Answer.TheVariants as A
use Rattle.office_model.specs.declared.refusal.Refusal.{Refusal}
use Rattle.office_model.specs.Meaning.{Reply}
use Rattle.office_model.specs.Step.{IsAnswerTo}
use Rattle.listing_back.specs.declared.listing.Listing.{Listing}
use Rattle.listing_back.specs.Listings.{listing_of}
use Rattle.office_model.specs.declared.answer.NamedNode.{NamedNode}
use Rattle.entries_back.specs.Entries.{entries_of}
use Rattle.push_replies.specs.Refusals.{refusal_of}
use Rattle.push_replies.specs.Replies.{dump_of, number_of_body, answer_of, reply_in}

opened-kind : (event : Event) → IsAnswerTo event (A.Dump (record { epoch = 0; sequence = 0 })) → (made : Bool) (dump : Option SessionName) (number : Option ℕ)
    → IfSome (if made then option_map (λ d. A.Dump d) dump else option_map (λ n. A.Already n) number) (IsAnswerTo event)
opened-kind event is true (Some dump) number = is
opened-kind event is true None number = tt
opened-kind event is false dump (Some number) = is
opened-kind event is false dump None = tt

done-kind : (event : Event) → IsAnswerTo event A.Done → (done : Bool) → IfSome (if done then Some A.Done else None) (IsAnswerTo event)
done-kind event is true = is
done-kind event is false = tt

committed-kind : (event : Event) → IsAnswerTo event (A.Committed 0) → (made : Bool) (number : Option ℕ)
    → IfSome (if made then option_map (λ n. A.Committed n) number else None) (IsAnswerTo event)
committed-kind event is true (Some number) = is
committed-kind event is true None = tt
committed-kind event is false number = tt

backups-kind : (host : List ℕ) (found : Bool) (listing : Option Listing)
    → IfSome (if found then option_map (λ l. A.Backups l.lines l.next l.dump) listing else None) (IsAnswerTo (E.Backups host))
backups-kind host true (Some listing) = refl
backups-kind host true None = tt
backups-kind host false listing = tt

entries-kind : (host : List ℕ) (number : ℕ) (directory : Option (List ℕ)) (found : Bool) (entries : Option (List NamedNode))
    → IfSome (if found then option_map (λ es. A.Entries es) entries else None) (IsAnswerTo (E.List host number directory))
entries-kind host number directory true (Some entries) = refl
entries-kind host number directory true None = tt
entries-kind host number directory false entries = tt

answer-kind : (event : Event) (status : ℕ) (body : List ℕ) → IfSome (answer_of event status body) (IsAnswerTo event)
answer-kind (E.OpenDump host kind now token) status body = opened-kind (E.OpenDump host kind now token) refl (status == 201) (dump_of body) (number_of_body body)
answer-kind (E.Put dump path item token) status body = done-kind (E.Put dump path item token) refl (status == 200)
answer-kind (E.Remove dump path token) status body = done-kind (E.Remove dump path token) refl (status == 200)
answer-kind (E.Abort dump) status body = done-kind (E.Abort dump) refl (status == 200)
answer-kind (E.Commit dump now) status body = committed-kind (E.Commit dump now) refl (status == 201) (number_of_body body)
answer-kind (E.Backups host) status body = backups-kind host (status == 200) (listing_of body)
answer-kind (E.List host number directory) status body = entries-kind host number directory (status == 200) (entries_of body)
answer-kind event status body = tt

step : (event : Event) (made none : Bool) (answer : Option Answer) (refusal : Option Refusal) → IfSome answer (IsAnswerTo event)
    → IfSome (if made then option_map (λ (a : Answer). Ok a) answer else (if none then None else option_map (λ (r : Refusal). Err r) refusal)) (λ (reply : Reply). IfOk reply (IsAnswerTo event))
step event true none (Some answer) refusal h = h
step event true none None refusal h = tt
step event false true answer refusal h = tt
step event false false answer (Some refusal) h = tt
step event false false answer None h = tt

reply-kind : (event : Event) (status : ℕ) (body : List ℕ) → IfSome (reply_in event status body) (λ (reply : Reply). IfOk reply (IsAnswerTo event))
reply-kind event status body =
    step event ((status == 200) || (status == 201)) ((status == 502) || (status == 507)) (answer_of event status body) (refusal_of body) (answer-kind event status body)

-- what was read is of the event's kind
pub read-kind : {X : Type 0} (event : Event) (status : ℕ) (body : List ℕ) (result : Result (Option Reply) X)
    → IfOk result (λ (found : Option Reply). found ≡ reply_in event status body)
    → IfOk result (λ (found : Option Reply). IfSome found (λ (reply : Reply). IfOk reply (IsAnswerTo event)))
read-kind event status body (Ok found) e = subst (λ (f : Option Reply). IfSome f (λ (reply : Reply). IfOk reply (IsAnswerTo event))) (sym e) (reply-kind event status body)
read-kind event status body (Err fault) e = tt
