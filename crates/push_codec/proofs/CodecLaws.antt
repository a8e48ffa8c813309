-- What is read of the response to a reply is that reply.
use Rattle.std.proofs.Common.{◌≡◌, ℕ, ◌<◌, ◌≤◌, ◌^◌, true, false, List, [], ◌∷◌, ◌++◌, length, Option, Some, None, Ok, Err, refl, sym, ◌∙◌, arith, codes, decimal, length-append}
use Rattle.std.proofs.lemmas.Bool.{true≢false}
use Rattle.receipts.specs.declared.session.SessionName.{SessionName}
use Rattle.receipts.specs.Session.{session_text}
use Rattle.office_model.specs.declared.event.Event.{Event}
use Rattle.office_model.specs.declared.event.Event.TheVariants as E
use Rattle.office_model.specs.declared.answer.Answer.{Answer}
use Rattle.office_model.specs.declared.answer.Answer.TheVariants as A
use Rattle.office_model.specs.declared.refusal.Refusal.{Refusal}
use Rattle.office_model.specs.declared.refusal.Refusal.TheVariants as R
use Rattle.office_model.specs.Meaning.{Reply}
use Rattle.office_model.specs.Step.{IsAnswerTo}
use Rattle.call_scripts.specs.Scripts.{one_call}
use Rattle.browse_http.specs.Scripts.{event_script}
use Rattle.http_replies.specs.Messages.{answer_message}
use Rattle.peer_talk.specs.Mirror.{no_memory}
use Rattle.peer_talk.specs.Sayings.{reply_said}
use Rattle.reply_bodies.specs.Laws.{IsSession}
use Rattle.reply_bodies.specs.Objects.{Text, Count, object_text, text_field, number_field}
use Rattle.pull_codec.specs.Codec.{IsRefusal}
use Rattle.pull_codec.proofs.FitLaws.{reply-fits}
use Rattle.pull_codec.proofs.TextLengths.{wide-few, session-few, listing-few}
use Rattle.push_replies.specs.Replies.{reply_in}
use Rattle.push_replies.specs.Laws.{IsAsked, IsAnswer, IsNamed}
use Rattle.push_replies.proofs.BackLaws.{answers-back, refusals-back}
use Rattle.push_codec.specs.Codec.{may, is_one, may_one, at, Says, IsFew, InRange}
use Rattle.push_codec.specs.Laws.{PushesAreCoded, RepliesAreSaid}
use Rattle.push_codec.proofs.EventLaws.{one-read}
use Rattle.push_codec.proofs.RangeLemmas.{both}

-- ---- events

asked-in : (event : Event) → may event ≡ true → IsAsked event
asked-in (E.OpenDump host kind now token) e = tt
asked-in (E.Put dump path item token) e = tt
asked-in (E.Remove dump path token) e = tt
asked-in (E.Abort dump) e = tt
asked-in (E.Commit dump now) e = tt
asked-in (E.Backups host) e = tt
asked-in (E.List host number directory) e = tt
asked-in event e = absurd (true≢false (sym e))

asked-at : (event : Event) (moment : ℕ) → IsAsked event → IsAsked (at moment event)
asked-at (E.OpenDump host kind now token) moment h = h
asked-at (E.Commit dump now) moment h = h
asked-at event moment h = h

same-at : (event : Event) (moment status : ℕ) (body : List ℕ) → reply_in event status body ≡ reply_in (at moment event) status body
same-at (E.OpenDump host kind now token) moment status body = refl
same-at (E.Commit dump now) moment status body = refl
same-at event moment status body = refl

one-script : (event : Event) (moment : ℕ) (failed : Option ℕ) → may event ≡ true → event_script (at moment event) failed ≡ one_call (at moment event)
one-script (E.OpenFile host number path) moment failed e = absurd (true≢false (sym e))
one-script (E.OpenDump host kind now token) moment failed e = refl
one-script (E.Commit dump now) moment failed e = refl
one-script event moment failed e = refl

-- ---- replies

same-reply : (x y : Reply) → Some x ≡ Some y → x ≡ y
same-reply x y e = cc e

none-said : (x : Reply) → None ≡ Some x → ⊥
none-said x e = cc e

refusal-is : (event : Event) (moment : ℕ) (refusal : Refusal) (read : Reply) → IsNamed refusal
    → Says event (reply_said (at moment event) (Err refusal)) read → read ≡ Err refusal
refusal-is event moment (R.Broken rule) read named says = same-reply read (Err (R.Broken rule)) (sym says ∙ refusals-back event (R.Broken rule) named)
refusal-is event moment R.Halted read named says = same-reply read (Err R.Halted) (sym says ∙ refusals-back event R.Halted named)
refusal-is event moment R.DiskFault read named says = same-reply read (Err R.DiskFault) (sym says ∙ refusals-back event R.DiskFault named)
refusal-is event moment (R.Damaged file found) read named says = absurd named
refusal-is event moment R.Memory read named says = absurd named

reply-is : (event : Event) (moment : ℕ) (said read : Reply) → may event ≡ true → InRange (at moment event) said
    → Says event (reply_said (at moment event) said) read → read ≡ said
reply-is event moment (Ok answer) read e range says =
    let m = answer_message (at moment event) answer false false in
    same-reply read (Ok answer)
    (sym says ∙ same-at event moment m.status m.body ∙ answers-back (at moment event) answer (asked-at event moment (asked-in event e)) range.0 range.1)
reply-is event moment (Err (R.Broken rule)) read e range says = refusal-is event moment (R.Broken rule) read tt says
reply-is event moment (Err R.Halted) read e range says = refusal-is event moment R.Halted read tt says
reply-is event moment (Err R.DiskFault) read e range says = refusal-is event moment R.DiskFault read tt says
reply-is event moment (Err (R.Damaged file found)) read e range says = absurd (none-said read says)
reply-is event moment (Err R.Memory) read e range says = absurd (none-said read says)

memory-silent : (event : Event) (reply : Reply) → Says event no_memory reply → ⊥
memory-silent event reply says = none-said reply says

-- ---- lengths of bodies

dump-few : (name : SessionName) → IsSession name → length (object_text ((codes "dump", Text (session_text name)) ∷ [])) ≤ 60
unfolding object_text text_field
dump-few name fits = omega (
  arith,
  session-few name fits,
  length-append (session_text name ++ 34 ∷ []) (125 ∷ []),
  length-append (session_text name) (34 ∷ []),
)

number-few : (number : ℕ) → number < 2 ^ 32 → length (object_text ((codes "number", Count number) ∷ [])) ≤ 60
unfolding object_text number_field
number-few number small = omega (arith, wide-few number (omega (arith, small)), length-append (decimal number) (125 ∷ []))

done-few : length (object_text []) ≤ 2
unfolding object_text
done-few = omega arith

answer-fits : (event : Event) (answer : Answer) → IsAsked event → IsAnswerTo event answer → IsAnswer answer → IsFew answer
    → length (answer_message event answer false false).body < 2 ^ 64
answer-fits (E.OpenDump host kind now token) (A.Dump name) asked kind-is is few = omega (arith, dump-few name is)
answer-fits (E.OpenDump host kind now token) (A.Already number) asked kind-is is few = omega (arith, number-few number is)
answer-fits (E.OpenDump host kind now token) answer asked kind-is is few = absurd (cc kind-is)
answer-fits (E.Put dump path item token) A.Done asked kind-is is few = omega (arith, done-few)
answer-fits (E.Put dump path item token) answer asked kind-is is few = absurd (cc kind-is)
answer-fits (E.Remove dump path token) A.Done asked kind-is is few = omega (arith, done-few)
answer-fits (E.Remove dump path token) answer asked kind-is is few = absurd (cc kind-is)
answer-fits (E.Abort dump) A.Done asked kind-is is few = omega (arith, done-few)
answer-fits (E.Abort dump) answer asked kind-is is few = absurd (cc kind-is)
answer-fits (E.Commit dump now) (A.Committed number) asked kind-is is few = omega (arith, number-few number is)
answer-fits (E.Commit dump now) answer asked kind-is is few = absurd (cc kind-is)
answer-fits (E.Backups host) (A.Backups lines next dump) asked kind-is is few = omega (arith, few, listing-few lines next dump is.0 is.1 is.2)
answer-fits (E.Backups host) answer asked kind-is is few = absurd (cc kind-is)
answer-fits (E.List host number directory) (A.Entries entries) asked kind-is is few = few
answer-fits (E.List host number directory) answer asked kind-is is few = absurd (cc kind-is)
answer-fits event answer asked kind-is is few = absurd asked

-- a restore's end, whose refusals have the bodies that those of all events have
ending : Event
ending = E.CloseRead (record { epoch = 0; sequence = 0 })

refusal-fits : (event : Event) (refusal : Refusal) → IsRefusal refusal → length (reply_said event (Err refusal)).body < 2 ^ 64
unfolding ending
refusal-fits event (R.Broken rule) is = reply-fits ending (Err (R.Broken rule)) refl is
refusal-fits event R.Halted is = reply-fits ending (Err R.Halted) refl is
refusal-fits event R.DiskFault is = reply-fits ending (Err R.DiskFault) refl is
refusal-fits event (R.Damaged file found) is = reply-fits ending (Err (R.Damaged file found)) refl is
refusal-fits event R.Memory is = reply-fits ending (Err R.Memory) refl is

reply-few : (event : Event) (moment : ℕ) (reply : Reply) → may event ≡ true → InRange (at moment event) reply
    → length (reply_said (at moment event) reply).body < 2 ^ 64
reply-few event moment (Ok answer) e range =
    answer-fits (at moment event) answer (asked-at event moment (asked-in event e)) range.0 range.1 range.2
reply-few event moment (Err refusal) e range = refusal-fits (at moment event) refusal range

-- ---- the laws

may-in : (event : Event) → may_one event ≡ true → may event ≡ true
may-in event e = (both (may event) (is_one event) e).0

pub pushes-coded : PushesAreCoded
pushes-coded defaults = record {
  asks = one-read defaults;
  single = λ event moment failed e. one-script event moment failed (may-in event e);
  fits = λ event moment reply e range. reply-few event moment reply (may-in event e) range;
  reads = λ event moment said read e range says. reply-is event moment said read (may-in event e) range says;
  silent = memory-silent;
}

refusal-said : (event : Event) (refusal : Refusal) → IsNamed refusal → Says event (reply_said event (Err refusal)) (Err refusal)
refusal-said event (R.Broken rule) named = refusals-back event (R.Broken rule) named
refusal-said event R.Halted named = refusals-back event R.Halted named
refusal-said event R.DiskFault named = refusals-back event R.DiskFault named
refusal-said event (R.Damaged file found) named = absurd named
refusal-said event R.Memory named = absurd named

pub replies-said : RepliesAreSaid
replies-said = record {
  answers = λ event answer e range. answers-back event answer (asked-in event e) range.0 range.1;
  refusals = refusal-said;
}
