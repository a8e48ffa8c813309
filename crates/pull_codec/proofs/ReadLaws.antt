-- What is read of the response to a reply is that reply.
use Rattle.std.proofs.Common.{◌≡◌, ℕ, ◌==◌, ◌||◌, Bool, true, false, List, [], Option, Some, Ok, Err, refl, sym, ap, ◌∙◌}
use Rattle.std.proofs.lemmas.Bool.{true≢false}
use Rattle.attr_records.specs.declared.trees.PutRule.{PutRule}
use Rattle.attr_records.specs.declared.trees.PutRule.TheVariants as T
use Rattle.backup_rules.specs.declared.lines.Line.{Line}
use Rattle.receipts.specs.declared.session.SessionName.{SessionName}
use Rattle.tree_frames.specs.declared.nodes.Frame.{Frame}
use Rattle.restore_stream.specs.Layouts.{frame_bytes}
use Rattle.restore_stream.specs.OneFrame.{IsFrameInRange}
use Rattle.office_model.specs.declared.event.Event.{Event}
use Rattle.office_model.specs.declared.event.Event.TheVariants as E
use Rattle.office_model.specs.declared.answer.Answer.{Answer}
use Rattle.office_model.specs.declared.answer.Answer.TheVariants as A
use Rattle.office_model.specs.declared.refusal.BrokenRule.{BrokenRule}
use Rattle.office_model.specs.declared.refusal.BrokenRule.TheVariants as B
use Rattle.office_model.specs.declared.refusal.Refusal.{Refusal}
use Rattle.office_model.specs.declared.refusal.Refusal.TheVariants as R
use Rattle.office_model.specs.Meaning.{Reply}
use Rattle.office_model.specs.Step.{IsAnswerTo}
use Rattle.listing_back.specs.declared.listing.Listing.{Listing}
use Rattle.listing_back.specs.Listings.{listing_of, opened_of}
use Rattle.listing_back.proofs.BackLaws.{listings-back, opened-back}
use Rattle.http_replies.specs.Messages.{put_rule_status, rule_status, refusal_status, answer_message}
use Rattle.peer_talk.specs.Mirror.{no_memory}
use Rattle.peer_talk.specs.Sayings.{reply_said}
use Rattle.pull_codec.specs.Codec.{may, wanted, IsRead, Says, IsAnswer, InRange}
use Rattle.pull_codec.specs.Laws.{AnswersAreSaid}
use Rattle.pull_codec.proofs.FrameLaws.{frame-read}

same-some : {A : Type 0} (a b : A) → Some a ≡ Some b → a ≡ b
same-some a b e = cc

-- ---- statuses

pub is_answered : ℕ → Bool
is_answered status = status == 200 || (status == 201)

put-refused : (rule : PutRule) → is_answered (put_rule_status rule) ≡ false
unfolding is_answered
put-refused T.NoParent = refl
put-refused T.IsDirectory = refl
put-refused T.TooManyEntries = refl
put-refused T.FileTooLarge = refl

rule-refused : (rule : BrokenRule) → is_answered (rule_status rule) ≡ false
unfolding is_answered
rule-refused (B.Put rule) = put-refused rule
rule-refused rule = refl

pub status-refused : (refusal : Refusal) → is_answered (refusal_status refusal) ≡ false
unfolding is_answered
status-refused (R.Broken rule) = rule-refused rule
status-refused refusal = refl

pub memory-refused : is_answered 507 ≡ false
unfolding is_answered
memory-refused = refl

wanted-answered : (event : Event) → is_answered (wanted event) ≡ true
unfolding is_answered
wanted-answered (E.OpenRead host number base) = refl
wanted-answered event = refl

-- no response of such a status says anything
pub none-said : (event : Event) (status : ℕ) → is_answered status ≡ false → status ≡ wanted event → ⊥
none-said event status refused is = true≢false (sym (ap is_answered is ∙ wanted-answered event) ∙ refused)

-- ---- bodies

listed : Listing → Reply
listed listing = Ok (A.Backups listing.lines listing.next listing.dump)

listing-is : (host body : List ℕ) (read : Reply) (lines : List Line) (next : ℕ) (dump : Option SessionName)
    → listing_of body ≡ Some (record { lines = lines; next = next; dump = dump }) → IsRead (E.Backups host) body read
    → read ≡ Ok (A.Backups lines next dump)
unfolding listed
listing-is host body (Ok (A.Backups l n d)) lines next dump back says =
    ap listed (same-some (record { lines = l; next = n; dump = d }) (record { lines = lines; next = next; dump = dump }) (says ∙ back))
listing-is host body read lines next dump back says = absurd says

opened-is : (host : List ℕ) (number : ℕ) (base : Option ℕ) (body : List ℕ) (read : Reply) (name : SessionName)
    → opened_of body ≡ Some name → IsRead (E.OpenRead host number base) body read → read ≡ Ok (A.Restore name)
opened-is host number base body (Ok (A.Restore other)) name back says =
    ap (λ (n : SessionName). Ok (A.Restore n)) (same-some other name (says ∙ back))
opened-is host number base body read name back says = absurd says

next-is : (restore : SessionName) (read : Reply) (frame : Frame) → IsFrameInRange frame → IsRead (E.ReadNext restore) (frame_bytes frame) read
    → read ≡ Ok (A.Next frame)
next-is restore (Ok (A.Next other)) frame is says = ap (λ (f : Frame). Ok (A.Next f)) (sym (says.2 frame is refl))
next-is restore read frame is says = absurd says

closed-is : (restore : SessionName) (body : List ℕ) (read : Reply) → IsRead (E.CloseRead restore) body read → read ≡ Ok A.Done
closed-is restore body (Ok A.Done) says = refl
closed-is restore body read says = absurd says

-- ---- replies

answer-is : (event : Event) (answer : Answer) (read : Reply) → may event ≡ true → IsAnswerTo event answer → IsAnswer answer
    → IsRead event (answer_message event answer false false).body read → read ≡ Ok answer
answer-is (E.Backups host) (A.Backups lines next dump) read e kind is says =
    listing-is host (answer_message (E.Backups host) (A.Backups lines next dump) false false).body read lines next dump
    (listings-back lines next dump is.1 is.2 is.3) says
answer-is (E.Backups host) answer read e kind is says = absurd (cc kind)
answer-is (E.OpenRead host number base) (A.Restore name) read e kind is says =
    opened-is host number base (answer_message (E.OpenRead host number base) (A.Restore name) false false).body read name
    (opened-back (E.OpenRead host number base) name is) says
answer-is (E.OpenRead host number base) answer read e kind is says = absurd (cc kind)
answer-is (E.ReadNext restore) (A.Next frame) read e kind is says = next-is restore read frame is says
answer-is (E.ReadNext restore) answer read e kind is says = absurd (cc kind)
answer-is (E.CloseRead restore) A.Done read e kind is says = closed-is restore [] read says
answer-is (E.CloseRead restore) answer read e kind is says = absurd (cc kind)
answer-is event answer read e kind is says = absurd (true≢false (sym e))

pub reply-is : (event : Event) (said read : Reply) → may event ≡ true → InRange event said → Says event (reply_said event said) read → read ≡ said
reply-is event (Ok answer) read e range says = answer-is event answer read e range.0 range.1 says.1
reply-is event (Err (R.Broken rule)) read e range says = absurd (none-said event (rule_status rule) (status-refused (R.Broken rule)) says.0)
reply-is event (Err R.Halted) read e range says = absurd (none-said event 503 (status-refused R.Halted) says.0)
reply-is event (Err R.DiskFault) read e range says = absurd (none-said event 500 (status-refused R.DiskFault) says.0)
reply-is event (Err (R.Damaged file found)) read e range says = absurd (none-said event 502 (status-refused (R.Damaged file found)) says.0)
reply-is event (Err R.Memory) read e range says = absurd (none-said event 507 memory-refused says.0)

pub memory-silent : (event : Event) (reply : Reply) → Says event no_memory reply → ⊥
memory-silent event reply says = none-said event 507 memory-refused says.0

-- ---- each answer is said

pub answers-said : AnswersAreSaid
answers-said (E.Backups host) (A.Backups lines next dump) e range =
    let is = range.1 in (refl, sym (listings-back lines next dump is.1 is.2 is.3))
answers-said (E.Backups host) answer e range = absurd (cc range.0)
answers-said (E.OpenRead host number base) (A.Restore name) e range = (refl, sym (opened-back (E.OpenRead host number base) name range.1))
answers-said (E.OpenRead host number base) answer e range = absurd (cc range.0)
answers-said (E.ReadNext restore) (A.Next frame) e range = (refl, frame-read frame range.1)
answers-said (E.ReadNext restore) answer e range = absurd (cc range.0)
answers-said (E.CloseRead restore) A.Done e range = (refl, tt)
answers-said (E.CloseRead restore) answer e range = absurd (cc range.0)
answers-said event answer e range = absurd (true≢false (sym e))
