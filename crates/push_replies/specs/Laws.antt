-- What is read of the response to a reply is that reply.
--     RepliesReadBack      the law
use Rattle.std.specs.Prelude.{◌≡◌, ℕ, ◌<◌, ◌≤◌, ◌^◌, List, Some, Ok, Err, false}
use Rattle.std.specs.List.{AllByRecursion}
use Rattle.office_model.specs.declared.event.Event.{Event}
use Rattle.office_model.specs.declared.event.Event.TheVariants as E
use Rattle.office_model.specs.declared.answer.Answer.{Answer}
use Rattle.office_model.specs.declared.answer.Answer.TheVariants as A
use Rattle.office_model.specs.declared.refusal.Refusal.{Refusal}
use Rattle.office_model.specs.declared.refusal.Refusal.TheVariants as R
use Rattle.office_model.specs.Step.{IsAnswerTo}
use Rattle.reply_bodies.specs.Laws.{IsSession}
use Rattle.reply_bodies.specs.Objects.{object_text}
use Rattle.reply_bodies.specs.Replies.{refusal_fields}
use Rattle.listing_back.specs.Laws.{IsRanged, MaybeSession}
use Rattle.entries_back.specs.Laws.{IsEntry}
use Rattle.http_replies.specs.Messages.{refusal_status, answer_message}
use Rattle.push_replies.specs.Replies.{reply_in}

-- the events whose answers are read
abbrev pub IsAsked : Event → Type 0
IsAsked (E.OpenDump host kind now token) = Unit {0}
IsAsked (E.Put dump path item token) = Unit {0}
IsAsked (E.Remove dump path token) = Unit {0}
IsAsked (E.Abort dump) = Unit {0}
IsAsked (E.Commit dump now) = Unit {0}
IsAsked (E.Backups host) = Unit {0}
IsAsked (E.List host number directory) = Unit {0}
IsAsked event = ⊥

-- numbers have their bits, and names keep their rules
abbrev pub IsAnswer : Answer → Type 0
IsAnswer (A.Dump name) = IsSession name
IsAnswer (A.Already number) = number < 2 ^ 32
IsAnswer (A.Committed number) = number < 2 ^ 32
IsAnswer (A.Backups lines next dump) = AllByRecursion IsRanged lines × (next < 2 ^ 64) × MaybeSession dump
IsAnswer (A.Entries entries) = AllByRecursion IsEntry entries
IsAnswer answer = Unit {0}

-- the refusal is named whole by its response
abbrev pub IsNamed : Refusal → Type 0
IsNamed (R.Damaged file found) = ⊥
IsNamed R.Memory = ⊥
IsNamed refusal = Unit {0}

-- each answer of the event's kind, and each refusal that is named whole
pub record RepliesReadBack : Type 0 where
  pub answers : (event : Event) (answer : Answer) → IsAsked event → IsAnswerTo event answer → IsAnswer answer
      → reply_in event (answer_message event answer false false).status (answer_message event answer false false).body ≡ Some (Ok answer)
  pub refusals : (event : Event) (refusal : Refusal) → IsNamed refusal
      → reply_in event (refusal_status refusal) (object_text (refusal_fields refusal)) ≡ Some (Err refusal)
