-- Statuses of this server, and the methods of its routes, may stand in a head.
use Rattle.std.proofs.Common.{◌≡◌, ℕ, Bool, true, ◌&&◌, not, nat_lt, nat_le, List, length, refl}
use Rattle.http_heads.specs.Responses.{ends_at_head}
use Rattle.http_wire.specs.Message.{phrase}
use Rattle.http_client.specs.Plain.{is_value}
use Rattle.attr_records.specs.declared.trees.PutRule.{PutRule}
use Rattle.attr_records.specs.declared.trees.PutRule.TheVariants as T
use Rattle.http_routes.specs.Actions.{allow_of}
use Rattle.http_routes.specs.declared.route.Route.{Route}
use Rattle.http_routes.specs.declared.route.Route.TheVariants as W
use Rattle.office_model.specs.declared.event.Event.{Event}
use Rattle.office_model.specs.declared.event.Event.TheVariants as E
use Rattle.office_model.specs.declared.answer.Answer.{Answer}
use Rattle.office_model.specs.declared.answer.Answer.TheVariants as A
use Rattle.office_model.specs.declared.refusal.BrokenRule.{BrokenRule}
use Rattle.office_model.specs.declared.refusal.BrokenRule.TheVariants as B
use Rattle.office_model.specs.declared.refusal.Refusal.{Refusal}
use Rattle.office_model.specs.declared.refusal.Refusal.TheVariants as R
use Rattle.request_events.specs.declared.refusal.RequestRefusal.{RequestRefusal}
use Rattle.request_events.specs.declared.refusal.RequestRefusal.TheVariants as Q
use Rattle.http_replies.specs.Messages.{request_refusal_status, put_rule_status, rule_status, refusal_status, done_status, answer_status}

-- a short text that may stand in a field
abbrev pub is_plain_text : List ℕ → Bool
is_plain_text text = is_value text && nat_le (length text) 64

-- a status of a response with a body, whose phrase is such a text
abbrev pub is_plain_status : ℕ → Bool
is_plain_status status = nat_lt status 1000 && not (ends_at_head status) && is_plain_text (phrase status)

put-rule-plain : (rule : PutRule) → is_plain_status (put_rule_status rule) ≡ true
unfolding phrase
put-rule-plain T.NoParent = refl
put-rule-plain T.IsDirectory = refl
put-rule-plain T.TooManyEntries = refl
put-rule-plain T.FileTooLarge = refl

rule-plain : (rule : BrokenRule) → is_plain_status (rule_status rule) ≡ true
unfolding phrase
rule-plain B.HostExists = refl
rule-plain B.HostsFull = refl
rule-plain B.NoHost = refl
rule-plain B.SessionOpen = refl
rule-plain B.NumbersSpent = refl
rule-plain B.NoSession = refl
rule-plain (B.Put rule) = put-rule-plain rule
rule-plain B.NoBackup = refl
rule-plain B.NoPartial = refl
rule-plain B.ChainFull = refl
rule-plain B.NoPath = refl
rule-plain B.NotAFile = refl
rule-plain B.NotADirectory = refl
rule-plain B.Kept = refl
rule-plain B.BadBucket = refl
rule-plain B.BadPiece = refl
rule-plain B.TokensFull = refl
rule-plain B.NumberBehind = refl
rule-plain B.NoContent = refl

pub refusal-plain : (refusal : Refusal) → is_plain_status (refusal_status refusal) ≡ true
unfolding phrase
refusal-plain (R.Broken rule) = rule-plain rule
refusal-plain R.Halted = refl
refusal-plain R.DiskFault = refl
refusal-plain (R.Damaged file found) = refl
refusal-plain R.Memory = refl

pub request-plain : (refusal : RequestRefusal) → is_plain_status (request_refusal_status refusal) ≡ true
unfolding phrase
request-plain Q.NoRoute = refl
request-plain (Q.NoMethod route) = refl
request-plain Q.NoLength = refl
request-plain refusal = refl

done-plain : (event : Event) → is_plain_status (done_status event) ≡ true
unfolding phrase
done-plain (E.AddHost host rules) = refl
done-plain event = refl

pub bytes-plain : is_plain_status 200 ≡ true
unfolding phrase
bytes-plain = refl

pub answer-plain : (event : Event) (answer : Answer) → is_plain_status (answer_status event answer) ≡ true
unfolding phrase
answer-plain event A.Done = done-plain event
answer-plain event (A.Dump name) = refl
answer-plain event (A.Committed number) = refl
answer-plain event (A.Stage number) = refl
answer-plain event (A.Opened reader size) = refl
answer-plain event (A.Restore name) = refl
answer-plain event answer = refl

-- the methods of each route
pub allow-plain : (route : Route) → is_plain_text (allow_of route) ≡ true
allow-plain W.Hosts = refl
allow-plain W.Host = refl
allow-plain W.Rules = refl
allow-plain W.Dumps = refl
allow-plain W.Entry = refl
allow-plain W.Commit = refl
allow-plain W.Park = refl
allow-plain W.Dump = refl
allow-plain W.Resume = refl
allow-plain W.Partial = refl
allow-plain W.Backups = refl
allow-plain W.Backup = refl
allow-plain W.BackupList = refl
allow-plain W.BackupEntry = refl
allow-plain W.BackupFile = refl
allow-plain W.Restores = refl
allow-plain W.Keep = refl
allow-plain W.Next = refl
allow-plain W.Restore = refl
allow-plain W.Expire = refl
allow-plain W.Contacts = refl
allow-plain W.Due = refl
allow-plain W.Clean = refl
allow-plain W.Sweep = refl
allow-plain W.Stats = refl
allow-plain W.Reopen = refl
