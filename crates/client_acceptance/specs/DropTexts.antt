-- A codec of one event, for the tests: the end of a stage.
use Rattle.std.specs.Prelude.{ℕ, ◌==◌, if◌then◌else◌, Bool, true, false, [], ◌++◌, codes, decimal, Option, Some, None, Ok, Err}
use Rattle.http_client.specs.Requests.{Ask}
use Rattle.office_model.specs.declared.event.Event.{Event}
use Rattle.office_model.specs.declared.event.Event.TheVariants as E
use Rattle.office_model.specs.declared.answer.Answer.TheVariants as A
use Rattle.office_model.specs.declared.refusal.Refusal.{Refusal}
use Rattle.office_model.specs.declared.refusal.Refusal.TheVariants.{Broken}
use Rattle.office_model.specs.declared.refusal.BrokenRule.TheVariants.{NoSession, NoPath}
use Rattle.office_model.specs.Meaning.{Reply}
use Rattle.peer_talk.specs.Mirror.{Response}

abbrev pub may : Event → Bool
may (E.StageDrop stage) = true
may event = false

abbrev pub request_of : Event → Ask
request_of (E.StageDrop stage) = record {
  method = codes "DELETE";
  target = codes "/stages/" ++ decimal stage;
  host = codes "b";
  body = Some [];
}
request_of event = record { method = []; target = []; host = []; body = None }

abbrev pub refusal_of : Event → Refusal
refusal_of event = Broken NoPath

abbrev pub stage_reply : ℕ → Option Reply
stage_reply status =
    if status == 200 then Some (Ok A.Done) else if status == 404 then Some (Err (Broken NoSession)) else None

abbrev pub reply_of : Event → Response → Option Reply
reply_of (E.StageDrop stage) response = stage_reply response.status
reply_of event response = None
