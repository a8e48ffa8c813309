-- A host's partial is dropped.
use Rattle.std.specs.Prelude.{ℕ, List, None, is_none, Ok, slice_set}
use Rattle.office_model.specs.declared.answer.Answer.TheVariants.{Done}
use Rattle.office_model.specs.declared.answer.AnswerKind.TheVariants.{Done as DoneKind}
use Rattle.office_model.specs.declared.refusal.BrokenRule.TheVariants.{NoPartial}
use Rattle.office_model.specs.Office.{Office, Host, with_hosts}
use Rattle.office_model.specs.Meaning.{Meaning, Carried, Judged, Commits, ◌>>=◌, ◌>>◌, breaks, means}
use Rattle.office_model.specs.Parts.{host_at}
use Rattle.office_model.specs.events.Park.{with_partial}

abbrev pub without_partial : List ℕ → List Host → Judged (List Host)
without_partial name hosts = do
  host ← host_at hosts name
  breaks NoPartial (is_none host.value.partial)
  Ok (slice_set hosts host.index (with_partial host.value None))

abbrev pub carried : List ℕ → Office → Judged Carried
carried name office = do
  hosts ← without_partial name office.hosts
  Ok (record { answer = Done; after = with_hosts office hosts })

abbrev pub meaning : List ℕ → Meaning
meaning name = means (carried name) DoneKind Commits
