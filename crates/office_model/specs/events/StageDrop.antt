-- A stage is dropped.
use Rattle.std.specs.Prelude.{ℕ, List, Ok}
use Rattle.std.specs.List.{remove}
use Rattle.office_model.specs.declared.answer.Answer.TheVariants.{Done}
use Rattle.office_model.specs.declared.answer.AnswerKind.TheVariants.{Done as DoneKind}
use Rattle.office_model.specs.Office.{Office, Stage, with_stages}
use Rattle.office_model.specs.Meaning.{Meaning, Carried, Judged, Nothing, ◌>>=◌, means}
use Rattle.office_model.specs.Parts.{stage_at}

abbrev pub without_stage : ℕ → List Stage → Judged (List Stage)
without_stage number stages = do
  stage ← stage_at stages number
  Ok (remove stages stage.index)

abbrev pub carried : ℕ → Office → Judged Carried
carried number office = do
  stages ← without_stage number office.stages
  Ok (record { answer = Done; after = with_stages office stages })

abbrev pub meaning : ℕ → Meaning
meaning number = means (carried number) DoneKind Nothing
