-- A host's tables of the first layout are written anew in the second. No backup looks any different: the host leaves the set of those
-- that may have such tables.
use Rattle.std.specs.Prelude.{ℕ, List, Ok}
use Rattle.office_model.specs.declared.answer.Answer.TheVariants.{Done}
use Rattle.office_model.specs.declared.answer.AnswerKind.TheVariants.{Done as DoneKind}
use Rattle.office_model.specs.Office.{Office}
use Rattle.office_model.specs.Meaning.{Meaning, Carried, Judged, ReadsAndCommits, Migrates, ◌>>=◌, means}
use Rattle.office_model.specs.Parts.{host_at}

abbrev pub carried : List ℕ → Office → Judged Carried
carried name office = do
  host ← host_at office.hosts name
  Ok (record { answer = Done; after = office })

abbrev pub meaning : List ℕ → Meaning
meaning name = record (means (carried name) DoneKind ReadsAndCommits) { renames = Migrates name }
