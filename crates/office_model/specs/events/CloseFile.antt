-- A reader is dropped.
use Rattle.std.specs.Prelude.{ℕ, List, Ok}
use Rattle.std.specs.List.{remove}
use Rattle.office_model.specs.declared.answer.Answer.TheVariants.{Done}
use Rattle.office_model.specs.declared.answer.AnswerKind.TheVariants.{Done as DoneKind}
use Rattle.office_model.specs.Office.{Office, Reader, with_readers}
use Rattle.office_model.specs.Meaning.{Meaning, Carried, Judged, Nothing, ◌>>=◌, means}
use Rattle.office_model.specs.Parts.{reader_at}

abbrev pub without_reader : ℕ → List Reader → Judged (List Reader)
without_reader number readers = do
  reader ← reader_at readers number
  Ok (remove readers reader.index)

abbrev pub carried : ℕ → Office → Judged Carried
carried number office = do
  readers ← without_reader number office.readers
  Ok (record { answer = Done; after = with_readers office readers })

abbrev pub meaning : ℕ → Meaning
meaning number = means (carried number) DoneKind Nothing
