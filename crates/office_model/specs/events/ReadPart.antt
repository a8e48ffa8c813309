-- The next part of a reader: so many bytes, or all that are left; none at the end.
use Rattle.std.specs.Prelude.{ℕ, ◌+◌, List, take, drop, length, Ok, slice_set}
use Rattle.office_model.specs.declared.answer.Answer.TheVariants.{Part}
use Rattle.office_model.specs.declared.answer.AnswerKind.TheVariants.{Part as PartKind}
use Rattle.office_model.specs.Office.{Office, Reader, piece_limit, with_readers}
use Rattle.office_model.specs.Meaning.{Meaning, Carried, Judged, Reads, ◌>>=◌, means}
use Rattle.office_model.specs.Parts.{reader_at}

-- what is next, at most so many bytes
abbrev pub part_of : ℕ → Reader → List ℕ
part_of room reader = take room (drop reader.position reader.content)

-- the position rises by what is given
abbrev pub moved_on : ℕ → Reader → Reader
moved_on room reader = record reader { position = reader.position + length (part_of room reader) }

-- the part that is given, and the readers afterwards
pub record Given : Type 0 where
  pub part : List ℕ
  pub readers : List Reader

abbrev pub given : ℕ → ℕ → List Reader → Judged Given
given room number readers = do
  reader ← reader_at readers number
  Ok (record { part = part_of room reader.value; readers = slice_set readers reader.index (moved_on room reader.value) })

abbrev pub carried : ℕ → Office → Judged Carried
carried number office = do
  next ← given piece_limit number office.readers
  Ok (record { answer = Part next.part; after = with_readers office next.readers })

abbrev pub meaning : ℕ → Meaning
meaning number = means (carried number) PartKind Reads
