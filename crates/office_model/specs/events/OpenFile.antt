-- A reader of the bytes of a file of a backup. Its number is that of the next reader, which rises.
use Rattle.std.specs.Prelude.{ℕ, false, List, [], ◌∷◌, ◌++◌, length, Ok, nat_le}
use Rattle.office_model.specs.declared.answer.Answer.TheVariants.{Opened}
use Rattle.office_model.specs.declared.answer.AnswerKind.TheVariants.{Opened as OpenedKind}
use Rattle.office_model.specs.declared.refusal.BrokenRule.TheVariants.{NumbersSpent}
use Rattle.office_model.specs.Office.{Office, Host, Reader, last_sequence, with_readers}
use Rattle.office_model.specs.Meaning.{Meaning, Carried, Judged, Reads, NextReader, ◌>>=◌, ◌>>◌, breaks}
use Rattle.office_model.specs.events.ReadFile.{file_of}

abbrev pub new_reader : ℕ → List ℕ → Reader
new_reader number content = record { number = number; content = content; position = 0 }

-- the number of bytes of the file, and the readers afterwards
pub record Opening : Type 0 where
  pub size : ℕ
  pub readers : List Reader

abbrev pub opening : List ℕ → ℕ → List ℕ → ℕ → List Host → List Reader → Judged Opening
opening name number path next hosts readers = do
  bytes ← file_of hosts name number path
  breaks NumbersSpent (nat_le last_sequence next)
  Ok (record { size = length bytes; readers = readers ++ new_reader next bytes ∷ [] })

-- with this number
abbrev pub carried : List ℕ → ℕ → List ℕ → ℕ → Office → Judged Carried
carried name number path next office = do
  made ← opening name number path next office.hosts office.readers
  Ok (record { answer = Opened next made.size; after = with_readers office made.readers })

abbrev pub meaning : List ℕ → ℕ → List ℕ → Meaning
meaning name number path = record {
  carried = λ office names. carried name number path names.next_reader office;
  kind = OpenedKind;
  touches = λ office names. Reads;
  renames = NextReader;
  faulted = λ office. office;
  pools = false;
}
