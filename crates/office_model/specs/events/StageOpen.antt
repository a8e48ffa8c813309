-- A stage of an open dump, with no bytes. Its number is that of the next stage, which rises.
use Rattle.std.specs.Prelude.{ℕ, false, List, [], ◌∷◌, ◌++◌, Ok, nat_le}
use Rattle.receipts.specs.declared.session.SessionName.{SessionName}
use Rattle.office_model.specs.declared.answer.Answer.TheVariants.{Stage as Opened}
use Rattle.office_model.specs.declared.answer.AnswerKind.TheVariants.{Stage as OpenedKind}
use Rattle.office_model.specs.declared.refusal.BrokenRule.TheVariants.{NumbersSpent}
use Rattle.office_model.specs.Office.{Office, Dump, Stage, last_sequence, with_stages}
use Rattle.office_model.specs.Meaning.{Meaning, Carried, Judged, Nothing, NextStage, ◌>>=◌, ◌>>◌, breaks}
use Rattle.office_model.specs.Parts.{dump_at}

abbrev pub new_stage : SessionName → ℕ → Stage
new_stage session number = record { number = number; dump = session; bytes = [] }

abbrev pub with_stage : SessionName → ℕ → List Dump → List Stage → Judged (List Stage)
with_stage session number dumps stages = do
  dump ← dump_at dumps session
  breaks NumbersSpent (nat_le last_sequence number)
  Ok (stages ++ new_stage session number ∷ [])

-- with this number
abbrev pub carried : SessionName → ℕ → Office → Judged Carried
carried session number office = do
  stages ← with_stage session number office.dumps office.stages
  Ok (record { answer = Opened number; after = with_stages office stages })

abbrev pub meaning : SessionName → Meaning
meaning session = record {
  carried = λ office names. carried session names.next_stage office;
  kind = OpenedKind;
  touches = λ office names. Nothing;
  renames = NextStage;
  faulted = λ office. office;
  pools = false;
}
