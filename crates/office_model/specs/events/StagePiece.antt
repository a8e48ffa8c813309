-- The next bytes of a stage. A fault of the disk drops the stage.
use Rattle.std.specs.Prelude.{ℕ, ◌+◌, ◌==◌, ◌||◌, nat_lt, Bool, List, ◌++◌, length, Option, Some, None, Ok, slice_set}
use Rattle.std.specs.List.{remove}
use Rattle.attr_records.specs.declared.trees.PutRule.TheVariants.{FileTooLarge}
use Rattle.office_model.specs.declared.answer.Answer.TheVariants.{Done}
use Rattle.office_model.specs.declared.answer.AnswerKind.TheVariants.{Done as DoneKind}
use Rattle.office_model.specs.declared.refusal.BrokenRule.TheVariants.{BadPiece, Put as PutRule}
use Rattle.office_model.specs.Office.{Office, Stage, stage_index, content_limit, piece_limit, with_stages}
use Rattle.office_model.specs.Meaning.{Meaning, Carried, Judged, Stages, ◌>>=◌, ◌>>◌, breaks, means}
use Rattle.office_model.specs.Parts.{stage_at}

-- no byte, or too many at once
abbrev pub is_bad_piece : List ℕ → Bool
is_bad_piece bytes = (length bytes == 0) || nat_lt piece_limit (length bytes)

abbrev pub with_bytes : Stage → List ℕ → Stage
with_bytes stage bytes = record stage { bytes = stage.bytes ++ bytes }

abbrev pub with_piece : ℕ → List ℕ → List Stage → Judged (List Stage)
with_piece number bytes stages = do
  stage ← stage_at stages number
  breaks BadPiece (is_bad_piece bytes)
  breaks (PutRule FileTooLarge) (nat_lt content_limit (length stage.value.bytes + length bytes))
  Ok (slice_set stages stage.index (with_bytes stage.value bytes))

abbrev pub carried : ℕ → List ℕ → Office → Judged Carried
carried number bytes office = do
  stages ← with_piece number bytes office.stages
  Ok (record { answer = Done; after = with_stages office stages })

-- without the stage at a place, if there is one
abbrev pub dropped : List Stage → Option ℕ → List Stage
dropped stages None = stages
dropped stages (Some index) = remove stages index

abbrev pub faulted : ℕ → Office → Office
faulted number office = with_stages office (dropped office.stages (stage_index office.stages number))

abbrev pub meaning : ℕ → List ℕ → Meaning
meaning number bytes = record (means (carried number bytes) DoneKind Stages) { faulted = faulted number }
