-- A piece of a pooled content: 65,536 bytes from a place on, or all that are left; none past its end.
use Rattle.std.specs.Prelude.{ℕ, take, drop, List, Ok}
use Rattle.disk_trait.specs.declared.ids.PoolId.{PoolId}
use Rattle.office_model.specs.declared.answer.Answer.TheVariants.{Part}
use Rattle.office_model.specs.declared.answer.AnswerKind.TheVariants.{Part as PartKind}
use Rattle.office_model.specs.declared.refusal.BrokenRule.TheVariants.{NoContent}
use Rattle.office_model.specs.Ids.{Ids, content_at}
use Rattle.office_model.specs.Office.{Office, piece_limit}
use Rattle.office_model.specs.Meaning.{Meaning, Carried, Judged, Reads, ◌>>=◌, found, means}

-- at most so many bytes
abbrev pub piece_of : ℕ → ℕ → List ℕ → List ℕ
piece_of room from content = take room (drop from content)

abbrev pub carried : PoolId → ℕ → Office → Judged Carried
carried id from office = do
  content ← found NoContent (content_at office.ids id)
  Ok (record { answer = Part (piece_of piece_limit from content); after = office })

abbrev pub meaning : PoolId → ℕ → Meaning
meaning id from = means (carried id from) PartKind Reads
