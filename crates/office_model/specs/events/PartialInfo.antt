-- How many paths a host's partial has, of which kind it is, and when it was begun.
use Rattle.std.specs.Prelude.{ℕ, List, length, Ok}
use Rattle.office_model.specs.declared.answer.Answer.TheVariants.{Partial as PartialAnswer}
use Rattle.office_model.specs.declared.answer.AnswerKind.TheVariants.{Partial as PartialKind}
use Rattle.office_model.specs.declared.refusal.BrokenRule.TheVariants.{NoPartial}
use Rattle.office_model.specs.Office.{Office, Host, Partial}
use Rattle.office_model.specs.Meaning.{Meaning, Carried, Judged, Nothing, ◌>>=◌, found, means}
use Rattle.office_model.specs.Parts.{host_at}

abbrev pub partial_at : List ℕ → List Host → Judged Partial
partial_at name hosts = do
  host ← host_at hosts name
  found NoPartial host.value.partial

abbrev pub carried : List ℕ → Office → Judged Carried
carried name office = do
  partial ← partial_at name office.hosts
  Ok (record { answer = PartialAnswer (length partial.tree) partial.kind partial.start; after = office })

abbrev pub meaning : List ℕ → Meaning
meaning name = means (carried name) PartialKind Nothing
