-- An open dump's kind, start and tree become its host's partial, in the place of an earlier one, and its contents are in the pool,
-- unmarked. The dump stays open.
use Rattle.std.specs.Prelude.{true, List, Option, Some, Ok, slice_get, slice_set}
use Rattle.receipts.specs.declared.session.SessionName.{SessionName}
use Rattle.office_model.specs.declared.answer.Answer.TheVariants.{Done}
use Rattle.office_model.specs.declared.answer.AnswerKind.TheVariants.{Done as DoneKind}
use Rattle.office_model.specs.declared.refusal.BrokenRule.TheVariants.{NoSession}
use Rattle.office_model.specs.Pool.{Pool, with_tree}
use Rattle.office_model.specs.Office.{Office, Host, Partial, Dump, with_hosts, with_pool}
use Rattle.office_model.specs.Meaning.{Meaning, Carried, Judged, ReadsAndCommits, ◌>>=◌, found, means}
use Rattle.office_model.specs.Parts.{dump_at}

abbrev pub partial_of : Dump → Partial
partial_of dump = record { kind = dump.kind; start = dump.start; tree = dump.tree }

abbrev pub with_partial : Host → Option Partial → Host
with_partial host partial = record host { partial = partial }

-- what it changes
pub record Parking : Type 0 where
  pub hosts : List Host
  pub pool : Pool

abbrev pub parked : SessionName → List Host → Pool → List Dump → Judged Parking
parked session hosts pool dumps = do
  dump ← dump_at dumps session
  host ← found NoSession (slice_get hosts dump.value.host)
  Ok (record {
    hosts = slice_set hosts dump.value.host (with_partial host (Some (partial_of dump.value)));
    pool = with_tree pool dump.value.tree;
  })

abbrev pub carried : SessionName → Office → Judged Carried
carried session office = do
  parts ← parked session office.hosts office.pool office.dumps
  Ok (record { answer = Done; after = with_pool (with_hosts office parts.hosts) parts.pool })

abbrev pub meaning : SessionName → Meaning
meaning session = record (means (carried session) DoneKind ReadsAndCommits) { pools = true }
