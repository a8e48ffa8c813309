-- A server at home that is stopped within a pull.
--     StopsWithin      within one of these calls, and what the disk keeps behind it
--     StoppedPullBrings      the host's backups are those before and a beginning of those to be brought, as of a pull that wasn't stopped
use Rattle.std.specs.Prelude.{◌≡◌, ℕ, Bool, List, ◌∷◌, ◌++◌, Ok, Err, ◌⊎◌}
use Rattle.office_model.specs.declared.event.Event.{Event}
use Rattle.office_model.specs.Office.{Office, Durable, Names}
use Rattle.office_model.specs.Meaning.{Carried, Judged}
use Rattle.office_model.specs.Step.{Call, State, Running, Halted, IsNext, meaning_of}
use Rattle.office_model.specs.History.{Leads}
use Rattle.pull_work.specs.declared.plan.Plan.{Plan}
use Rattle.pull_work.specs.Steps.{calls_in}
use Rattle.pull_work.specs.Script.{Phase}
use Rattle.pull_work.specs.Runs.{steps_of}
use Rattle.replicas.specs.Replicas.{IsReplica, wanted, Brings, Pulls}

-- ---- a stop at home

-- the disk keeps what an event makes of it that breaks no rule; of one that moves contents, but for their ids
abbrev pub IsMadeBy : Bool → Names → Durable → Judged Carried → Durable → Type 0
IsMadeBy pools names old (Ok carried) kept = IsNext pools names old carried.after.durable kept
IsMadeBy pools names old (Err rule) kept = ⊥

-- what the disk may keep if the server is stopped within the call of an event: what it kept, or what the event makes of that
abbrev pub MayKeep : State → Event → Durable → Type 0
MayKeep (Running office names) event kept =
    (kept ≡ office.durable) ⊎ IsMadeBy (meaning_of event).pools names office.durable ((meaning_of event).carried office names) kept
MayKeep (Halted before next names) event kept = (kept ≡ before) ⊎ (kept ≡ next)

-- of these calls some were made, the server was stopped within the next one, and the disk keeps this
pub record StopsWithin (state : State) (faults : ℕ) (calls : List Call) (kept : Durable) : Type 0 where
  pub before : List Call
  pub call : Call
  pub after : List Call
  pub mid : State
  pub count : ℕ
  pub calls_are : calls ≡ before ++ call ∷ after
  pub leads : Leads state faults before mid count
  pub may : MayKeep mid call.0 kept

-- wherever it stops, the host's backups are those before and a beginning of those to be brought, and still agree; no other host changed
abbrev pub StoppedPullBrings : Type 0
StoppedPullBrings = (plan : Plan) (home first : Office) (phase : Phase) (state' : State) (kept : Durable)
    → (pull : Pulls plan home first phase state') → StopsWithin (Running home pull.names) pull.faults (calls_in (steps_of pull.turns)) kept
    → Brings home.hosts (wanted home.hosts first.hosts plan.host) plan.host kept.hosts × IsReplica kept.hosts first.hosts plan.host
