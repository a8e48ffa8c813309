-- What is open without a dump and its stages.
--     sessions_ended      the sessions are those of the office without them
--     claims_ended      the claims of the dump are gone
use Rattle.std.specs.Prelude.{◌≡◌, ◌+◌, ℕ, List, Some, slice_get}
use Rattle.std.specs.List.{remove}
use Rattle.std.proofs.Common.{arith}
use Rattle.disk_trait.specs.declared.ids.PoolId.{PoolId}
use Rattle.receipts.specs.declared.session.SessionName.{SessionName}
use Rattle.office_model.specs.Office.{Volatile, stages_left}
use Rattle.open_sessions.specs.declared.sessions.OpenDump.{OpenDump}
use Rattle.open_sessions.specs.declared.sessions.Sessions.{Sessions}
use Rattle.open_sessions.specs.Staging.{without_those_of}
use Rattle.open_sessions.specs.Opened.{Staging, AreSessions, OnlyDumps, OnlyStages, claims_of_dump, claims_in}
use Rattle.open_sessions.specs.SessionLaws.{claims_in-stages}
use Rattle.open_sessions.specs.CallLaws.{AreSessions-dump_taken, claims_in-dump_taken}
use Rattle.open_sessions.specs.StageCallLaws.{AreSessions-stages_ended}

-- the dump was taken out, and then its stages
module _ {S : Type 0} (old mid new : Sessions S) (dump_out : OnlyDumps old mid) (stages_out : OnlyStages mid new) (index : ℕ)
    (dumps : mid.dumps.items ≡ remove old.dumps.items index) where
  pub sessions_ended : (holds : S → List ℕ → Type 0) (given : PoolId → Type 0) (contents : PoolId → List ℕ) (staging : Staging)
      (office : Volatile)
      → AreSessions holds given contents staging office old → (session : SessionName)
      → new.stages.items.items ≡ without_those_of session mid.stages.items.items → new.stages.next ≡ mid.stages.next
      → AreSessions holds given contents staging
      (record office { dumps = remove office.dumps index; stages = stages_left session office.stages }) new
  sessions_ended holds given contents staging office at session items next =
      AreSessions-stages_ended mid new stages_out holds given contents staging (record office { dumps = remove office.dumps index })
      (AreSessions-dump_taken old mid dump_out.beside holds given contents staging office at index dumps dump_out.sequence)
      session items next

  pub claims_ended : (dump : OpenDump) → slice_get old.dumps.items index ≡ Some dump → (id : PoolId)
      → claims_in new id + claims_of_dump dump id ≡ claims_in old id
  claims_ended dump there id =
      omega (arith, claims_in-stages mid new stages_out id, claims_in-dump_taken old mid dump_out.beside id index dump there dumps)
