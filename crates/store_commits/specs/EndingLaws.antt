-- Laws of specs/Ending.
--     AreSessions-dump_ended, claims_in-dump_ended      all open sessions after that, and their claims
use Rattle.std.specs.Prelude.{◌≡◌, ℕ, ◌+◌, List, Some, slice_get}
use Rattle.std.specs.List.{remove}
use Rattle.std.proofs.Common.{refl}
use Rattle.disk_trait.specs.declared.ids.PoolId.{PoolId}
use Rattle.office_model.specs.Office.{Volatile, stages_left}
use Rattle.open_sessions.specs.declared.sessions.OpenDump.{OpenDump}
use Rattle.open_sessions.specs.declared.sessions.Sessions.{Sessions}
use Rattle.open_sessions.specs.Opened.{Staging, AreSessions, claims_of_dump, claims_in, OnlyDumps, OnlyStages}
use Rattle.store_parts.specs.EndLaws.{sessions_ended, claims_ended}
use Rattle.store_commits.specs.Ending.{EndsDump}

module _ {S : Type 0} (old new : Sessions S) (index : ℕ) (dump : OpenDump) (ends : EndsDump old index dump new) where
  -- still with its stages
  abbrev mid : Sessions S
  mid = record new { stages = old.stages }

  abbrev dump_out : OnlyDumps old mid
  dump_out = record { beside = record { restores = ends.restores; stages = refl; readers = ends.readers }; sequence = ends.sequence }

  abbrev stages_out : OnlyStages mid new
  stages_out = record { dumps = refl; restores = refl; readers = refl; sequence = refl }

  pub AreSessions-dump_ended : (holds : S → List ℕ → Type 0) (given : PoolId → Type 0) (contents : PoolId → List ℕ) (staging : Staging)
      (office : Volatile) → AreSessions holds given contents staging office old
      → AreSessions holds given contents staging
      (record office { dumps = remove office.dumps index; stages = stages_left dump.name office.stages }) new
  AreSessions-dump_ended holds given contents staging office at =
      sessions_ended old mid new dump_out stages_out index ends.dumps holds given contents staging office at dump.name ends.stages
      ends.next_stage

  pub claims_in-dump_ended : slice_get old.dumps.items index ≡ Some dump → (id : PoolId)
      → claims_in new id + claims_of_dump dump id ≡ claims_in old id
  claims_in-dump_ended there id = claims_ended old mid new dump_out stages_out index ends.dumps dump there id
