-- An open dump ends, and its stages with it.
--     EndsDump old index dump new      the sessions have lost the dump at this place, and its stages
use Rattle.std.specs.Prelude.{◌≡◌, ℕ}
use Rattle.std.specs.List.{remove}
use Rattle.open_sessions.specs.declared.sessions.OpenDump.{OpenDump}
use Rattle.open_sessions.specs.declared.sessions.Sessions.{Sessions}
use Rattle.open_sessions.specs.Staging.{without_those_of}

-- the next session and the next stage keep their numbers
pub record EndsDump {S : Type 0} (old : Sessions S) (index : ℕ) (dump : OpenDump) (new : Sessions S) : Type 0 where
  pub dumps : new.dumps.items ≡ remove old.dumps.items index
  pub stages : new.stages.items.items ≡ without_those_of dump.name old.stages.items.items
  pub next_stage : new.stages.next ≡ old.stages.next
  pub restores : new.restores ≡ old.restores
  pub readers : new.readers ≡ old.readers
  pub sequence : new.sequence ≡ old.sequence
