-- What a worker does at its door until that is closed or failed.
use Rattle.std.specs.Prelude.{◌≡◌, ℕ, List, Option}
use Rattle.fault_counts.specs.Counts.{Counted}
use Rattle.stream_traits.specs.declared.link.Faults.{Ghosts}
use Rattle.office_model.specs.Step.{Call}
use Rattle.request_events.specs.declared.defaults.Defaults.{Defaults}
use Rattle.caller_doors.specs.Links.{IsEmptied}
use Rattle.door_server.specs.declared.end.DoorEnd.{DoorEnd}
use Rattle.door_server.specs.declared.end.DoorEnd.TheVariants.{Closed, Failed}
use Rattle.door_server.specs.Serving.{ServesDoor}
use Rattle.door_server.specs.declared.worker.Caller.{Caller}
use Rattle.door_server.specs.declared.worker.Worker.{Worker}

-- The worker served its door, with calls that lead from one state of its port to the other: it left the door where that was
-- closed or failed, and the door's count of faults rose just where it failed.
pub record ServesWorker (defaults : Defaults) {P : Type 0} (moves : P → List Call → P → Type 0) (old new : P) {T C G L : Type 0}
    (l : Ghosts L) (coming given_back : T → Option (List L)) (faults : T → ℕ) (moments : C → Option (List ℕ))
    (before after : Worker T C G) : Type 0 where
  pub end : DoorEnd
  pub serves : ServesDoor defaults moves old new l (coming before.door) (coming after.door) (given_back before.door)
      (given_back after.door) (moments before.clock) (moments after.clock)
  pub closed : end ≡ Closed → IsEmptied (coming after.door)
  pub counted : Counted (faults before.door) (faults after.door) (end ≡ Failed)

-- so does a caller's worker, through its port
abbrev pub ServesCaller : Defaults → {P : Type 0} → (P → List Call → P → Type 0) → {T C G L : Type 0} → Ghosts L
    → (T → Option (List L)) → (T → Option (List L)) → (T → ℕ) → (C → Option (List ℕ)) → Caller P T C G → Caller P T C G → Type 0
ServesCaller defaults moves l coming given_back faults moments before after =
    ServesWorker defaults moves before.port after.port l coming given_back faults moments before.worker after.worker
