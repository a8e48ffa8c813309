-- What workers at doors of their own do to one store.
--     AreCallsOf log number old calls new      in this history these are the calls of the worker with this number
--     is_worker count number      whether this is the number of one of so many workers
--     ServeEach ..      each worker served its door, by the calls of its number
--     ServesAll ..      one history of all calls leads from one store to the other, and it has no calls but the workers'
use Rattle.std.specs.Prelude.{◌≡◌, ℕ, suc, ltb, Bool, false, List, [], ◌∷◌, Option, length}
use Rattle.disk_trait.specs.declared.disk.Disk.{Ghosts as DiskGhosts}
use Rattle.pool_name.specs.declared.namer.Namer.{Ghosts as NamerGhosts}
use Rattle.stream_traits.specs.declared.link.Faults.{Ghosts}
use Rattle.office_model.specs.declared.event.Event.{Event}
use Rattle.office_model.specs.Meaning.{Reply}
use Rattle.office_model.specs.Step.{Call}
use Rattle.request_events.specs.declared.defaults.Defaults.{Defaults}
use Rattle.turn_port.specs.Stores.{Store}
use Rattle.turn_lock.specs.declared.object.Entry.{Entry}
use Rattle.turn_lock.specs.History.{calls_by}
use Rattle.turn_port.specs.Asks.{entries_of}
use Rattle.turn_port.specs.Comes.{Comes}
use Rattle.door_server.specs.declared.worker.Worker.{Worker}
use Rattle.door_server.specs.Served.{ServesWorker}

-- in this history these are the calls of the worker with this number, in order
abbrev pub AreCallsOf : List (Entry Event Reply) → ℕ → Unit {0} → List Call → Unit {0} → Type 0
AreCallsOf log number old calls new = calls_by (number ∷ []) log ≡ entries_of (number ∷ []) calls

-- whether this is the number of one of so many workers
abbrev pub is_worker : ℕ → List ℕ → Bool
is_worker count [] = false
is_worker count (number ∷ []) = ltb number count
is_worker count (number ∷ next ∷ rest) = false

module _ (defaults : Defaults) {T C G L : Type 0} (l : Ghosts L) (coming given_back : T → Option (List L)) (faults : T → ℕ)
    (moments : C → Option (List ℕ)) where
  -- each worker, from this number on, served its door until that was closed or failed, by the calls of its number
  abbrev pub ServeEach : List (Entry Event Reply) → ℕ → List (Worker T C G) → List (Worker T C G) → Type 0
  ServeEach log number [] [] = Unit {0}
  ServeEach log number [] (after ∷ afters) = ⊥
  ServeEach log number (before ∷ befores) [] = ⊥
  ServeEach log number (before ∷ befores) (after ∷ afters) =
      ServesWorker defaults (AreCallsOf log number) tt tt l coming given_back faults moments before after
      × ServeEach log (suc number) befores afters

  -- There is one history of all calls, by which one store came from the other. In it each worker's entries are, link by link in
  -- order, the calls of talks at its door, which it left when that was closed or failed; and there are no others.
  pub record ServesAll {D N S : Type 0} {d : DiskGhosts D} {n : NamerGhosts N S} (old new : Store D N S d n)
      (before after : List (Worker T C G)) : Type 0 where
    pub log : List (Entry Event Reply)
    pub comes : Comes old log new
    pub each : ServeEach log 0 before after
    pub only : (by : List ℕ) → is_worker (length before) by ≡ false → calls_by by log ≡ []
