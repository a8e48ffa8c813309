-- Workers with ports over passes that were split from the first, one after the other.
use Rattle.std.specs.Prelude.{◌≡◌, ℕ, suc, List, [], ◌∷◌}
use Rattle.turn_lock.specs.declared.object.View.{View}
use Rattle.turn_lock.specs.History.{caller}
use Rattle.door_server.specs.declared.worker.Worker.{Worker}
use Rattle.door_server.specs.declared.worker.Caller.{Caller}

module _ {O A B P X : Type 0} (table_of : P → X) (view_of : P → View O A B) {T C G : Type 0} (table : X) where
  -- a worker's port is over the pass with this number, of this lock, which has made no calls
  pub record IsSeated (number : ℕ) (worker : Worker T C G) (c : Caller P T C G) : Type 0 where
    pub own : table_of c.port ≡ table
    pub callers : (view_of c.port).callers ≡ caller (number ∷ []) 0 [] ∷ []
    pub worker_is : c.worker ≡ worker

  -- so each of these, from this number on
  abbrev pub AreSeated : ℕ → List (Worker T C G) → List (Caller P T C G) → Type 0
  AreSeated number [] [] = Unit {0}
  AreSeated number [] (c ∷ cs) = ⊥
  AreSeated number (worker ∷ workers) [] = ⊥
  AreSeated number (worker ∷ workers) (c ∷ cs) = IsSeated number worker c × AreSeated (suc number) workers cs
