-- One worker more, and what is known of each.
use Rattle.std.proofs.Common.{◌≡◌, ℕ, suc, ◌+◌, List, [], ◌∷◌, ◌++◌, length, refl, ap, subst, arith}
use Rattle.turn_lock.specs.declared.object.View.{View}
use Rattle.door_server.specs.declared.worker.Worker.{Worker}
use Rattle.door_server.specs.declared.worker.Caller.{Caller}
use Rattle.serve_workers.specs.Seated.{IsSeated, AreSeated}

module _ {O A B P X : Type 0} (table_of : P → X) (view_of : P → View O A B) {T C G : Type 0} (table : X) where
  pub seated_more : (number last : ℕ) (workers : List (Worker T C G)) (cs : List (Caller P T C G)) (worker : Worker T C G)
      (c : Caller P T C G) → AreSeated table_of view_of table number workers cs → last ≡ number + length workers
      → IsSeated table_of view_of table last worker c
      → AreSeated table_of view_of table number (workers ++ worker ∷ []) (cs ++ c ∷ [])
  seated_more number last [] [] worker c seated e is =
      let same : last ≡ number = omega (arith, e) in
      (subst (λ k. IsSeated table_of view_of table k worker c) same is, tt)
  seated_more number last [] (d ∷ cs) worker c seated e is = absurd seated
  seated_more number last (v ∷ workers) [] worker c seated e is = absurd seated
  seated_more number last (v ∷ workers) (d ∷ cs) worker c seated e is =
      let same : last ≡ suc number + length workers = omega (arith, e) in
      (seated.0, seated_more (suc number) last workers cs worker c seated.1 same is)

  pub as_many : (number : ℕ) (workers : List (Worker T C G)) (cs : List (Caller P T C G))
      → AreSeated table_of view_of table number workers cs → length cs ≡ length workers
  as_many number [] [] seated = refl
  as_many number [] (c ∷ cs) seated = absurd seated
  as_many number (worker ∷ workers) [] seated = absurd seated
  as_many number (worker ∷ workers) (c ∷ cs) seated = ap suc (as_many (suc number) workers cs seated.1)
