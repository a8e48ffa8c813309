-- What the workers did, from what each did at its port and what the lock says of all calls.
use Rattle.std.specs.Prelude.{◌<◌, ◌≤◌, All, cond, false, true, map, take, drop}
use Rattle.std.proofs.lemmas.List.{take_all, take-append-le}
use Rattle.std.specs.List.{AllZip, AllByRecursion}
use Rattle.std.proofs.Common.{◌≡◌, ℕ, zero, suc, ◌+◌, List, [], ◌∷◌, ◌++◌, Option}
use Rattle.std.proofs.Common.{length, refl, sym, ap, subst, ◌∙◌, arith, eq-eqb, ne_eqb, lt-ltb, true≢false}
use mathlib.Core.Logic.{dite}
use native.Mathlib.Decide.{ℕ_discrete}
use Rattle.std.proofs.lemmas.List.Elements.{All-from_recursion, recursion_from_All}
use Rattle.disk_trait.specs.declared.disk.Disk.{Ghosts as DiskGhosts}
use Rattle.pool_name.specs.declared.namer.Namer.{Ghosts as NamerGhosts}
use Rattle.stream_traits.specs.declared.link.Faults.{Ghosts}
use Rattle.office_model.specs.declared.event.Event.{Event}
use Rattle.office_model.specs.Meaning.{Reply}
use Rattle.office_model.specs.Step.{Call}
use Rattle.request_events.specs.declared.defaults.Defaults.{Defaults}
use Rattle.turn_port.specs.Stores.{Store}
use Rattle.turn_lock.specs.declared.object.Entry.{Entry}
use Rattle.turn_lock.specs.declared.object.Caller.{Caller as LockCaller}
use Rattle.turn_lock.specs.declared.object.View.{View}
use Rattle.turn_lock.specs.History.{same_number, caller, calls_by, has_number, Fits, StoodIn, callers_of, NoOtherCalls}
use Rattle.turn_lock.specs.Returned.{SameNumbers, children_row}
use Rattle.turn_lock.specs.ReturnedLaws.{row_returned, returned_same}
use Rattle.turn_port.specs.declared.locked.LockedStore.{LockedStore}
use Rattle.turn_port.specs.Asks.{entries_of, with_own_calls, Passes}
use Rattle.turn_port.specs.AsksLaws.{Asks-stood}
use Rattle.turn_port.specs.Comes.{Stands, IsOf, ComesBy, ComesOfAll}
use Rattle.door_server.specs.Serving.{all_calls}
use Rattle.door_server.specs.declared.worker.Worker.{Worker}
use Rattle.door_server.specs.declared.worker.Caller.{Caller}
use Rattle.door_server.specs.Served.{ServesCaller, ServesWorker}
use Rattle.serve_workers.specs.Seated.{IsSeated, AreSeated}
use Rattle.serve_workers.specs.Workers.{AreCallsOf, is_worker, ServeEach, ServesAll}

-- ---- numbers

row_misses : (A B : Type 0) (start count k : ℕ) → (start ≤ k → k < start + count → ⊥)
    → has_number {A = A} {B = B} (children_row start count) (k ∷ []) ≡ false
row_misses A B start zero k out = refl
row_misses A B start (suc count) k out = dite (ℕ_discrete start k)
    (λ same. absurd (out (omega (arith, same)) (omega (arith, same))))
    (λ other. rw (ne_eqb start k other)
    (row_misses A B (suc start) count k (λ low high. out (omega (arith, low)) (omega (arith, high)))))

row_misses_deep : (A B : Type 0) (start count k j : ℕ) (rest : List ℕ)
    → has_number {A = A} {B = B} (children_row start count) (k ∷ j ∷ rest) ≡ false
row_misses_deep A B start zero k j rest = refl
row_misses_deep A B start (suc count) k j rest = dite (ℕ_discrete start k)
    (λ same. rw (eq-eqb start k same) (row_misses_deep A B (suc start) count k j rest))
    (λ other. rw (ne_eqb start k other) (row_misses_deep A B (suc start) count k j rest))

module _ {A B : Type 0} where
  has_same : (ps qs : List (LockCaller A B)) (number : List ℕ) → SameNumbers ps qs → has_number ps number ≡ has_number qs number
  has_same [] [] number same = refl
  has_same [] (q ∷ qs) number same = absurd same
  has_same (p ∷ ps) [] number same = absurd same
  has_same (p ∷ ps) (q ∷ qs) number same = λ k. cond (same_number (same.0 k) number) true (has_same ps qs number same.2 k)

  -- if the first caller made no calls, and it and its children are all, only the children made some
  nobody_else : (count : ℕ) (log : List (Entry A B)) (all : List (LockCaller A B))
      → SameNumbers (caller [] count [] ∷ children_row 0 count) all → calls_by [] log ≡ [] → NoOtherCalls all log
      → (by : List ℕ) → is_worker count by ≡ false → calls_by by log ≡ []
  nobody_else count log all same first only [] other = first
  nobody_else count log all same first only (k ∷ []) other = only (k ∷ [])
      (sym (has_same (caller [] count [] ∷ children_row 0 count) all (k ∷ []) same)
      ∙ row_misses A B 0 count k (λ low high. let below : k < count = omega (arith, high) in
      true≢false (sym (lt-ltb k count below) ∙ other)))
  nobody_else count log all same first only (k ∷ j ∷ rest) other = only (k ∷ j ∷ rest)
      (sym (has_same (caller [] count [] ∷ children_row 0 count) all (k ∷ j ∷ rest) same) ∙ row_misses_deep A B 0 count k j rest)

-- a list that was put in place of another as long
pub refilled : {A : Type 0} (n : ℕ) (xs ws : List A) → length ws ≡ n → take n (ws ++ drop (length ws) xs) ≡ ws
refilled n xs ws e = take-append-le n ws (drop (length ws) xs) (omega (arith, e)) ∙ take_all n ws (omega (arith, e))

-- ---- workers

pub map_map : {A B C : Type 0} (f : B → C) (g : A → B) (xs : List A) → map f (map g xs) ≡ map (λ x. f (g x)) xs
map_map f g [] = refl
map_map f g (x ∷ xs) = ap (λ l. f (g x) ∷ l) (map_map f g xs)

-- what is known of the calls at a port with this lock and this view
abbrev PortMoves : {D N S P X : Type 0} {d : DiskGhosts D} {n : NamerGhosts N S} → (P → X)
    → (P → View (LockedStore D N S d n) Event Reply) → P → List Call → P → Type 0
PortMoves table_of view_of p calls q = Passes Stands (table_of p) (view_of p) calls (table_of q) (view_of q)

module _ {D N S : Type 0} {d : DiskGhosts D} {n : NamerGhosts N S} {P X : Type 0} (table_of : P → X)
    (view_of : P → View (LockedStore D N S d n) Event Reply) (defaults : Defaults) {T C G L : Type 0} (l : Ghosts L)
    (coming given_back : T → Option (List L)) (faults : T → ℕ) (moments : C → Option (List ℕ)) where
  abbrev Serves : Caller P T C G → Caller P T C G → Type 0
  Serves = ServesCaller defaults (PortMoves table_of view_of) l coming given_back faults moments

  abbrev views_of : List (Caller P T C G) → List (View (LockedStore D N S d n) Event Reply)
  views_of callers = map (λ c. view_of c.port) callers

  abbrev workers_of : List (Caller P T C G) → List (Worker T C G)
  workers_of callers = map (λ c. c.worker) callers

  serves_by_number : (log : List (Entry Event Reply)) (table : X) (number : ℕ) (worker : Worker T C G) (before after : Caller P T C G)
      → IsSeated table_of view_of table number worker before → Serves before after → StoodIn log (view_of after.port)
      → ServesWorker defaults (AreCallsOf log number) tt tt l coming given_back faults moments worker after.worker
  serves_by_number log table number worker before after seated served stood =
      let calls = all_calls served.serves.connections in
      let stands : calls_by (number ∷ []) log ≡ entries_of (number ∷ []) calls =
      Asks-stood Stands (view_of before.port) (view_of after.port) calls (number ∷ []) 0 [] seated.callers served.serves.moved.1 log
      stood.1 in
      subst (λ w. ServesWorker defaults (AreCallsOf log number) tt tt l coming given_back faults moments w after.worker)
      seated.worker_is (record {
        end = served.end;
        serves = record {
          connections = served.serves.connections;
          moved = stands;
          served = served.serves.served;
          came = served.serves.came;
          gave = served.serves.gave;
        };
        closed = served.closed;
        counted = served.counted;
      })

  each_by_number : (log : List (Entry Event Reply)) (table : X) (number : ℕ) (workers : List (Worker T C G))
      (befores afters : List (Caller P T C G)) → AreSeated table_of view_of table number workers befores
      → AllZip Serves befores afters → AllByRecursion (StoodIn log) (views_of afters)
      → ServeEach defaults l coming given_back faults moments log number workers (workers_of afters)
  each_by_number log table number [] [] [] seated served stood = tt
  each_by_number log table number [] [] (a ∷ afters) seated served stood = absurd served
  each_by_number log table number [] (b ∷ befores) afters seated served stood = absurd seated
  each_by_number log table number (w ∷ workers) [] afters seated served stood = absurd seated
  each_by_number log table number (w ∷ workers) (b ∷ befores) [] seated served stood = absurd served
  each_by_number log table number (w ∷ workers) (b ∷ befores) (a ∷ afters) seated served stood = (
    serves_by_number log table number w b a seated.0 served.0 stood.0,
    each_by_number log table (suc number) workers befores afters seated.1 served.1 stood.1,
  )

  numbers_stay : (table : X) (number : ℕ) (workers : List (Worker T C G)) (befores afters : List (Caller P T C G))
      → AreSeated table_of view_of table number workers befores → AllZip Serves befores afters
      → SameNumbers (children_row number (length workers)) (callers_of (views_of afters))
  numbers_stay table number [] [] [] seated served = tt
  numbers_stay table number [] [] (a ∷ afters) seated served = absurd served
  numbers_stay table number [] (b ∷ befores) afters seated served = absurd seated
  numbers_stay table number (w ∷ workers) [] afters seated served = absurd seated
  numbers_stay table number (w ∷ workers) (b ∷ befores) [] seated served = absurd served
  numbers_stay table number (w ∷ workers) (b ∷ befores) (a ∷ afters) seated served =
      let calls = all_calls served.0.serves.connections in
      let is : (view_of a.port).callers ≡ caller (number ∷ []) 0 (entries_of (number ∷ []) calls) ∷ [] =
      served.0.serves.moved.1.own ∙ ap (with_own_calls calls) seated.0.callers in
      subst (λ ps. SameNumbers (children_row number (suc (length workers))) (ps ++ callers_of (views_of afters))) (sym is)
      (refl, refl, numbers_stay table (suc number) workers befores afters seated.1 served.1)

  own_each : (table : X) (number : ℕ) (workers : List (Worker T C G)) (befores afters : List (Caller P T C G))
      → AreSeated table_of view_of table number workers befores → AllZip Serves befores afters
      → AllByRecursion (λ c. table_of c.port ≡ table) afters
  own_each table number [] [] [] seated served = tt
  own_each table number [] [] (a ∷ afters) seated served = absurd served
  own_each table number [] (b ∷ befores) afters seated served = absurd seated
  own_each table number (w ∷ workers) [] afters seated served = absurd seated
  own_each table number (w ∷ workers) (b ∷ befores) [] seated served = absurd served
  own_each table number (w ∷ workers) (b ∷ befores) (a ∷ afters) seated served =
      (served.0.serves.moved.0 ∙ seated.0.own, own_each table (suc number) workers befores afters seated.1 served.1)

  -- ports that served are still of their lock
  pub own_after : (table : X) (number : ℕ) (workers : List (Worker T C G)) (befores afters : List (Caller P T C G))
      → AreSeated table_of view_of table number workers befores → AllZip Serves befores afters
      → All (λ c. table_of c.port ≡ table) afters
  own_after table number workers befores afters seated served =
      All-from_recursion (λ c. table_of c.port ≡ table) afters (own_each table number workers befores afters seated served)

  -- the workers served at ports over passes split from the first of a lock round the old store, and the new store came of all calls
  pub served_all : (old new : Store D N S d n) (first : View (LockedStore D N S d n) Event Reply) (table : X) (workers : List (Worker T C G))
      (befores afters : List (Caller P T C G)) (others : List (View (LockedStore D N S d n) Event Reply)) → IsOf old first
      → first.callers ≡ caller [] (length workers) [] ∷ [] → AreSeated table_of view_of table 0 workers befores
      → AllZip Serves befores afters → others ≡ views_of afters → ComesOfAll first others new
      → ServesAll defaults l coming given_back faults moments old new workers (workers_of afters)
  served_all old new first table workers befores afters others opened split seated served views all =
      let count = length workers in
      let by : ComesBy old first (views_of afters) new = subst (λ vs. ComesBy old first vs new) views (all old opened) in
      let same : SameNumbers (caller [] count [] ∷ children_row 0 count) (first.callers ++ callers_of (views_of afters)) =
      subst (λ ps. SameNumbers (caller [] count [] ∷ children_row 0 count) (ps ++ callers_of (views_of afters))) (sym split)
      (refl, refl, numbers_stay table 0 workers befores afters seated served) in
      let fits : Fits by.log (caller [] count [] ∷ []) = subst (λ ps. Fits by.log ps) split by.stood.1 in
      record {
        log = by.log;
        comes = by.comes;
        each = each_by_number by.log table 0 workers befores afters seated served
            (recursion_from_All (StoodIn by.log) (views_of afters) by.others_stood);
        only = nobody_else count by.log (first.callers ++ callers_of (views_of afters)) same fits.0.0
            (by.only (returned_same (caller [] count [] ∷ children_row 0 count) (first.callers ++ callers_of (views_of afters)) same
            (row_returned count [])));
      }
