-- The laws of `Comes`: no calls, one more call, and the kind of the last answer; and from the lock's test of all calls.
--     Comes-none, Comes-more, last_in_kind, ComesOfAll-of
use Rattle.std.specs.Prelude.{◌++◌, IfOk}
use Rattle.std.proofs.Common.{◌≡◌, ℕ, List, [], ◌∷◌, Option, Some, None, refl, sym, ap, subst}
use Rattle.disk_trait.specs.declared.disk.Disk.{Ghosts as DiskGhosts}
use Rattle.pool_name.specs.declared.namer.Namer.{Ghosts as NamerGhosts}
use Rattle.office_model.specs.declared.event.Event.{Event}
use Rattle.office_model.specs.Meaning.{Reply}
use Rattle.office_model.specs.Step.{Call, IsAnswerTo}
use Rattle.office_store.specs.declared.store.Store.{Store}
use Rattle.office_store.specs.Serves.{Serves}
use Rattle.office_store.specs.Moves.{Moves}
use Rattle.office_store.specs.MovesLaws.{Moves-none, Moves-one, Moves-append}
use Rattle.turn_lock.specs.declared.object.Entry.{Entry}
use Rattle.turn_lock.specs.declared.object.View.{View}
use Rattle.turn_lock.specs.History.{entry, stands_from, IsLegal, StandsForAll}
use Rattle.turn_port.specs.declared.locked.LockedStore.{LockedStore}
use Rattle.turn_port.specs.Comes.{calls_in, AreInKind, Comes, Stands, ComesOfAll}

calls_append : (xs ys : List (Entry Event Reply)) → calls_in (xs ++ ys) ≡ calls_in xs ++ calls_in ys
calls_append [] ys = refl
calls_append (x ∷ xs) ys = ap (λ (l : List Call). (x.ask, x.answer) ∷ l) (calls_append xs ys)

in_kind_more : (log : List (Entry Event Reply)) (e : Entry Event Reply) → AreInKind log → IfOk e.answer (IsAnswerTo e.ask)
    → AreInKind (log ++ e ∷ [])
in_kind_more [] e all is = (is, tt)
in_kind_more (x ∷ log) e all is = (all.0, in_kind_more log e all.1 is)

in_kind_last : (log : List (Entry Event Reply)) (e : Entry Event Reply) → AreInKind (log ++ e ∷ []) → IfOk e.answer (IsAnswerTo e.ask)
in_kind_last [] e all = all.0
in_kind_last (x ∷ log) e all = in_kind_last log e all.1

module _ {D N S : Type 0} {d : DiskGhosts D} {n : NamerGhosts N S} where
  pub Comes-none : (store : Store D N S d n) → Comes store [] store
  Comes-none store = record { moves = Moves-none store; in_kind = tt }

  -- one more call, of any caller
  pub Comes-more : (old mid new : Store D N S d n) (log : List (Entry Event Reply)) (by : List ℕ) (event : Event) (reply : Reply)
      → Comes old log mid → Serves mid event reply new → Comes old (log ++ entry by event reply ∷ []) new
  Comes-more old mid new log by event reply comes serves = record {
    moves = subst (λ (calls : List Call). Moves old calls new) (sym (calls_append log (entry by event reply ∷ [])))
        (Moves-append old mid new (calls_in log) ((event, reply) ∷ []) comes.moves (Moves-one mid new event reply serves));
    in_kind = in_kind_more log (entry by event reply) comes.in_kind serves.in_kind;
  }

  kind_from : (p : Option (LockedStore D N S d n)) (o : LockedStore D N S d n) (log : List (Entry Event Reply)) (e : Entry Event Reply)
      → stands_from Stands p o (log ++ e ∷ []) → IfOk e.answer (IsAnswerTo e.ask)
  kind_from None o log e stands = absurd stands
  kind_from (Some opening) o log e stands = in_kind_last log e stands.in_kind

  -- the last answer of a legal history is of its event's kind
  pub last_in_kind : (p : Option (LockedStore D N S d n)) (before seen log : List (Entry Event Reply)) (by : List ℕ) (event : Event)
      (reply : Reply) → log ≡ (before ++ seen) ++ entry by event reply ∷ [] → IsLegal (stands_from Stands p) log
      → IfOk reply (IsAnswerTo event)
  last_in_kind p before seen log by event reply is legal =
      kind_from p legal.0 (before ++ seen) (entry by event reply)
      (subst (λ (l : List (Entry Event Reply)). stands_from Stands p legal.0 l) is legal.1)

  -- where a locked store stands for all calls, its store came by them
  pub ComesOfAll-of : (v : View (LockedStore D N S d n) Event Reply) (others : List (View (LockedStore D N S d n) Event Reply))
      (o : LockedStore D N S d n) (new : Store D N S d n) → StandsForAll Stands v others o → o.store ≡ new → ComesOfAll v others new
  ComesOfAll-of v others o new all is old opened =
      let stands : Stands opened.0 o all.0 =
      subst (λ (p : Option (LockedStore D N S d n)). stands_from Stands p o all.0) opened.1 all.1 in
      let from_old : Comes old all.0 o.store = subst (λ (s : Store D N S d n). Comes s all.0 o.store) opened.2 stands in
      record {
        log = all.0;
        comes = subst (λ (s : Store D N S d n). Comes old all.0 s) is from_old;
        stood = all.2;
        others_stood = all.3;
        only = all.4;
      }
