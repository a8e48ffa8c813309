-- What a locked store has come through.
--     Comes old log new      the calls of this history, whoever made each, lead from one store to the other
--     IsOpening store view      the pass is the first of a lock round this store
--     ComesOfAll view others new      the store came from that of the lock's opening by one history of all calls
use Rattle.std.specs.Prelude.{◌≡◌, List, [], ◌∷◌, ◌++◌, Some, IfOk, All}
use Rattle.disk_trait.specs.declared.disk.Disk.{Ghosts as DiskGhosts}
use Rattle.pool_name.specs.declared.namer.Namer.{Ghosts as NamerGhosts}
use Rattle.office_model.specs.declared.event.Event.{Event}
use Rattle.office_model.specs.Meaning.{Reply}
use Rattle.office_model.specs.Step.{Call, IsAnswerTo}
use Rattle.office_store.specs.declared.store.Store.{Store}
use Rattle.office_store.specs.Moves.{Moves}
use Rattle.turn_lock.specs.declared.object.Entry.{Entry}
use Rattle.turn_lock.specs.declared.object.View.{View}
use Rattle.turn_lock.specs.History.{caller, StoodIn, callers_of, AllReturned, NoOtherCalls}
use Rattle.turn_port.specs.declared.locked.LockedStore.{LockedStore}

-- the calls of a history, without who made them
abbrev pub calls_in : List (Entry Event Reply) → List Call
calls_in [] = []
calls_in (e ∷ rest) = (e.ask, e.answer) ∷ calls_in rest

-- each answer is of its event's kind
abbrev pub AreInKind : List (Entry Event Reply) → Type 0
AreInKind [] = Unit {0}
AreInKind (e ∷ rest) = IfOk e.answer (IsAnswerTo e.ask) × AreInKind rest

module _ {D N S : Type 0} {d : DiskGhosts D} {n : NamerGhosts N S} where
  pub record Comes (old : Store D N S d n) (log : List (Entry Event Reply)) (new : Store D N S d n) : Type 0 where
    pub moves : Moves old (calls_in log) new
    pub in_kind : AreInKind log

  -- what a locked store stands for
  abbrev pub Stands : LockedStore D N S d n → LockedStore D N S d n → List (Entry Event Reply) → Type 0
  Stands opening object log = Comes opening.store log object.store

  -- the lock was made round this store
  abbrev pub IsOf : Store D N S d n → View (LockedStore D N S d n) Event Reply → Type 0
  IsOf store v = (opening : LockedStore D N S d n) × (v.opening ≡ Some opening) × (opening.store ≡ store)

  -- and the pass is the first, which has seen no calls and made none
  abbrev pub IsOpening : Store D N S d n → View (LockedStore D N S d n) Event Reply → Type 0
  IsOpening store v = IsOf store v × (v.seen ≡ []) × (v.callers ≡ caller [] 0 [] ∷ [])

  -- There is one history of all calls, by which this store came from that one. In it each of these passes has seen a beginning,
  -- and its callers' calls are the entries of their numbers, in their order; if all passes are there, it has no other calls.
  pub record ComesBy (old : Store D N S d n) (v : View (LockedStore D N S d n) Event Reply)
      (others : List (View (LockedStore D N S d n) Event Reply)) (new : Store D N S d n) : Type 0 where
    pub log : List (Entry Event Reply)
    pub comes : Comes old log new
    pub stood : StoodIn log v
    pub others_stood : All (StoodIn log) others
    pub only : AllReturned (v.callers ++ callers_of others) → NoOtherCalls (v.callers ++ callers_of others) log

  abbrev pub ComesOfAll : View (LockedStore D N S d n) Event Reply → List (View (LockedStore D N S d n) Event Reply)
      → Store D N S d n → Type 0
  ComesOfAll v others new = (old : Store D N S d n) → IsOf old v → ComesBy old v others new
