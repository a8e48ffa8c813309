-- The calls of a pass, with their answers.
--     Knows stands view      what the pass has seen is a legal history, in which the calls of its callers stand
--     Asks stands before calls after      the pass's own calls grew by these, and it has seen no less
--     Passes stands table before calls table' after      so, and the pass is of the same lock
use Rattle.std.specs.Prelude.{◌≡◌, ◌≢◌, ℕ, List, [], ◌∷◌, ◌++◌}
use Rattle.turn_lock.specs.declared.object.Entry.{Entry}
use Rattle.turn_lock.specs.declared.object.Caller.{Caller}
use Rattle.turn_lock.specs.declared.object.View.{View}
use Rattle.turn_lock.specs.History.{entry, caller, stands_from, StartsWith, Fits, IsLegal}

module _ {A B : Type 0} where
  -- the calls of one caller
  abbrev pub entries_of : List ℕ → List (A × B) → List (Entry A B)
  entries_of by [] = []
  entries_of by (call ∷ calls) = entry by call.0 call.1 ∷ entries_of by calls

  -- the own calls with these more
  abbrev pub with_own_calls : List (A × B) → List (Caller A B) → List (Caller A B)
  with_own_calls calls [] = []
  with_own_calls calls (own ∷ rest) = caller own.number own.children (own.calls ++ entries_of own.number calls) ∷ rest

module _ {O A B : Type 0} (stands : O → O → List (Entry A B) → Type 0) where
  abbrev pub Knows : View O A B → Type 0
  Knows v = Fits v.seen v.callers × IsLegal (stands_from stands v.opening) v.seen

  -- The pass's own calls are those that it had made and these, in this order, each with its answer. What it has seen begins
  -- with what it had seen, and the opening is the same. After a call it knows a legal history, and it forgets none.
  pub record Asks (v : View O A B) (calls : List (A × B)) (w : View O A B) : Type 0 where
    pub own : w.callers ≡ with_own_calls calls v.callers
    pub later : StartsWith w.seen v.seen
    pub opening : w.opening ≡ v.opening
    pub told : calls ≢ [] → Knows w
    pub kept : Knows v → Knows w

  abbrev pub Passes : {X : Type 0} → X → View O A B → List (A × B) → X → View O A B → Type 0
  Passes table v calls table' w = (table' ≡ table) × Asks v calls w
