-- Many calls of one pass, and the history of two passes that made all calls.
use Rattle.std.specs.Prelude.{◌≡◌, ◌≢◌, ℕ, List, [], ◌∷◌, ◌++◌}
use Rattle.turn_lock.specs.declared.object.Entry.{Entry}
use Rattle.turn_lock.specs.declared.object.Caller.{Caller}
use Rattle.turn_lock.specs.declared.object.View.{View}
use Rattle.turn_lock.specs.History.{entry, caller, calls_by, StartsWith}

module _ {A B : Type 0} where
  -- the calls of one caller, with their answers
  abbrev pub entries : List ℕ → List A → List B → List (Entry A B)
  entries by [] ys = []
  entries by (a ∷ xs) [] = []
  entries by (a ∷ xs) (b ∷ ys) = entry by a b ∷ entries by xs ys

  -- the own calls with these more
  abbrev pub with_calls : List A → List B → List (Caller A B) → List (Caller A B)
  with_calls xs ys [] = []
  with_calls xs ys (own ∷ rest) = caller own.number own.children (own.calls ++ entries own.number xs ys) ∷ rest

  -- a pass made these calls, in their order, and has seen no less
  abbrev pub Asked : {O : Type 0} → View O A B → List A → List B → View O A B → Type 0
  Asked v asks answers w =
      (w.callers ≡ with_calls asks answers v.callers) × StartsWith w.seen v.seen × (w.opening ≡ v.opening)

  -- the first caller made one list of calls, the pass split from it another, and nobody else any
  abbrev pub HasBoth : List (Entry A B) → List A → List B → List A → List B → Type 0
  HasBoth log left left_answers right right_answers =
      (calls_by [] log ≡ entries [] left left_answers) × (calls_by (0 ∷ []) log ≡ entries (0 ∷ []) right right_answers)
      × ((q : List ℕ) → q ≢ [] → q ≢ 0 ∷ [] → calls_by q log ≡ [])
