-- Callers, the history of their calls, and what a pass knows of it.
-- A caller's number is a list: the first caller's is empty, and that of the k-th pass split from a caller is the caller's with k behind it.
use Rattle.std.specs.Prelude.{◌≡◌, ◌≢◌, ℕ, ◌+◌, ◌<◌, ◌≤◌, ◌==◌, ltb, cond, Option, List, [], ◌∷◌, ◌++◌, length, Some, None, true, false, Bool}
use Rattle.std.specs.Prelude.{All}
use Rattle.turn_lock.specs.declared.object.Entry.{Entry}
use Rattle.turn_lock.specs.declared.object.Caller.{Caller}
use Rattle.turn_lock.specs.declared.object.View.{View}

-- whether two numbers of callers are one
abbrev pub same_number : List ℕ → List ℕ → Bool
same_number [] [] = true
same_number [] (y ∷ q) = false
same_number (x ∷ p) [] = false
same_number (x ∷ p) (y ∷ q) = cond (x == y) (same_number p q) false

-- 1 for the number of a caller and for each number that it may still give, directly or through others, once it has so many children
abbrev pub owns : List ℕ → ℕ → List ℕ → ℕ
owns [] children [] = 1
owns [] children (k ∷ q) = cond (ltb k children) 0 1
owns (x ∷ p) children [] = 0
owns (x ∷ p) children (y ∷ q) = cond (x == y) (owns p children q) 0

-- what an object stands for from an opening, if there is one
abbrev pub stands_from : {O A B : Type 0} → (O → O → List (Entry A B) → Type 0) → Option O → O → List (Entry A B) → Type 0
stands_from stands None o log = ⊥
stands_from stands (Some opening) o log = stands opening o log

module _ {A B : Type 0} where
  -- one call of a caller
  abbrev pub entry : List ℕ → A → B → Entry A B
  entry by ask answer = record { caller = by; ask = ask; answer = answer }

  -- the calls of one caller
  abbrev pub calls_by : List ℕ → List (Entry A B) → List (Entry A B)
  calls_by by [] = []
  calls_by by (e ∷ rest) = cond (same_number e.caller by) (e ∷ calls_by by rest) (calls_by by rest)

  -- the history begins with what was seen
  abbrev pub StartsWith : List (Entry A B) → List (Entry A B) → Type 0
  StartsWith log seen = (later : List (Entry A B)) × (log ≡ seen ++ later)

  -- the longer of two histories
  abbrev pub longer : List (Entry A B) → List (Entry A B) → List (Entry A B)
  longer xs ys = cond (ltb (length xs) (length ys)) ys xs

  -- a caller: its number, how many passes were split from its pass, and its calls
  abbrev pub caller : List ℕ → ℕ → List (Entry A B) → Caller A B
  caller number children calls = record { number = number; children = children; calls = calls }

  -- a caller's calls are the entries of its number, and the numbers that it may still give have none
  abbrev pub FitsCaller : List (Entry A B) → Caller A B → Type 0
  FitsCaller log p = (calls_by p.number log ≡ p.calls)
      × ((q : List ℕ) → owns p.number p.children q ≡ 1 → q ≢ p.number → calls_by q log ≡ [])

  -- each of these callers' calls are the entries of its number
  abbrev pub Fits : List (Entry A B) → List (Caller A B) → Type 0
  Fits log [] = Unit {0}
  Fits log (p ∷ ps) = FitsCaller log p × Fits log ps

  -- the first of a pass's callers is its own
  abbrev pub is_live : List (Caller A B) → Bool
  is_live [] = false
  is_live (own ∷ rest) = true

  -- the number of a pass's own caller
  abbrev pub own_number : List (Caller A B) → List ℕ
  own_number [] = []
  own_number (own ∷ rest) = own.number

  -- the own calls with one more
  abbrev pub with_call : A → B → List (Caller A B) → List (Caller A B)
  with_call ask answer [] = []
  with_call ask answer (own ∷ rest) = caller own.number own.children (own.calls ++ entry own.number ask answer ∷ []) ∷ rest

  -- one more number was given
  abbrev pub with_child : List (Caller A B) → List (Caller A B)
  with_child [] = []
  with_child (own ∷ rest) = caller own.number (own.children + 1) own.calls ∷ rest

  -- the caller that has this number
  abbrev pub new_child : List (Caller A B) → List (Caller A B)
  new_child [] = []
  new_child (own ∷ rest) = caller (own.number ++ own.children ∷ []) 0 [] ∷ []

  -- how many of the callers have a number as theirs, or may still give it
  abbrev pub owns_all : List (Caller A B) → List ℕ → ℕ
  owns_all [] q = 0
  owns_all (p ∷ ps) q = owns p.number p.children q + owns_all ps q

  -- a number is that of one of the callers
  abbrev pub has_number : List (Caller A B) → List ℕ → Bool
  has_number [] q = false
  has_number (p ∷ ps) q = cond (same_number p.number q) true (has_number ps q)

  -- each number that these callers gave is there
  abbrev pub HasChildren : List (Caller A B) → List (Caller A B) → Type 0
  HasChildren all [] = Unit {0}
  HasChildren all (p ∷ ps) = ((k : ℕ) → k < p.children → has_number all (p.number ++ k ∷ []) ≡ true) × HasChildren all ps

  -- the first caller is there, and each that was split from one that is there
  abbrev pub AllReturned : List (Caller A B) → Type 0
  AllReturned all = (has_number all [] ≡ true) × HasChildren all all

  -- the history has no calls but theirs
  abbrev pub NoOtherCalls : List (Caller A B) → List (Entry A B) → Type 0
  NoOtherCalls all log = (q : List ℕ) → has_number all q ≡ false → calls_by q log ≡ []

module _ {O A B : Type 0} where
  -- a pass between calls: neither a ticket nor the turn
  abbrev pub idle : Option O → List (Entry A B) → List (Caller A B) → View O A B
  idle opening seen callers = record { opening = opening; ticket = None; turn = false; seen = seen; told = []; callers = callers }

  -- what a pass has seen begins the history, in which its callers' calls stand
  abbrev pub StoodIn : List (Entry A B) → View O A B → Type 0
  StoodIn log v = StartsWith log v.seen × Fits log v.callers

  -- the callers of several passes
  abbrev pub callers_of : List (View O A B) → List (Caller A B)
  callers_of [] = []
  callers_of (v ∷ vs) = v.callers ++ callers_of vs

module _ {O A B : Type 0} (stands : O → List (Entry A B) → Type 0) where
  -- some object stands for this history
  abbrev pub IsLegal : List (Entry A B) → Type 0
  IsLegal log = (o : O) × stands o log

module _ {O A B : Type 0} (stands : O → O → List (Entry A B) → Type 0) where
  -- a call: a legal history, which begins with what was seen, ends with the call and has the pass's calls, each once, was then seen
  abbrev pub Extends : View O A B → A → B → View O A B → Type 0
  Extends v ask answer w =
      (between : List (Entry A B)) × (w.seen ≡ (v.seen ++ between) ++ entry (own_number v.callers) ask answer ∷ [])
      × (w.callers ≡ with_call ask answer v.callers) × Fits w.seen w.callers × IsLegal (stands_from stands v.opening) w.seen
      × (w.opening ≡ v.opening)

  -- two passes met: both stood in one legal history; the first has seen the longer one, and the callers of both, no number twice
  abbrev pub Met : View O A B → View O A B → View O A B → Type 0
  Met v w u =
      (u.seen ≡ longer v.seen w.seen) × StartsWith u.seen v.seen × StartsWith u.seen w.seen × (u.callers ≡ v.callers ++ w.callers)
      × ((log : List (Entry A B)) × StartsWith log u.seen × Fits log u.callers × IsLegal (stands_from stands v.opening) log)
      × (u.opening ≡ v.opening) × ((q : List ℕ) → owns_all u.callers q ≤ 1)

  -- an object stands for a whole history: these passes stood in it, and if all are there it has no other calls
  abbrev pub StandsForAll : View O A B → List (View O A B) → O → Type 0
  StandsForAll v others o =
      (log : List (Entry A B)) × stands_from stands v.opening o log × StoodIn log v × All (StoodIn log) others
      × (AllReturned (v.callers ++ callers_of others) → NoOtherCalls (v.callers ++ callers_of others) log)
