-- The rule of the lock, and what each step tells. Word 0 is the next ticket, word 1 the ticket that is served.
use Rattle.std.specs.Prelude.{◌≡◌, ◌≢◌, ℕ, ◌+◌, ◌^◌, ◌<◌, ◌≤◌, Option, List, [], ◌∷◌, ◌++◌, length, slice_index, Some, None, true, false}
use mathlib.Core.Option.{Option as Slot, some, none}
use lib.ListN.{get_elem?}
use Rattle.atomic_table.specs.Table.{State, Me, Step}
use Rattle.std.specs.declared.snapshot.Snapshot.{Snapshot}
use Rattle.turn_lock.specs.declared.object.Entry.{Entry}
use Rattle.turn_lock.specs.declared.object.Caller.{Caller}
use Rattle.turn_lock.specs.declared.object.View.{View}
use Rattle.turn_lock.specs.declared.steps.Held.{Held}
use Rattle.turn_lock.specs.declared.steps.Held.TheVariants.{Home, Call}
use Rattle.turn_lock.specs.History.{entry, StartsWith, longer, Fits, is_live, own_number, with_call, owns_all, idle, IsLegal}

-- how many tickets these are
abbrev pub ticket_count : Option ℕ → ℕ
ticket_count None = 0
ticket_count (Some t) = 1

module _ {O A B : Type 0} where
  -- how many views have a ticket
  abbrev pub tickets : List (View O A B) → ℕ
  tickets [] = 0
  tickets (v ∷ vs) = ticket_count v.ticket + tickets vs

  -- how many callers of the views have a number as theirs, or may still give it
  abbrev pub owns_views : List (View O A B) → List ℕ → ℕ
  owns_views [] q = 0
  owns_views (v ∷ vs) q = owns_all v.callers q + owns_views vs q

  -- a view with a ticket
  abbrev pub waits : Option O → ℕ → List (Entry A B) → List (Caller A B) → View O A B
  waits opening t seen callers = record { opening = opening; ticket = Some t; turn = false; seen = seen; told = []; callers = callers }

  -- a view with the turn
  abbrev pub has_turn : Option O → ℕ → List (Entry A B) → List (Caller A B) → View O A B
  has_turn opening t seen callers = record { opening = opening; ticket = Some t; turn = true; seen = seen; told = []; callers = callers }

  -- a view that was told of a second history
  abbrev pub meets : Option O → List (Entry A B) → List (Entry A B) → List (Caller A B) → View O A B
  meets opening seen told callers = record { opening = opening; ticket = None; turn = false; seen = seen; told = told; callers = callers }

module _ {O A B : Type 0} (stands : O → List (Entry A B) → Type 0) (opening : O) where
  -- the slot holds an object that stands for this history
  abbrev pub IsHome : List (Entry A B) → List (Slot (Held O A B)) → Type 0
  IsHome log homes = (o : O) × (get_elem? homes 0 ≡ some (some (Home o))) × stands o log

  -- the next ticket, the ticket that is served, the slot, the views and one history agree
  pub record Agrees (next served : ℕ) (homes : List (Slot (Held O A B))) (views : List (View O A B)) : Type 0 where
    pub log : List (Entry A B)
    pub small : next < 2 ^ 64
    pub behind : served ≤ next
    pub counted : served + tickets views ≡ next
    pub within : (i t : ℕ) (v : View O A B) → get_elem? views i ≡ some v → v.ticket ≡ Some t → (served ≤ t) × (t < next)
    pub apart : (i j t : ℕ) (v w : View O A B) → get_elem? views i ≡ some v → get_elem? views j ≡ some w
        → v.ticket ≡ Some t → w.ticket ≡ Some t → i ≡ j
    pub turn : (i : ℕ) (v : View O A B) → get_elem? views i ≡ some v → v.turn ≡ true → v.ticket ≡ Some served
    pub opened : (i : ℕ) (v : View O A B) → get_elem? views i ≡ some v → is_live v.callers ≡ true → v.opening ≡ Some opening
    pub seen : (i : ℕ) (v : View O A B) → get_elem? views i ≡ some v → StartsWith log v.seen × StartsWith log v.told
    pub whole : (i : ℕ) (v : View O A B) → get_elem? views i ≡ some v → v.turn ≡ true → log ≡ v.seen
    pub fits : (i : ℕ) (v : View O A B) → get_elem? views i ≡ some v → Fits log v.callers
    pub once : (q : List ℕ) → owns_views views q ≡ 1
    pub legal : IsLegal stands log
    pub out : (i : ℕ) (v : View O A B) → get_elem? views i ≡ some v → v.turn ≡ true → get_elem? homes 0 ≡ some none
    pub home : ((i : ℕ) (v : View O A B) → get_elem? views i ≡ some v → v.turn ≡ false) → IsHome log homes

  -- two words and one slot, which agree with the views and one history
  pub record Keeps (s : State (Held O A B) (View O A B)) : Type 0 where
    pub two : length s.words ≡ 2
    pub one : length s.homes ≡ 1
    pub at : Agrees (slice_index s.words 0) (slice_index s.words 1) s.homes s.views

module _ {O A B : Type 0} (stands : O → List (Entry A B) → Type 0) where
  -- the slot is taken if the ticket is served, and all the history is seen
  abbrev pub Looked : Step (Held O A B) → Me (Held O A B) (View O A B) → ℕ → Me (Held O A B) (View O A B) → Type 0
  Looked st me found me' =
      (me.0.ticket ≡ Some found → (o : O) × (between : List (Entry A B))
      × (me' ≡ (has_turn me.0.opening found (me.0.seen ++ between) me.0.callers, (0, Home o) ∷ me.1))
      × stands o (me.0.seen ++ between) × Fits (me.0.seen ++ between) me.0.callers)
      × (me.0.ticket ≢ Some found → me' ≡ me)

  -- both histories begin one legal history, in which the calls stand
  abbrev pub Learned : Step (Held O A B) → Me (Held O A B) (View O A B) → ℕ → Me (Held O A B) (View O A B) → Type 0
  Learned st me found me' =
      (me' ≡ (idle me.0.opening (longer me.0.seen me.0.told) me.0.callers, me.1))
      × StartsWith (longer me.0.seen me.0.told) me.0.seen × StartsWith (longer me.0.seen me.0.told) me.0.told
      × ((log : List (Entry A B)) × StartsWith log (longer me.0.seen me.0.told) × Fits log me.0.callers × IsLegal stands log)
      × ((q : List ℕ) → owns_all me.0.callers q ≤ 1)

module _ {O A B : Type 0} where
  -- a ticket is drawn if the word was as expected
  abbrev pub Drew : Step (Held O A B) → Me (Held O A B) (View O A B) → ℕ → Me (Held O A B) (View O A B) → Type 0
  Drew st me found me' =
      (found ≡ st.first → me' ≡ (waits me.0.opening found me.0.seen me.0.callers, me.1)) × (found ≢ st.first → me' ≡ me)

  -- the ticket is spent, and the call that was said stands last in the history
  abbrev pub Ended : Step (Held O A B) → Me (Held O A B) (View O A B) → ℕ → Me (Held O A B) (View O A B) → Type 0
  Ended st me found me' = (a : Snapshot A) (b : Snapshot B) → st.said ≡ some (Call a b) →
      (me' ≡ (
        idle me.0.opening (me.0.seen ++ entry (own_number me.0.callers) a.value b.value ∷ [])
            (with_call a.value b.value me.0.callers),
        [],
      ))
      × Fits (me.0.seen ++ entry (own_number me.0.callers) a.value b.value ∷ []) (with_call a.value b.value me.0.callers)
