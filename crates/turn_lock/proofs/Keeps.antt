-- Each step keeps the rule of the lock.
use Rattle.std.proofs.Common.{◌≡◌, ◌≢◌, ◌⊎◌, inl, inr, ⊎_elim, ℕ, zero, suc, ◌+◌, ◌^◌, ◌<◌, List, [], ◌∷◌, ◌++◌, length, slice_index, set}
use Rattle.std.proofs.Common.{Bool, true, false, true≢false, Option, Some, None, refl, sym, ap, subst, ◌∙◌, arith, eqb}
use Rattle.std.proofs.Common.{length-set, append_assoc, append-nil, get_or-set_same, get_or-set_other}
use mathlib.Core.Logic.{dite}
use native.Mathlib.Decide.{ℕ_discrete}
use mathlib.Core.Option.{Option as Slot, none, some, some-injective, some-ne-none}
use lib.ListN.{get_elem?}
use prog.Atomic.{either}
use Rattle.atomic_table.specs.Table.{State, Act, keeps, takes, gives, opening, step, stepped, Allows, Splits, Joins, Valid, carried_after}
use Rattle.atomic_table.proofs.Lists.{at_set, set_here, set_else, set_again, exchanged, at_longer}
use Rattle.std.specs.declared.snapshot.Snapshot.{Snapshot}
use Rattle.turn_lock.specs.declared.object.Entry.{Entry}
use Rattle.turn_lock.specs.declared.object.Caller.{Caller}
use Rattle.turn_lock.specs.declared.object.View.{View}
use Rattle.turn_lock.specs.declared.steps.Held.{Held}
use Rattle.turn_lock.specs.declared.steps.Held.TheVariants.{Home, Out, Call}
use Rattle.turn_lock.specs.History.{entry, caller, idle, stands_from, owns_all, own_number, with_call, with_child}
use Rattle.turn_lock.specs.History.{new_child, longer, is_live, Fits, StartsWith}
use Rattle.turn_lock.specs.Rule.{waits, has_turn, meets, owns_views, tickets, IsHome, Agrees, Keeps, Drew, Looked, Learned, Ended}
use Rattle.turn_lock.proofs.Callers.{fits_else, fits_append, caller_more, caller_with_child, caller_new, owns_set, owns_snoc, owns_append}
use Rattle.turn_lock.proofs.Callers.{owns_at, owns_two, owns_own, owns_split, longer_one, longer_both, any_owned, tickets_set}
use Rattle.turn_lock.proofs.Callers.{tickets_snoc}

same_ticket : (a b : ℕ) → Some a ≡ Some b → a ≡ b
same_ticket a b e = cc e

inside : {A : Type 0} (l : List A) (i : ℕ) (a : A) → get_elem? l i ≡ some a → i < length l
inside [] i a e = absurd (some-ne-none a (sym e))
inside (x ∷ xs) zero a e = omega arith
inside (x ∷ xs) (suc i) a e = let n = inside xs i a e in omega (arith, n)

at_end : {A : Type 0} (l : List A) (a b : A) (j : ℕ) → get_elem? (l ++ a ∷ []) j ≡ some b → (get_elem? l j ≡ some b)
    ⊎ ((j ≡ length l) × (a ≡ b))
at_end [] a b zero e = inr (refl, some-injective a b e)
at_end [] a b (suc j) e = absurd (some-ne-none b (sym e))
at_end (x ∷ xs) a b zero e = inl e
at_end (x ∷ xs) a b (suc j) e = ⊎_elim (λ old. inl old) (λ new. inr (ap suc new.0, new.1)) (at_end xs a b j e)

module _ {O A B : Type 0} where
  no_turn : (v : View O A B) (b : Bool) → v.turn ≡ b → (v.turn ≡ true → ⊥) → v.turn ≡ false
  no_turn v true is not = absurd (not is)
  no_turn v false is not = is

object_of : {O A B : Type 0} → O → Held O A B → O
object_of d (Home o) = o
object_of d Out = d
object_of d (Call a b) = d

object_in : {O A B : Type 0} → O → List (ℕ × Held O A B) → O
object_in d [] = d
object_in d (x ∷ rest) = object_of d x.1

pub same_home : {O A B : Type 0} (o o' : O) → ◌≡◌ {A = List (ℕ × Held O A B)} ((0, Home o) ∷ []) ((0, Home o') ∷ []) → o ≡ o'
unfolding object_in object_of
same_home o o' e = ap (object_in o) e

starts_later : {A B : Type 0} (log seen more : List (Entry A B)) → StartsWith log seen → StartsWith (log ++ more) seen
starts_later log seen more s = (s.0 ++ more, ap (λ l. l ++ more) s.1 ∙ append_assoc seen s.0 more)

module _ {O A B : Type 0} (stands : O → List (Entry A B) → Type 0) (from : O) where
  -- a ticket is drawn
  drawn : (next served id : ℕ) (p : Option O) (seen : List (Entry A B)) (callers : List (Caller A B)) (homes : List (Slot (Held O A B)))
      (views : List (View O A B)) → Agrees stands from next served homes views
      → get_elem? views id ≡ some (idle p seen callers) → next + 1 < 2 ^ 64
      → Agrees stands from (next + 1) served homes (set views id (waits p next seen callers))
  drawn next served id p seen callers homes views k at fits = record {
    log = k.log;
    small = fits;
    behind = omega (arith, k.behind);
    counted = let c = k.counted in let t = tickets_set views id (idle p seen callers) (waits p next seen callers) at in omega (arith, c, t);
    within = λ i t v got is. ⊎_elim
        (λ same. let e : next ≡ t = same_ticket next t (ap (λ (w : View O A B). w.ticket) same.1 ∙ is) in
        (omega (arith, e, k.behind), omega (arith, e)))
        (λ other. let w = k.within i t v other.1 is in (w.0, omega (arith, w.1)))
        (at_set views id i (waits p next seen callers) v got);
    apart = λ i j t v w got got' is is'. ⊎_elim
        (λ here. ⊎_elim
        (λ here'. here.0 ∙ sym here'.0)
        (λ other'.
        let e : next ≡ t = same_ticket next t (ap (λ (u : View O A B). u.ticket) here.1 ∙ is) in
        let low = k.within j t w other'.1 is' in absurd (omega (arith, e, low.1)))
        (at_set views id j (waits p next seen callers) w got'))
        (λ other. ⊎_elim
        (λ here'.
        let e : next ≡ t = same_ticket next t (ap (λ (u : View O A B). u.ticket) here'.1 ∙ is') in
        let low = k.within i t v other.1 is in absurd (omega (arith, e, low.1)))
        (λ other'. k.apart i j t v w other.1 other'.1 is is')
        (at_set views id j (waits p next seen callers) w got'))
        (at_set views id i (waits p next seen callers) v got);
    turn = λ i v got yes. ⊎_elim
        (λ same. cc (ap (λ (w : View O A B). w.turn) same.1 ∙ yes))
        (λ other. k.turn i v other.1 yes)
        (at_set views id i (waits p next seen callers) v got);
    opened = λ i v got live. ⊎_elim
        (λ same. ap (λ (w : View O A B). w.opening) (sym same.1) ∙ k.opened id (idle p seen callers) at
        (ap (λ (w : View O A B). is_live w.callers) same.1 ∙ live))
        (λ other. k.opened i v other.1 live)
        (at_set views id i (waits p next seen callers) v got);
    seen = λ i v got. ⊎_elim
        (λ same. subst (λ (w : View O A B). StartsWith k.log w.seen × StartsWith k.log w.told) same.1 (k.seen id (idle p seen callers) at))
        (λ other. k.seen i v other.1)
        (at_set views id i (waits p next seen callers) v got);
    whole = λ i v got yes. ⊎_elim
        (λ same. cc (ap (λ (w : View O A B). w.turn) same.1 ∙ yes))
        (λ other. k.whole i v other.1 yes)
        (at_set views id i (waits p next seen callers) v got);
    fits = λ i v got. ⊎_elim
        (λ same. subst (λ (w : View O A B). Fits k.log w.callers) same.1 (k.fits id (idle p seen callers) at))
        (λ other. k.fits i v other.1)
        (at_set views id i (waits p next seen callers) v got);
    once = λ q. let o = k.once q in let t = owns_set views id (idle p seen callers) (waits p next seen callers) q at in omega (arith, o, t);
    legal = k.legal;
    out = λ i v got yes. ⊎_elim
        (λ same. cc (ap (λ (w : View O A B). w.turn) same.1 ∙ yes))
        (λ other. k.out i v other.1 yes)
        (at_set views id i (waits p next seen callers) v got);
    home = λ none_has. k.home (λ i v got. dite (ℕ_discrete i id)
        (λ here. ap (λ (w : View O A B). w.turn) (some-injective v (idle p seen callers) (sym got ∙ ap (get_elem? views) here ∙ at)))
        (λ other. none_has i v (set_else views id i (waits p next seen callers) other ∙ got)));
  }

  -- the ticket is served, and the slot leaves
  served_now : (next served id : ℕ) (p : Option O) (seen : List (Entry A B)) (callers : List (Caller A B))
      (homes : List (Slot (Held O A B))) (views : List (View O A B)) → (k : Agrees stands from next served homes views)
      → get_elem? views id ≡ some (waits p served seen callers) → (between : List (Entry A B)) → k.log ≡ seen ++ between
      → IsHome stands from (seen ++ between) homes × Agrees stands from next served (set homes 0 none)
      (set views id (has_turn p served (seen ++ between) callers))
  served_now next served id p seen callers homes views k at between all = let here : IsHome stands from k.log homes =
      k.home (λ i v got. no_turn v v.turn refl (λ yes.
      let here = k.apart i id served v (waits p served seen callers) got at (k.turn i v got yes) refl in
      let same = some-injective v (waits p served seen callers) (sym got ∙ ap (get_elem? views) here ∙ at) in
      cc (sym yes ∙ ap (λ (w : View O A B). w.turn) same))) in (
        subst (λ l. IsHome stands from l homes) all here,
        record {
          log = k.log;
          small = k.small;
          behind = k.behind;
          counted = let c = k.counted in let t = tickets_set views id (waits p served seen callers)
              (has_turn p served (seen ++ between) callers) at in omega (arith, c, t);
          within = λ i t v got is. ⊎_elim
              (λ same. k.within id t (waits p served seen callers) at (ap (λ (w : View O A B). w.ticket) same.1 ∙ is))
              (λ other. k.within i t v other.1 is)
              (at_set views id i (has_turn p served (seen ++ between) callers) v got);
          apart = λ i j t v w got got' is is'. ⊎_elim
              (λ here. ⊎_elim
              (λ here'. here.0 ∙ sym here'.0)
              (λ other'. here.0 ∙ k.apart id j t (waits p served seen callers) w at other'.1
              (ap (λ (u : View O A B). u.ticket) here.1 ∙ is) is')
              (at_set views id j (has_turn p served (seen ++ between) callers) w got'))
              (λ other. ⊎_elim
              (λ here'. k.apart i id t v (waits p served seen callers) other.1 at is (ap (λ (u : View O A B). u.ticket) here'.1 ∙ is')
              ∙ sym here'.0)
              (λ other'. k.apart i j t v w other.1 other'.1 is is')
              (at_set views id j (has_turn p served (seen ++ between) callers) w got'))
              (at_set views id i (has_turn p served (seen ++ between) callers) v got);
          turn = λ i v got yes. ⊎_elim
              (λ same. sym (ap (λ (w : View O A B). w.ticket) same.1))
              (λ other. k.turn i v other.1 yes)
              (at_set views id i (has_turn p served (seen ++ between) callers) v got);
          opened = λ i v got live. ⊎_elim
              (λ same. ap (λ (w : View O A B). w.opening) (sym same.1)
              ∙ k.opened id (waits p served seen callers) at (ap (λ (w : View O A B). is_live w.callers) same.1 ∙ live))
              (λ other. k.opened i v other.1 live)
              (at_set views id i (has_turn p served (seen ++ between) callers) v got);
          seen = λ i v got. ⊎_elim
              (λ same. subst (λ (w : View O A B). StartsWith k.log w.seen × StartsWith k.log w.told) same.1
              (([], all ∙ sym (append-nil (seen ++ between))), (k.log, refl)))
              (λ other. k.seen i v other.1)
              (at_set views id i (has_turn p served (seen ++ between) callers) v got);
          whole = λ i v got yes. ⊎_elim
              (λ same. all ∙ ap (λ (w : View O A B). w.seen) same.1)
              (λ other. k.whole i v other.1 yes)
              (at_set views id i (has_turn p served (seen ++ between) callers) v got);
          fits = λ i v got. ⊎_elim
              (λ same. subst (λ (w : View O A B). Fits k.log w.callers) same.1 (k.fits id (waits p served seen callers) at))
              (λ other. k.fits i v other.1)
              (at_set views id i (has_turn p served (seen ++ between) callers) v got);
          once = λ q. let o = k.once q in let t = owns_set views id (waits p served seen callers)
              (has_turn p served (seen ++ between) callers) q at in omega (arith, o, t);
          legal = k.legal;
          out = λ i v got yes. set_here homes 0 none (inside homes 0 (some (Home here.0)) here.1);
          home = λ none_has. cc (none_has id (has_turn p served (seen ++ between) callers)
              (set_here views id (has_turn p served (seen ++ between) callers) (inside views id (waits p served seen callers) at)));
        },
      )

  -- the slot comes back with one more call, and the next ticket is served
  served_next : (next served id : ℕ) (p : Option O) (seen : List (Entry A B)) (own : Caller A B) (rest : List (Caller A B)) (a : A) (b : B)
      (o : O) (homes : List (Slot (Held O A B))) (views : List (View O A B)) → (k : Agrees stands from next served homes views)
      → get_elem? views id ≡ some (has_turn p served seen (own ∷ rest)) → length homes ≡ 1
      → stands o (seen ++ entry own.number a b ∷ [])
      → Fits (seen ++ entry own.number a b ∷ []) (with_call a b (own ∷ rest))
      × Agrees stands from next (served + 1) (set homes 0 (some (Home o)))
      (set views id (idle p (seen ++ entry own.number a b ∷ []) (with_call a b (own ∷ rest))))
  served_next next served id p seen own rest a b o homes views k at one good =
      let low = k.within id served (has_turn p served seen (own ∷ rest)) at refl in
      let e : Entry A B = entry own.number a b in
      let all : k.log ≡ seen = k.whole id (has_turn p served seen (own ∷ rest)) at refl in
      let past : k.log ++ e ∷ [] ≡ seen ++ e ∷ [] = ap (λ (l : List (Entry A B)). l ++ e ∷ []) all in
      let had : Fits k.log (own ∷ rest) = k.fits id (has_turn p served seen (own ∷ rest)) at in
      let one_own = owns_own own.number own.children in
      let total = k.once own.number in
      let most = owns_at views id (has_turn p served seen (own ∷ rest)) own.number at in
      let free : owns_all rest own.number ≡ 0 = omega (arith, one_own, total, most) in
      let more : Fits (k.log ++ e ∷ []) (with_call a b (own ∷ rest)) =
      (caller_more own a b k.log had.0, fits_else rest own.number a b k.log free had.1) in
      let new : View O A B = idle p (seen ++ e ∷ []) (with_call a b (own ∷ rest)) in (
        subst (λ (l : List (Entry A B)). Fits l (with_call a b (own ∷ rest))) past more,
        record {
          log = k.log ++ e ∷ [];
          small = k.small;
          behind = omega (arith, low.1);
          counted = let c = k.counted in let t = tickets_set views id (has_turn p served seen (own ∷ rest)) new at in omega (arith, c, t);
          within = λ i t v got is. ⊎_elim
              (λ same. cc (ap (λ (w : View O A B). w.ticket) same.1 ∙ is))
              (λ other.
              let w = k.within i t v other.1 is in
              let apart : t ≢ served = λ e. other.0 (k.apart i id t v (has_turn p served seen (own ∷ rest)) other.1 at is
              (ap Some (sym e))) in
              (omega (arith, w.0, apart), w.1))
              (at_set views id i new v got);
          apart = λ i j t v w got got' is is'. ⊎_elim
              (λ here. cc (ap (λ (u : View O A B). u.ticket) here.1 ∙ is))
              (λ other. ⊎_elim
              (λ here'. cc (ap (λ (u : View O A B). u.ticket) here'.1 ∙ is'))
              (λ other'. k.apart i j t v w other.1 other'.1 is is')
              (at_set views id j new w got'))
              (at_set views id i new v got);
          turn = λ i v got yes. ⊎_elim
              (λ same. cc (ap (λ (w : View O A B). w.turn) same.1 ∙ yes))
              (λ other. absurd (other.0 (k.apart i id served v (has_turn p served seen (own ∷ rest)) other.1 at
              (k.turn i v other.1 yes) refl)))
              (at_set views id i new v got);
          opened = λ i v got live. ⊎_elim
              (λ same. ap (λ (w : View O A B). w.opening) (sym same.1) ∙ k.opened id (has_turn p served seen (own ∷ rest)) at refl)
              (λ other. k.opened i v other.1 live)
              (at_set views id i new v got);
          seen = λ i v got. ⊎_elim
              (λ same. subst (λ (w : View O A B). StartsWith (k.log ++ e ∷ []) w.seen × StartsWith (k.log ++ e ∷ []) w.told) same.1
              (([], past ∙ sym (append-nil (seen ++ e ∷ []))), (k.log ++ e ∷ [], refl)))
              (λ other. let s = k.seen i v other.1 in (starts_later k.log v.seen (e ∷ []) s.0, starts_later k.log v.told (e ∷ []) s.1))
              (at_set views id i new v got);
          whole = λ i v got yes. ⊎_elim
              (λ same. cc (ap (λ (w : View O A B). w.turn) same.1 ∙ yes))
              (λ other. absurd (other.0 (k.apart i id served v (has_turn p served seen (own ∷ rest)) other.1 at
              (k.turn i v other.1 yes) refl)))
              (at_set views id i new v got);
          fits = λ i v got. ⊎_elim
              (λ same. subst (λ (w : View O A B). Fits (k.log ++ e ∷ []) w.callers) same.1 more)
              (λ other.
              let both = owns_two views id i (has_turn p served seen (own ∷ rest)) v own.number at other.1 other.0 in
              fits_else v.callers own.number a b k.log (omega (arith, both, one_own, total)) (k.fits i v other.1))
              (at_set views id i new v got);
          once = λ q. let o = k.once q in let t = owns_set views id (has_turn p served seen (own ∷ rest)) new q at in omega (arith, o, t);
          legal = (o, subst (stands o) (sym past) good);
          out = λ i v got yes. ⊎_elim
              (λ same. cc (ap (λ (w : View O A B). w.turn) same.1 ∙ yes))
              (λ other. absurd (other.0 (k.apart i id served v (has_turn p served seen (own ∷ rest)) other.1 at
              (k.turn i v other.1 yes) refl)))
              (at_set views id i new v got);
          home = λ _. (o, set_here homes 0 (some (Home o)) (omega (arith, one)), subst (stands o) (sym past) good);
        },
      )

  -- a view with neither a ticket nor the turn fits the history
  abbrev IsCalm : List (Entry A B) → View O A B → Type 0
  IsCalm log v = (v.ticket ≡ None) × (v.turn ≡ false) × (StartsWith log v.seen × StartsWith log v.told) × Fits log v.callers
      × (is_live v.callers ≡ true → v.opening ≡ Some from)

  -- views that have neither a ticket nor the turn are changed
  calm : (next served : ℕ) (homes : List (Slot (Held O A B))) (views views' : List (View O A B))
      → (k : Agrees stands from next served homes views)
      → ((i : ℕ) (v : View O A B) → get_elem? views' i ≡ some v → (get_elem? views i ≡ some v) ⊎ IsCalm k.log v)
      → ((q : List ℕ) → owns_views views' q ≡ 1)
      → tickets views' ≡ tickets views
      → ((i : ℕ) (v : View O A B) → get_elem? views i ≡ some v → v.turn ≡ true → get_elem? views' i ≡ some v)
      → Agrees stands from next served homes views'
  calm next served homes views views' k each once drew stays = record {
    log = k.log;
    small = k.small;
    behind = k.behind;
    counted = let c = k.counted in omega (arith, c, drew);
    within = λ i t v got is. ⊎_elim (λ old. k.within i t v old is) (λ new. cc (sym new.0 ∙ is)) (each i v got);
    apart = λ i j t v w got got' is is'. ⊎_elim
        (λ old. ⊎_elim (λ old'. k.apart i j t v w old old' is is') (λ new'. cc (sym new'.0 ∙ is')) (each j w got'))
        (λ new. cc (sym new.0 ∙ is))
        (each i v got);
    turn = λ i v got yes. ⊎_elim (λ old. k.turn i v old yes) (λ new. cc (sym new.1 ∙ yes)) (each i v got);
    opened = λ i v got live. ⊎_elim (λ old. k.opened i v old live) (λ new. new.4 live) (each i v got);
    seen = λ i v got. ⊎_elim (λ old. k.seen i v old) (λ new. new.2) (each i v got);
    whole = λ i v got yes. ⊎_elim (λ old. k.whole i v old yes) (λ new. cc (sym new.1 ∙ yes)) (each i v got);
    fits = λ i v got. ⊎_elim (λ old. k.fits i v old) (λ new. new.3) (each i v got);
    once = once;
    legal = k.legal;
    out = λ i v got yes. ⊎_elim (λ old. k.out i v old yes) (λ new. cc (sym new.1 ∙ yes)) (each i v got);
    home = λ none_has. k.home (λ i v got. no_turn v v.turn refl (λ yes. cc (sym yes ∙ none_has i v (stays i v got yes))));
  }

  idle_rests : (views : List (View O A B)) (i id : ℕ) (p : Option O) (seen : List (Entry A B)) (callers : List (Caller A B))
      (u : View O A B) → i ≡ id → get_elem? views i ≡ some u → get_elem? views id ≡ some (idle p seen callers) → u.turn ≡ true → ⊥
  idle_rests views i id p seen callers u here got at turned =
      let same : u ≡ idle p seen callers = some-injective u (idle p seen callers) (sym got ∙ ap (get_elem? views) here ∙ at) in
      cc (sym turned ∙ ap (λ (x : View O A B). x.turn) same)

  -- the words after word 0 or word 1 was written
  kept_words : (s : State (Held O A B) (View O A B)) (i n next served : ℕ) (homes : List (Slot (Held O A B))) (views : List (View O A B))
      → Keeps stands from s → length homes ≡ 1
      → slice_index (set s.words i n) 0 ≡ next → slice_index (set s.words i n) 1 ≡ served
      → Agrees stands from next served homes views → Keeps stands from record { words = set s.words i n; homes = homes; views = views }
  kept_words s i n next served homes views kept one first second at = record {
    two = length-set s.words i n ∙ kept.two;
    one = one;
    at = rw (first, second) at;
  }

  -- drawing a ticket
  pub draws : (slots id t : ℕ) (p : Option O) (seen : List (Entry A B)) (callers : List (Caller A B)) → t + 1 < 2 ^ 64
      → Allows (Keeps stands from) slots id (idle p seen callers, []) 0 (λ n. either (eqb n t) (t + 1) n)
      (Drew (step slots 0 t (t + 1) none) (idle p seen callers, []))
  draws slots id t p seen callers fits s kept len at small =
      let n = slice_index s.words 0 in
      let F : ℕ → Type 0 = λ k. (w : View O A B) × (a : Act (Held O A B)) × Valid s.homes [] a
      × Keeps stands from (stepped s 0 k id [] w a) × Drew (step slots 0 t (t + 1) none) (idle p seen callers, []) n
      (w, carried_after [] a) in
      exchanged n t (t + 1) F
      (λ hit. (
        waits p n seen callers,
        keeps,
        tt,
        kept_words s 0 (t + 1) (n + 1) (slice_index s.words 1) s.homes (set s.views id (waits p n seen callers)) kept kept.one
            (get_or-set_same s.words 0 (t + 1) 0 (omega (arith, kept.two)) ∙ ap (λ k. k + 1) (sym hit))
            (get_or-set_other s.words 0 1 (t + 1) 0 (omega arith))
            (drawn n (slice_index s.words 1) id p seen callers s.homes s.views kept.at at (omega (arith, fits, hit))),
        (λ _. refl, λ miss. absurd (miss hit)),
      ))
      (λ miss. (
        idle p seen callers,
        keeps,
        tt,
        kept_words s 0 n n (slice_index s.words 1) s.homes (set s.views id (idle p seen callers)) kept kept.one
            (get_or-set_same s.words 0 n 0 (omega (arith, kept.two)))
            (get_or-set_other s.words 0 1 n 0 (omega arith))
            (rw (set_again s.views id (idle p seen callers) at) kept.at),
        (λ hit. absurd (miss hit), λ _. refl),
      ))

  -- looking whether the ticket is served
  pub looks : (slots id t : ℕ) (p : Option O) (seen : List (Entry A B)) (callers : List (Caller A B))
      → Allows (Keeps stands from) slots id (waits p t seen callers, []) 1 (λ n. n)
      (Looked stands (step slots 1 0 0 none) (waits p t seen callers, []))
  looks slots id t p seen callers s kept len at small =
      let n = slice_index s.words 1 in
      dite (ℕ_discrete t n)
      (λ hit.
      let at' : get_elem? s.views id ≡ some (waits p n seen callers) = at ∙ ap (λ k. some (waits p k seen callers)) hit in
      let far = (kept.at.seen id (waits p n seen callers) at').0 in
      let now = served_now (slice_index s.words 0) n id p seen callers s.homes s.views kept.at at' far.0 far.1 in
      let home = now.0 in (
        has_turn p n (seen ++ far.0) callers,
        takes 0 (Home home.0),
        home.1,
        kept_words s 1 n (slice_index s.words 0) n (set s.homes 0 none) (set s.views id (has_turn p n (seen ++ far.0) callers)) kept
            (length-set s.homes 0 none ∙ kept.one)
            (get_or-set_other s.words 1 0 n 0 (omega arith))
            (get_or-set_same s.words 1 n 0 (omega (arith, kept.two)))
            now.1,
        (
          λ _. (
            home.0,
            far.0,
            refl,
            home.2,
            subst (λ (l : List (Entry A B)). Fits l callers) far.1
                (kept.at.fits id (waits p n seen callers) at'),
          ),
          λ other. absurd (other (ap Some hit)),
        ),
      ))
      (λ miss. (
        waits p t seen callers,
        keeps,
        tt,
        kept_words s 1 n (slice_index s.words 0) n s.homes (set s.views id (waits p t seen callers)) kept kept.one
            (get_or-set_other s.words 1 0 n 0 (omega arith))
            (get_or-set_same s.words 1 n 0 (omega (arith, kept.two)))
            (rw (set_again s.views id (waits p t seen callers) at) kept.at),
        (λ same. absurd (miss (same_ticket t n same)), λ _. refl),
      ))

  same_note : (a a' : Snapshot A) (b b' : Snapshot B) → ◌≡◌ {A = Slot (Held O A B)} (some (Call a b)) (some (Call a' b')) → (a ≡ a')
      × (b ≡ b')
  same_note a a' b b' e = (cc e, cc e)

  -- recording the call and passing the turn on
  ends_own : (slots id t : ℕ) (p : Option O) (seen : List (Entry A B)) (own : Caller A B) (rest : List (Caller A B)) (a : Snapshot A)
      (b : Snapshot B) (o : O)
      → stands o (seen ++ entry own.number a.value b.value ∷ []) → (u : ℕ) → (t + 1 < 2 ^ 64 → u ≡ t + 1)
      → Allows (Keeps stands from) slots id (has_turn p t seen (own ∷ rest), (0, Home o) ∷ []) 1 (λ n. either (eqb n t) u n)
      (Ended (step slots 1 t u (some (Call a b))) (has_turn p t seen (own ∷ rest), (0, Home o) ∷ []))
  ends_own slots id t p seen own rest a b o good u up s kept len at small =
      let n = slice_index s.words 1 in
      let served_is : t ≡ n = same_ticket t n (kept.at.turn id (has_turn p t seen (own ∷ rest)) at refl) in
      let low = kept.at.within id t (has_turn p t seen (own ∷ rest)) at refl in
      let top = kept.at.small in
      let at' : get_elem? s.views id ≡ some (has_turn p n seen (own ∷ rest)) = at
      ∙ ap (λ k. some (has_turn p k seen (own ∷ rest))) served_is in
      let more : u ≡ n + 1 = up (omega (arith, low, top)) ∙ ap (λ k. k + 1) served_is in
      let new = served_next (slice_index s.words 0) n id p seen own rest a.value b.value o s.homes s.views kept.at at' kept.one good in
      let w : View O A B = idle p (seen ++ entry own.number a.value b.value ∷ []) (with_call a.value b.value (own ∷ rest)) in
      let F : ℕ → Type 0 = λ k. (w : View O A B) × (c : Act (Held O A B)) × Valid s.homes ((0, Home o) ∷ []) c
      × Keeps stands from (stepped s 1 k id ((0, Home o) ∷ []) w c)
      × Ended (step slots 1 t u (some (Call a b))) (has_turn p t seen (own ∷ rest), (0, Home o) ∷ []) n
      (w, carried_after ((0, Home o) ∷ []) c) in
      exchanged n t u F
      (λ hit. (
        w,
        gives,
        tt,
        kept_words s 1 u (slice_index s.words 0) (n + 1) (set s.homes 0 (some (Home o))) (set s.views id w) kept
            (length-set s.homes 0 (some (Home o)) ∙ kept.one)
            (get_or-set_other s.words 1 0 u 0 (omega arith))
            (get_or-set_same s.words 1 u 0 (omega (arith, kept.two)) ∙ more)
            new.1,
        λ a' b' said. let same = same_note a a' b b' said in (
          (λ k. (
            idle p (seen ++ entry own.number (same.0 k).value (same.1 k).value ∷ [])
                (with_call (same.0 k).value (same.1 k).value (own ∷ rest)),
            [],
          )),
          subst (λ (x : Snapshot A × Snapshot B). Fits (seen ++ entry own.number x.0.value x.1.value ∷ [])
              (with_call x.0.value x.1.value (own ∷ rest))) (λ k. (same.0 k, same.1 k)) new.0,
        ),
      ))
      (λ miss. absurd (miss (sym served_is)))

  pub ends : (slots id t : ℕ) (p : Option O) (seen : List (Entry A B)) (callers : List (Caller A B)) → is_live callers ≡ true
      → (a : Snapshot A) (b : Snapshot B) (o : O)
      → stands o (seen ++ entry (own_number callers) a.value b.value ∷ []) → (u : ℕ) → (t + 1 < 2 ^ 64 → u ≡ t + 1)
      → Allows (Keeps stands from) slots id (has_turn p t seen callers, (0, Home o) ∷ []) 1 (λ n. either (eqb n t) u n)
      (Ended (step slots 1 t u (some (Call a b))) (has_turn p t seen callers, (0, Home o) ∷ []))
  ends slots id t p seen [] live = absurd (true≢false (sym live))
  ends slots id t p seen (own ∷ rest) live = ends_own slots id t p seen own rest

  -- cutting a pass in two
  pub splits : (id : ℕ) (p : Option O) (seen : List (Entry A B)) (callers : List (Caller A B)) → is_live callers ≡ true
      → Splits (Keeps stands from) id (idle p seen callers) (idle p seen (with_child callers)) (idle p seen (new_child callers))
  splits id p seen [] live s kept at = absurd (true≢false (sym live))
  splits id p seen (own ∷ rest) live s kept at =
      let v : View O A B = idle p seen (own ∷ rest) in
      let left : View O A B = idle p seen (with_child (own ∷ rest)) in
      let right : View O A B = idle p seen (new_child (own ∷ rest)) in
      let k = kept.at in
      let had = k.fits id v at in
      let saw = k.seen id v at in record {
        two = kept.two;
        one = kept.one;
        at = calm (slice_index s.words 0) (slice_index s.words 1) s.homes s.views (set s.views id left ++ right ∷ []) k
            (λ i u got. ⊎_elim
            (λ old. ⊎_elim
            (λ same. inr (subst (λ (w : View O A B). IsCalm k.log w) same.1
            (refl, refl, saw, (caller_with_child own k.log had.0, had.1), λ _. k.opened id v at refl)))
            (λ other. inl other.1)
            (at_set s.views id i left u old))
            (λ new. inr (subst (λ (w : View O A B). IsCalm k.log w) new.1
            (refl, refl, saw, (caller_new own k.log had.0, tt), λ _. k.opened id v at refl)))
            (at_end (set s.views id left) right u i got))
            (λ q.
            let o = k.once q in
            let t = owns_set s.views id v left q at in
            let l = owns_snoc (set s.views id left) right q in
            let c = owns_split own.number own.children q in
            omega (arith, o, t, l, c))
            (let t = tickets_set s.views id v left at in let l = tickets_snoc (set s.views id left) right in omega (arith, t, l))
            (λ i u got yes. at_longer (set s.views id left) (right ∷ []) i u (dite (ℕ_discrete i id)
            (λ here. absurd (idle_rests s.views i id p seen (own ∷ rest) u here got at yes))
            (λ other. set_else s.views id i left other ∙ got)));
      }

  -- two passes meet
  pub joins : (id other : ℕ) (p p' : Option O) (seen seen' : List (Entry A B)) (callers callers' : List (Caller A B))
      → is_live callers ≡ true
      → Joins (Keeps stands from) id (idle p seen callers) other (idle p' seen' callers') (meets p seen seen' (callers ++ callers'))
      (idle None [] [])
  joins id other p p' seen seen' callers callers' live s kept at apart at' =
      let v : View O A B = idle p seen callers in
      let w : View O A B = idle p' seen' callers' in
      let both : View O A B = meets p seen seen' (callers ++ callers') in
      let spent : View O A B = idle None [] [] in
      let k = kept.at in
      let at_w : get_elem? s.views other ≡ some w = sym (set_else s.views id other both apart) ∙ at' in record {
        two = kept.two;
        one = kept.one;
        at = calm (slice_index s.words 0) (slice_index s.words 1) s.homes s.views (set (set s.views id both) other spent) k
            (λ i u got. ⊎_elim
            (λ same. inr (subst (λ (x : View O A B). IsCalm k.log x) same.1
            (refl, refl, ((k.log, refl), (k.log, refl)), tt, λ live. absurd (true≢false (sym live)))))
            (λ old. ⊎_elim
            (λ same. inr (subst (λ (x : View O A B). IsCalm k.log x) same.1 (
              refl,
              refl,
              ((k.seen id v at).0, (k.seen other w at_w).0),
              fits_append k.log callers callers' (k.fits id v at) (k.fits other w at_w),
              λ _. k.opened id v at live,
            )))
            (λ older. inl older.1)
            (at_set s.views id i both u old.1))
            (at_set (set s.views id both) other i spent u got))
            (λ q.
            let o = k.once q in
            let t = owns_set s.views id v both q at in
            let l = owns_set (set s.views id both) other w spent q at' in
            let c = owns_append callers callers' q in
            omega (arith, o, t, l, c))
            (let t = tickets_set s.views id v both at in let l = tickets_set (set s.views id both) other w spent at' in omega (arith, t, l))
            (λ i u got yes. dite (ℕ_discrete i other)
            (λ here. absurd (idle_rests s.views i other p' seen' callers' u here got at_w yes))
            (λ far. set_else (set s.views id both) other i spent far ∙ dite (ℕ_discrete i id)
            (λ here. absurd (idle_rests s.views i id p seen callers u here got at yes))
            (λ further. set_else s.views id i both further ∙ got)));
      }

  -- the longer of two histories is found
  pub learns : (slots id : ℕ) (p : Option O) (seen told : List (Entry A B)) (callers : List (Caller A B))
      → Allows (Keeps stands from) slots id (meets p seen told callers, []) 1 (λ n. n)
      (Learned stands (step slots 1 0 0 none) (meets p seen told callers, []))
  learns slots id p seen told callers s kept len at small =
      let n = slice_index s.words 1 in
      let v : View O A B = meets p seen told callers in
      let w : View O A B = idle p (longer seen told) callers in
      let k = kept.at in
      let saw = k.seen id v at in
      let far : StartsWith k.log (longer seen told) = longer_one seen told (λ l. StartsWith k.log l) saw.0 saw.1 in
      let two = longer_both k.log seen told saw.0 saw.1 in
      let new : Agrees stands from (slice_index s.words 0) n s.homes (set s.views id w) =
      calm (slice_index s.words 0) n s.homes s.views (set s.views id w) k
      (λ i u got. ⊎_elim
      (λ same. inr (subst (λ (x : View O A B). IsCalm k.log x) same.1 (
        refl,
        refl,
        (far, (k.log, refl)),
        k.fits id v at,
        λ live. k.opened id v at live,
      )))
      (λ other. inl other.1)
      (at_set s.views id i w u got))
      (λ q. let o = k.once q in let t = owns_set s.views id v w q at in omega (arith, o, t))
      (let t = tickets_set s.views id v w at in omega (arith, t))
      (λ i u got yes. dite (ℕ_discrete i id)
      (λ here. let same : u ≡ v = some-injective u v (sym got ∙ ap (get_elem? s.views) here ∙ at) in
      cc (sym yes ∙ ap (λ (x : View O A B). x.turn) same))
      (λ other. set_else s.views id i w other ∙ got)) in (
        w,
        keeps,
        tt,
        kept_words s 1 n (slice_index s.words 0) n s.homes (set s.views id w) kept kept.one
            (get_or-set_other s.words 1 0 n 0 (omega arith))
            (get_or-set_same s.words 1 n 0 (omega (arith, kept.two)))
            new,
        (
          refl,
          two.0,
          two.1,
          (k.log, far, k.fits id v at, k.legal),
          λ q. let o = k.once q in let a = owns_at s.views id v q at in omega (arith, o, a),
        ),
      )

  -- the table at the start
  pub opens : (o : O) → stands o [] → Keeps stands from (opening (0 ∷ 0 ∷ []) (Home o ∷ [])
      (idle (Some from) [] (caller [] 0 [] ∷ [])))
  opens o good = record {
    two = refl;
    one = refl;
    at = record {
      log = [];
      small = omega arith;
      behind = omega arith;
      counted = omega arith;
      within = λ i t v got is. cc (ap (λ (w : View O A B). w.ticket) (only i v got) ∙ is);
      apart = λ i j t v w got got' is is'. cc (ap (λ (u : View O A B). u.ticket) (only i v got) ∙ is);
      turn = λ i v got yes. cc (ap (λ (w : View O A B). w.turn) (only i v got) ∙ yes);
      opened = λ i v got live. ap (λ (w : View O A B). w.opening) (sym (only i v got));
      seen = λ i v got. subst (λ (w : View O A B). StartsWith [] w.seen × StartsWith [] w.told) (only i v got) (([], refl), ([], refl));
      whole = λ i v got yes. ap (λ (w : View O A B). w.seen) (only i v got);
      fits = λ i v got. subst (λ (w : View O A B). Fits [] w.callers) (only i v got) ((refl, λ q own other. refl), tt);
      once = λ q. let f = any_owned q in omega (arith, f);
      legal = (o, good);
      out = λ i v got yes. cc (ap (λ (w : View O A B). w.turn) (only i v got) ∙ yes);
      home = λ _. (o, refl, good);
    };
  }
    where
      only : (i : ℕ) (v : View O A B) → get_elem? (idle (Some from) [] (caller [] 0 [] ∷ []) ∷ []) i ≡ some v
          → idle (Some from) [] (caller [] 0 [] ∷ []) ≡ v
      only zero v got = some-injective (idle (Some from) [] (caller [] 0 [] ∷ [])) v got
      only (suc i) v got = absurd (some-ne-none v (sym got))

-- the same steps, where the opening is what the view says
module _ {O A B : Type 0} (stands : O → O → List (Entry A B) → Type 0) (from : O) where
  pub looks_from : (slots id t : ℕ) (p : Option O) (seen : List (Entry A B)) (callers : List (Caller A B)) → is_live callers ≡ true
      → Allows (Keeps (stands from) from) slots id (waits p t seen callers, []) 1 (λ n. n)
      (Looked (stands_from stands p) (step slots 1 0 0 none) (waits p t seen callers, []))
  looks_from slots id t p seen callers live s kept len at small =
      subst (λ (q : Option O). get_elem? s.views id ≡ some (waits q t seen callers)
      → (w : View O A B) × (a : Act (Held O A B)) × Valid s.homes [] a
      × Keeps (stands from) from (stepped s 1 (slice_index s.words 1) id [] w a)
      × Looked (stands_from stands q) (step slots 1 0 0 none) (waits q t seen callers, []) (slice_index s.words 1) (w, carried_after [] a))
      (sym (kept.at.opened id (waits p t seen callers) at live))
      (λ at'. looks (stands from) from slots id t (Some from) seen callers s kept len at' small)
      at

  pub learns_from : (slots id : ℕ) (p : Option O) (seen told : List (Entry A B)) (callers : List (Caller A B)) → is_live callers ≡ true
      → Allows (Keeps (stands from) from) slots id (meets p seen told callers, []) 1 (λ n. n)
      (Learned (stands_from stands p) (step slots 1 0 0 none) (meets p seen told callers, []))
  learns_from slots id p seen told callers live s kept len at small =
      subst (λ (q : Option O). get_elem? s.views id ≡ some (meets q seen told callers)
      → (w : View O A B) × (a : Act (Held O A B)) × Valid s.homes [] a
      × Keeps (stands from) from (stepped s 1 (slice_index s.words 1) id [] w a)
      × Learned (stands_from stands q) (step slots 1 0 0 none) (meets q seen told callers, []) (slice_index s.words 1)
      (w, carried_after [] a))
      (sym (kept.at.opened id (meets p seen told callers) at live))
      (λ at'. learns (stands from) from slots id (Some from) seen told callers s kept len at' small)
      at

  pub ends_from : (slots id t : ℕ) (p : Option O) (seen : List (Entry A B)) (callers : List (Caller A B)) → is_live callers ≡ true
      → (a : Snapshot A) (b : Snapshot B) (o : O)
      → stands_from stands p o (seen ++ entry (own_number callers) a.value b.value ∷ []) → (u : ℕ) → (t + 1 < 2 ^ 64 → u ≡ t + 1)
      → Allows (Keeps (stands from) from) slots id (has_turn p t seen callers, (0, Home o) ∷ []) 1 (λ n. either (eqb n t) u n)
      (Ended (step slots 1 t u (some (Call a b))) (has_turn p t seen callers, (0, Home o) ∷ []))
  ends_from slots id t p seen callers live a b o good u up s kept len at small =
      let good_from : stands from o (seen ++ entry (own_number callers) a.value b.value ∷ []) =
      subst (λ (q : Option O). stands_from stands q o (seen ++ entry (own_number callers) a.value b.value ∷ []))
      (kept.at.opened id (has_turn p t seen callers) at live) good in
      ends (stands from) from slots id t p seen callers live a b o good_from u up s kept len at small
