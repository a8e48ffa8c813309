-- One more call of a pass, and the history of two passes that made all calls.
use Rattle.std.proofs.Common.{◌≡◌, ℕ, ◌+◌, ◌<◌, List, [], ◌∷◌, ◌++◌, length, take, get_or, refl, sym}
use Rattle.std.proofs.Common.{ap, subst, ◌∙◌, arith, append_assoc, append-nil}
use Rattle.std.proofs.lemmas.List.{take_more, length-take-le}
use Rattle.turn_lock.specs.declared.object.Entry.{Entry}
use Rattle.turn_lock.specs.declared.object.Caller.{Caller}
use Rattle.turn_lock.specs.declared.object.View.{View}
use Rattle.turn_lock.specs.History.{entry, caller, with_call, own_number, Fits, AllReturned}
use Rattle.turn_lock.specs.History.{NoOtherCalls, Extends}
use Rattle.turn_lock.specs.Returned.{children_row}
use Rattle.turn_lock.specs.ReturnedLaws.{returned_same, row_returned}
use Rattle.turn_lock.specs.Asked.{entries, with_calls, Asked, HasBoth}
use Rattle.turn_lock.proofs.Callers.{number_other, starts_more}

module _ {A B : Type 0} where
  entries_more : (by : List ℕ) (xs : List A) (ys : List B) (a : A) (b : B) → length xs ≡ length ys
      → entries by (xs ++ a ∷ []) (ys ++ b ∷ []) ≡ entries by xs ys ++ entry by a b ∷ []
  entries_more by [] [] a b same = refl
  entries_more by [] (y ∷ ys) a b same = absurd (omega (arith, same))
  entries_more by (x ∷ xs) [] a b same = absurd (omega (arith, same))
  entries_more by (x ∷ xs) (y ∷ ys) a b same = ap (λ (l : List (Entry A B)). entry by x y ∷ l)
      (entries_more by xs ys a b (omega (arith, same)))

  with_calls_more : (xs : List A) (ys : List B) (a : A) (b : B) (callers : List (Caller A B)) → length xs ≡ length ys
      → with_call a b (with_calls xs ys callers) ≡ with_calls (xs ++ a ∷ []) (ys ++ b ∷ []) callers
  with_calls_more xs ys a b [] same = refl
  with_calls_more xs ys a b (own ∷ rest) same =
      ap (λ (l : List (Entry A B)). caller own.number own.children l ∷ rest)
      (append_assoc own.calls (entries own.number xs ys) (entry own.number a b ∷ [])
      ∙ ap (λ (l : List (Entry A B)). own.calls ++ l) (sym (entries_more own.number xs ys a b same)))

  with_no_calls : (callers : List (Caller A B)) → with_calls [] [] callers ≡ callers
  with_no_calls [] = refl
  with_no_calls (own ∷ rest) = ap (λ (l : List (Entry A B)). caller own.number own.children l ∷ rest) (append-nil own.calls)

  pub asked_none : {O : Type 0} (v : View O A B) → Asked v [] [] v
  asked_none v = (sym (with_no_calls v.callers), ([], sym (append-nil v.seen)), refl)

  -- one call more
  pub asked_more : {O : Type 0} (stands : O → O → List (Entry A B) → Type 0) (v w u : View O A B) (xs : List A) (ys : List B) (a : A) (b : B)
      → length xs ≡ length ys → Asked v xs ys w → Extends stands w a b u → Asked v (xs ++ a ∷ []) (ys ++ b ∷ []) u
  asked_more stands v w u xs ys a b same asked more = (
    more.2 ∙ ap (λ (l : List (Caller A B)). with_call a b l) asked.0 ∙ with_calls_more xs ys a b v.callers same,
    starts_more u.seen w.seen v.seen (
      more.0 ++ entry (own_number w.callers) a b ∷ [],
      more.1
          ∙ append_assoc w.seen more.0 (entry (own_number w.callers) a b ∷ []),
    ) asked.1,
    more.5 ∙ asked.2,
  )

  -- the next call of a list
  pub asked_next : {O : Type 0} (stands : O → O → List (Entry A B) → Type 0) (v w u : View O A B) (asks : List A) (i : ℕ) (a : A)
      (ys ys' : List B) (b : B)
      → i < length asks → a ≡ get_or asks i a → length ys ≡ i → ys' ≡ ys ++ b ∷ [] → Asked v (take i asks) ys w → Extends stands w a b u
      → Asked v (take (i + 1) asks) ys' u
  asked_next stands v w u asks i a ys ys' b within is counted more asked call =
      let next : take (i + 1) asks ≡ take i asks ++ a ∷ [] = take_more asks i a within ∙ ap (λ x. take i asks ++ x ∷ []) (sym is) in
      let same : length (take i asks) ≡ length ys = length-take-le i asks (omega (arith, within)) ∙ sym counted in
      rw (next, more) (asked_more stands v w u (take i asks) ys a b same asked call)

module _ {A B : Type 0} (left right : List A) (xs ys : List B) where
  abbrev pub left_caller : Caller A B
  left_caller = caller [] 1 (entries [] left xs)

  abbrev pub right_caller : Caller A B
  right_caller = caller (0 ∷ []) 0 (entries (0 ∷ []) right ys)

  both_returned : AllReturned (left_caller ∷ right_caller ∷ [])
  both_returned = returned_same (caller [] 1 (entries [] left xs) ∷ children_row 0 1) (left_caller ∷ right_caller ∷ [])
      (refl, refl, (refl, refl, tt)) (row_returned 1 (entries [] left xs))

  pub both_stood : (log : List (Entry A B)) (ps qs : List (Caller A B)) → ps ≡ left_caller ∷ [] → qs ≡ right_caller ∷ [] → Fits log ps
      → Fits log qs
      → (AllReturned (ps ++ (qs ++ [])) → NoOtherCalls (ps ++ (qs ++ [])) log) → HasBoth log left xs right ys
  both_stood log ps qs one two fits fits' only =
      let f : Fits log (left_caller ∷ []) = subst (λ l. Fits log l) one fits in
      let s : Fits log (right_caller ∷ []) = subst (λ l. Fits log l) two fits' in
      let all : AllReturned (left_caller ∷ right_caller ∷ []) → NoOtherCalls (left_caller ∷ right_caller ∷ []) log =
      subst (λ (l : List (Caller A B)). AllReturned l → NoOtherCalls l log) (λ k. one k ++ (two k ++ [])) only in (
        f.0.0,
        s.0.0,
        λ q not_first not_second. all both_returned q (rw (
          number_other [] q (λ e. not_first (sym e)),
          number_other (0 ∷ []) q (λ e. not_second (sym e)),
        ) refl),
      )
