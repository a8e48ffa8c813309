-- The laws of `Asks`: no calls, one call, and one list of calls after another.
--     Asks-none, Asks-one, Asks-append, Passes-none, Passes-append
--     Asks-stood      in a history in which the pass stands, the entries of its number are the calls that it made
use Rattle.std.specs.Prelude.{◌≢◌, ◌++◌}
use Rattle.std.proofs.Common.{◌≡◌, ℕ, List, [], ◌∷◌, Option, refl, sym, ap, subst, ◌∙◌, append_assoc, append-nil}
use Rattle.turn_lock.specs.declared.object.Entry.{Entry}
use Rattle.turn_lock.specs.declared.object.Caller.{Caller}
use Rattle.turn_lock.specs.declared.object.View.{View}
use Rattle.turn_lock.specs.History.{entry, caller, calls_by, with_call, own_number, stands_from, StartsWith, Fits, IsLegal, Extends}
use Rattle.turn_port.specs.Asks.{entries_of, with_own_calls, Knows, Asks, Passes}

module _ {A B : Type 0} where
  entries_append : (by : List ℕ) (xs ys : List (A × B)) → entries_of by (xs ++ ys) ≡ entries_of by xs ++ entries_of by ys
  entries_append by [] ys = refl
  entries_append by (x ∷ xs) ys = ap (λ (l : List (Entry A B)). entry by x.0 x.1 ∷ l) (entries_append by xs ys)

  own_none : (callers : List (Caller A B)) → callers ≡ with_own_calls [] callers
  own_none [] = refl
  own_none (own ∷ rest) =
      ap (λ (l : List (Entry A B)). caller own.number own.children l ∷ rest) (sym (append-nil own.calls))

  own_one : (a : A) (b : B) (callers : List (Caller A B)) → with_call a b callers ≡ with_own_calls ((a, b) ∷ []) callers
  own_one a b [] = refl
  own_one a b (own ∷ rest) = refl

  own_append : (xs ys : List (A × B)) (callers : List (Caller A B))
      → with_own_calls ys (with_own_calls xs callers) ≡ with_own_calls (xs ++ ys) callers
  own_append xs ys [] = refl
  own_append xs ys (own ∷ rest) =
      ap (λ (l : List (Entry A B)). caller own.number own.children l ∷ rest)
      (append_assoc own.calls (entries_of own.number xs) (entries_of own.number ys)
      ∙ ap (λ (l : List (Entry A B)). own.calls ++ l) (sym (entries_append own.number xs ys)))

  starts_then : (log mid seen : List (Entry A B)) → StartsWith log mid → StartsWith mid seen → StartsWith log seen
  starts_then log mid seen a b =
      (b.0 ++ a.0, a.1 ∙ ap (λ (l : List (Entry A B)). l ++ a.0) b.1 ∙ append_assoc seen b.0 a.0)

module _ {O A B : Type 0} (stands : O → O → List (Entry A B) → Type 0) where
  pub Asks-none : (v : View O A B) → Asks stands v [] v
  Asks-none v = record {
    own = own_none v.callers;
    later = ([], sym (append-nil v.seen));
    opening = refl;
    told = λ none. absurd (none refl);
    kept = λ knows. knows;
  }

  pub Asks-one : (v : View O A B) (a : A) (b : B) (w : View O A B) → Extends stands v a b w → Asks stands v ((a, b) ∷ []) w
  Asks-one v a b w x =
      let knows : Knows stands w = (
        x.3,
        subst (λ (p : Option O). IsLegal (stands_from stands p) w.seen) (sym x.5) x.4,
      ) in record {
        own = x.2 ∙ own_one a b v.callers;
        later = (
          x.0 ++ entry (own_number v.callers) a b ∷ [],
          x.1 ∙ append_assoc v.seen x.0 (entry (own_number v.callers) a b ∷ []),
        );
        opening = x.5;
        told = λ some. knows;
        kept = λ before. knows;
      }

  told_both : (v u w : View O A B) (xs ys : List (A × B)) → Asks stands v xs u → Asks stands u ys w → xs ++ ys ≢ []
      → Knows stands w
  told_both v u w xs [] a b some = b.kept (a.told (λ none. some (ap (λ (l : List (A × B)). l ++ []) none)))
  told_both v u w xs (y ∷ ys) a b some = b.told (λ none. cc none)

  pub Asks-append : (v u w : View O A B) (xs ys : List (A × B)) → Asks stands v xs u → Asks stands u ys w
      → Asks stands v (xs ++ ys) w
  Asks-append v u w xs ys a b = record {
    own = b.own ∙ ap (λ (l : List (Caller A B)). with_own_calls ys l) a.own ∙ own_append xs ys v.callers;
    later = starts_then w.seen u.seen v.seen b.later a.later;
    opening = b.opening ∙ a.opening;
    told = told_both v u w xs ys a b;
    kept = λ knows. b.kept (a.kept knows);
  }

  pub Passes-none : {X : Type 0} (table : X) (v : View O A B) → Passes stands table v [] table v
  Passes-none table v = (refl, Asks-none v)

  pub Passes-append : {X : Type 0} (t s r : X) (v u w : View O A B) (xs ys : List (A × B)) → Passes stands t v xs s u
      → Passes stands s u ys r w → Passes stands t v (xs ++ ys) r w
  Passes-append t s r v u w xs ys a b = (b.0 ∙ a.0, Asks-append v u w xs ys a.1 b.1)

  pub Asks-stood : (v w : View O A B) (calls : List (A × B)) (number : List ℕ) (children : ℕ) (rest : List (Caller A B))
      → v.callers ≡ caller number children [] ∷ rest → Asks stands v calls w → (log : List (Entry A B)) → Fits log w.callers
      → calls_by number log ≡ entries_of number calls
  Asks-stood v w calls number children rest is asks log fits =
      (subst (λ (ps : List (Caller A B)). Fits log ps) (asks.own ∙ ap (λ (ps : List (Caller A B)). with_own_calls calls ps) is) fits).0.0
