-- Laws of entries with other values at the same keys.
use Rattle.std.specs.Prelude.{◌≡◌, Bool, true, false, cond, List, [], ◌∷◌, Some}
use Rattle.std.specs.declared.cmp.Ordering.{Ordering}
use Rattle.std.specs.declared.cmp.Ordering.TheVariants.{Less, Equal, Greater}
use Rattle.std.specs.Ordering.{eq_by_cmp}
use Rattle.std.specs.Option.{option_map}
use Rattle.std.specs.FinMap.Entries.{find, put, where_key, by_order}
use Rattle.std.proofs.Common.{refl, ap}
use Rattle.ordered_lists.specs.Order.{IsInOrder, IsBelowAll}
use Rattle.stored_trees.specs.Values.{map_values, IfFound, AllValues}

module _ {K X Y : Type 0} (f : X → Y) where
  module _ (R : K → K → Ordering) where
    pub find-map_values : (q : K) (es : List (K × X)) → find R q (map_values f es) ≡ option_map f (find R q es)
    find-map_values q [] = refl
    find-map_values q (e ∷ es) = step (eq_by_cmp R q e.0) (find-map_values q es)
      where
        step : (b : Bool) → find R q (map_values f es) ≡ option_map f (find R q es)
            → cond b (Some (f e.1)) (find R q (map_values f es)) ≡ option_map f (cond b (Some e.1) (find R q es))
        step true rest = refl
        step false rest = rest

    pub IsBelowAll-map_values : (k : K) (es : List (K × X)) → IsBelowAll R k es → IsBelowAll R k (map_values f es)
    IsBelowAll-map_values k [] h = tt
    IsBelowAll-map_values k (e ∷ es) h = (h.0, IsBelowAll-map_values k es h.1)

    pub IsInOrder-map_values : (es : List (K × X)) → IsInOrder R es → IsInOrder R (map_values f es)
    IsInOrder-map_values [] h = tt
    IsInOrder-map_values (e ∷ es) h = (IsBelowAll-map_values e.0 es h.0, IsInOrder-map_values es h.1)

    pub map_values-put : (k : K) (v : X) (es : List (K × X)) → map_values f (put R k v es) ≡ put R k (f v) (map_values f es)
    map_values-put k v [] = refl
    map_values-put k v (e ∷ es) = step (R k e.0) (map_values-put k v es)
      where
        step : (r : Ordering) → map_values f (put R k v es) ≡ put R k (f v) (map_values f es)
            → map_values f (by_order r ((k, v) ∷ e ∷ es) ((e.0, v) ∷ es) (e ∷ put R k v es))
            ≡ by_order r ((k, f v) ∷ (e.0, f e.1) ∷ map_values f es) ((e.0, f v) ∷ map_values f es) ((e.0, f e.1) ∷ put R k (f v) (map_values f es))
        step Less rest = refl
        step Equal rest = refl
        step Greater rest = ap (λ es'. (e.0, f e.1) ∷ es') rest

    pub map_values-where_key : (p : K → Bool) (es : List (K × X)) → map_values f (where_key R p es) ≡ where_key R p (map_values f es)
    map_values-where_key p [] = refl
    map_values-where_key p (e ∷ es) = step (p e.0) (map_values-where_key p es)
      where
        step : (b : Bool) → map_values f (where_key R p es) ≡ where_key R p (map_values f es)
            → map_values f (cond b (e ∷ where_key R p es) (where_key R p es)) ≡ cond b ((e.0, f e.1) ∷ where_key R p (map_values f es)) (where_key R p (map_values f es))
        step true rest = ap (λ es'. (e.0, f e.1) ∷ es') rest
        step false rest = rest

module _ {K X : Type 0} where
  pub AllValues-find : (P : X → Type 0) (R : K → K → Ordering) (q : K) (es : List (K × X)) → AllValues P es → IfFound P (find R q es)
  AllValues-find P R q [] h = tt
  AllValues-find P R q (e ∷ es) h = step (eq_by_cmp R q e.0) (AllValues-find P R q es h.1)
    where
      step : (b : Bool) → IfFound P (find R q es) → IfFound P (cond b (Some e.1) (find R q es))
      step true rest = h.0
      step false rest = rest

  pub AllValues-each : (P Q : X → Type 0) → ((x : X) → P x → Q x) → (es : List (K × X)) → AllValues P es → AllValues Q es
  AllValues-each P Q step [] h = tt
  AllValues-each P Q step (e ∷ es) h = (step e.1 h.0, AllValues-each P Q step es h.1)

  pub AllValues-put : (P : X → Type 0) (R : K → K → Ordering) (k : K) (v : X) (es : List (K × X)) → P v → AllValues P es
      → AllValues P (put R k v es)
  AllValues-put P R k v [] p h = (p, tt)
  AllValues-put P R k v (e ∷ es) p h = step (R k e.0) (AllValues-put P R k v es p h.1)
    where
      step : (r : Ordering) → AllValues P (put R k v es) → AllValues P (by_order r ((k, v) ∷ e ∷ es) ((e.0, v) ∷ es) (e ∷ put R k v es))
      step Less rest = (p, h)
      step Equal rest = (p, h.1)
      step Greater rest = (h.0, rest)

  -- values that f and g give alike
  pub map_values-alike : {Y : Type 0} (P : X → Type 0) (f g : X → Y) → ((x : X) → P x → f x ≡ g x) → (es : List (K × X)) → AllValues P es
      → map_values f es ≡ map_values g es
  map_values-alike P f g alike [] h = refl
  map_values-alike P f g alike (e ∷ es) h = λ i. (e.0, alike e.1 h.0 i) ∷ map_values-alike P f g alike es h.1 i
