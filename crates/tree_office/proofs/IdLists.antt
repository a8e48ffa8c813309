-- Names as ids: what is at a name in a list that was filled name by name, and in the part of it whose contents are pooled.
use Rattle.std.specs.Prelude.{◌≡◌, ◌≢◌, ℕ, zero, suc, Bool, true, false, cond, List, [], ◌∷◌, filter, Option, Some, None, slice_get, ◌⊎◌}
use Rattle.std.specs.declared.cmp.Ordering.{Ordering}
use Rattle.std.specs.declared.cmp.Ordering.TheVariants.{Less, Equal, Greater}
use Rattle.std.specs.Ordering.{is_eq}
use Rattle.std.specs.FinMap.Entries.{put, find-put}
use Rattle.std.proofs.Common.{refl, sym, ap, ◌∙◌, subst, inl, inr, arith}
use Rattle.std.proofs.lemmas.Cmp.{tied_itself}
use Rattle.disk_trait.specs.declared.ids.PoolId.{PoolId}
use Rattle.ordered_lists.specs.Order.{IsInOrder, IsBelowAll}
use Rattle.ordered_lists.specs.OrderLaws.{IsInOrder-put, find_below, below_alike}
use Rattle.pool_index.specs.Items.{id_cmp}
use Rattle.pool_index.specs.ItemLaws.{id_total, id_exact}
use Rattle.office_model.specs.Places.{Differ}
use Rattle.office_model.specs.Pool.{Pool, is_pooled}
use Rattle.office_model.specs.Ids.{Ids, content_at}
use Rattle.tree_office.specs.declared.names.Name.{Name}
use Rattle.tree_office.specs.Names.{ids_named, pooled_in, IsNameOf}

-- ---- filled name by name

pub listed-in_order : (ids : Ids) (names : List Name) → IsInOrder id_cmp ids → IsInOrder id_cmp (ids_named ids names)
listed-in_order ids [] in_order = in_order
listed-in_order ids (name ∷ names) in_order =
    listed-in_order (put id_cmp name.id name.content ids) names (IsInOrder-put id_cmp id_total name.id name.content ids in_order)

-- what is at a name was there, or is the name's content
pub listed-from : (ids : Ids) (names : List Name) (id : PoolId) (content : List ℕ) → content_at (ids_named ids names) id ≡ Some content
    → (content_at ids id ≡ Some content) ⊎ IsNameOf names id content
listed-from ids [] id content at = inl at
listed-from ids (name ∷ names) id content at =
    step (listed-from (put id_cmp name.id name.content ids) names id content at)
  where
    put_there : (r : Ordering) → id_cmp id name.id ≡ r → cond (is_eq r) (Some name.content) (content_at ids id) ≡ Some content
        → (content_at ids id ≡ Some content) ⊎ IsNameOf (name ∷ names) id content
    put_there Less e f = inl f
    put_there Greater e f = inl f
    put_there Equal e f =
        let one : id ≡ name.id = id_exact id name.id e in
        let bytes : name.content ≡ content = cc in
        inr (0, λ i. Some (record { id = sym one i; content = bytes i }))

    step : (content_at (put id_cmp name.id name.content ids) id ≡ Some content) ⊎ IsNameOf names id content
        → (content_at ids id ≡ Some content) ⊎ IsNameOf (name ∷ names) id content
    step (inl f) = put_there (id_cmp id name.id) refl (sym (find-put id_cmp id_total id name.id name.content ids) ∙ f)
    step (inr w) = inr (suc w.0, w.1)

pub listed-name : (names : List Name) (id : PoolId) (content : List ℕ) → content_at (ids_named [] names) id ≡ Some content → IsNameOf names id content
listed-name names id content at = step (listed-from [] names id content at)
  where
    step : (None ≡ Some content) ⊎ IsNameOf names id content → IsNameOf names id content
    step (inl f) = absurd (cc)
    step (inr w) = w

-- names of others leave what is at a name
listed-others : (ids : Ids) (names : List Name) (id : PoolId) → ((i : ℕ) (name : Name) → slice_get names i ≡ Some name → name.id ≢ id)
    → content_at (ids_named ids names) id ≡ content_at ids id
listed-others ids [] id others = refl
listed-others ids (name ∷ names) id others =
    listed-others (put id_cmp name.id name.content ids) names id (λ i n at. others (suc i) n at)
    ∙ find-put id_cmp id_total id name.id name.content ids ∙ step (id_cmp id name.id) refl
  where
    step : (r : Ordering) → id_cmp id name.id ≡ r → cond (is_eq r) (Some name.content) (content_at ids id) ≡ content_at ids id
    step Less e = refl
    step Greater e = refl
    step Equal e = absurd (others 0 name refl (sym (id_exact id name.id e)))

pub listed-has : (ids : Ids) (names : List Name) (i : ℕ) (name : Name) → Differ (λ (n : Name). n.id) names → slice_get names i ≡ Some name
    → content_at (ids_named ids names) name.id ≡ Some name.content
listed-has ids [] i name differ at = absurd (cc)
listed-has ids (first ∷ names) zero name differ at =
    let same : first ≡ name = cc in
    subst (λ (n : Name). content_at (ids_named ids (first ∷ names)) n.id ≡ Some n.content) same
    (listed-others (put id_cmp first.id first.content ids) names first.id (λ j n there other. let e = differ 0 (suc j) first n refl there (sym other) in absurd (omega arith))
    ∙ find-put id_cmp id_total first.id first.id first.content ids
    ∙ ap (λ (r : Ordering). cond (is_eq r) (Some first.content) (content_at ids first.id)) (tied_itself id_total first.id))
listed-has ids (first ∷ names) (suc i) name differ at =
    listed-has (put id_cmp first.id first.content ids) names i name (λ j k a b at_j at_k same. before j k (differ (suc j) (suc k) a b at_j at_k same)) at
  where
    before : (m n : ℕ) → suc m ≡ suc n → m ≡ n
    before m n e = omega arith

-- ---- those of which the contents pass

module _ (p : List ℕ → Bool) where
  abbrev passing : Ids → Ids
  passing ids = filter (λ entry. p entry.1) ids

  below-passing : (id : PoolId) (ids : Ids) → IsBelowAll id_cmp id ids → IsBelowAll id_cmp id (passing ids)
  below-passing id [] below = tt
  below-passing id (entry ∷ ids) below = step (p entry.1) (below-passing id ids below.1)
    where
      step : (b : Bool) → IsBelowAll id_cmp id (passing ids) → IsBelowAll id_cmp id (cond b (entry ∷ passing ids) (passing ids))
      step true rest = (below.0, rest)
      step false rest = rest

  pub passing-in_order : (ids : Ids) → IsInOrder id_cmp ids → IsInOrder id_cmp (passing ids)
  passing-in_order [] in_order = tt
  passing-in_order (entry ∷ ids) in_order = step (p entry.1) (passing-in_order ids in_order.1)
    where
      step : (b : Bool) → IsInOrder id_cmp (passing ids) → IsInOrder id_cmp (cond b (entry ∷ passing ids) (passing ids))
      step true rest = (below-passing entry.0 ids in_order.0, rest)
      step false rest = rest

  -- what passes stays
  pub passing-has : (ids : Ids) (id : PoolId) (content : List ℕ) → content_at ids id ≡ Some content → p content ≡ true
      → content_at (passing ids) id ≡ Some content
  passing-has [] id content at passes = at
  passing-has (entry ∷ ids) id content at passes = step (p entry.1) refl (id_cmp id entry.0) refl at (passing-has ids id content)
    where
      step : (b : Bool) → p entry.1 ≡ b → (r : Ordering) → id_cmp id entry.0 ≡ r → cond (is_eq r) (Some entry.1) (content_at ids id) ≡ Some content
          → (content_at ids id ≡ Some content → p content ≡ true → content_at (passing ids) id ≡ Some content)
          → content_at (cond b (entry ∷ passing ids) (passing ids)) id ≡ Some content
      step true is r e f rest = ap (λ (o : Ordering). cond (is_eq o) (Some entry.1) (content_at (passing ids) id)) e ∙ inner r f
        where
          inner : (o : Ordering) → cond (is_eq o) (Some entry.1) (content_at ids id) ≡ Some content
              → cond (is_eq o) (Some entry.1) (content_at (passing ids) id) ≡ Some content
          inner Less g = rest g passes
          inner Greater g = rest g passes
          inner Equal g = g
      step false is Less e f rest = rest f passes
      step false is Greater e f rest = rest f passes
      step false is Equal e f rest = let bytes : entry.1 ≡ content = cc in absurd (let g = ap p bytes in cc)

  -- what is there passed
  pub passing-from : (ids : Ids) (id : PoolId) (content : List ℕ) → IsInOrder id_cmp ids → content_at (passing ids) id ≡ Some content
      → (content_at ids id ≡ Some content) × (p content ≡ true)
  passing-from [] id content in_order at = absurd (cc)
  passing-from (entry ∷ ids) id content in_order at =
      step (p entry.1) refl (id_cmp id entry.0) refl at (passing-from ids id content in_order.1)
    where
      none : id_cmp id entry.0 ≡ Equal → content_at (passing ids) id ≡ Some content → ⊥
      none e f =
          let below : IsBelowAll id_cmp id (passing ids) = below-passing id ids (below_alike id_cmp id_total id entry.0 ids e in_order.0) in
          let empty : content_at (passing ids) id ≡ None = find_below id_cmp id_total id (passing ids) below in cc

      step : (b : Bool) → p entry.1 ≡ b → (r : Ordering) → id_cmp id entry.0 ≡ r
          → content_at (cond b (entry ∷ passing ids) (passing ids)) id ≡ Some content
          → (content_at (passing ids) id ≡ Some content → (content_at ids id ≡ Some content) × (p content ≡ true))
          → (cond (is_eq r) (Some entry.1) (content_at ids id) ≡ Some content) × (p content ≡ true)
      step true is r e f rest = inner r e (sym (ap (λ (o : Ordering). cond (is_eq o) (Some entry.1) (content_at (passing ids) id)) e) ∙ f)
        where
          inner : (o : Ordering) → id_cmp id entry.0 ≡ o → cond (is_eq o) (Some entry.1) (content_at (passing ids) id) ≡ Some content
              → (cond (is_eq o) (Some entry.1) (content_at ids id) ≡ Some content) × (p content ≡ true)
          inner Less i g = rest g
          inner Greater i g = rest g
          inner Equal i g = let bytes : entry.1 ≡ content = cc in (g, ap p (sym bytes) ∙ is)
      step false is Less e f rest = rest f
      step false is Greater e f rest = rest f
      step false is Equal e f rest = absurd (none e f)
