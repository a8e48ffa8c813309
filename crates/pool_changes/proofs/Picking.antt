-- What is picked from the entries of a map, in their order.
use Rattle.std.proofs.Common.{◌≡◌, Bool, true, false, cond, List, [], ◌∷◌, ◌++◌, map, Option, Some, None, if◌then◌else◌, refl, sym, ap, ◌∙◌, subst, append_assoc, append-nil, inl, inr}
use Rattle.std.specs.declared.cmp.Ordering.TheVariants.{Less}
use Rattle.std.specs.Ordering.{is_eq}
use Rattle.std.specs.List.{AllByRecursion}
use Rattle.std.specs.List.Sorted.{IsStrictlySortedBy}
use Rattle.std.specs.Map.{lookup, keys_of}
use Rattle.std.proofs.lemmas.Bool.{false≢true}
use Rattle.disk_trait.specs.declared.ids.PoolId.{PoolId}
use Rattle.disk_trait.specs.declared.ids.FileId.TheVariants.{Pool}
use Rattle.disk_trait.specs.NamesLaws.{is_same_file-itself}
use Rattle.intent_journal.specs.ChangesLaws.{either}
use Rattle.pool_index.specs.declared.item.IndexItem.{IndexItem}
use Rattle.pool_index.specs.Items.{id_cmp, is_same_id, item_at}
use Rattle.pool_changes.specs.declared.slot.Slot.{Slot}
use Rattle.pool_changes.specs.declared.listing.BucketItem.{BucketItem}
use Rattle.pool_changes.specs.Slots.{one_id}
use Rattle.pool_changes.specs.SlotsLaws.{same_id, equal_of, id_itself}
use Rattle.pool_changes.specs.Listed.{bucket_item_at}
use Rattle.pool_changes.specs.Writing.{option_list}

abbrev pub put_first : {I : Type 0} → Option I → List I → List I
put_first None xs = xs
put_first (Some x) xs = x ∷ xs

-- what a pick gives of each entry
abbrev pub picked : {I : Type 0} → (PoolId → Slot → Option I) → List (PoolId × Slot) → List I
picked pick [] = []
picked pick (e ∷ es) = put_first (pick e.0 e.1) (picked pick es)

-- what is picked under a name
abbrev pub at_id : {I : Type 0} → (I → PoolId) → List I → PoolId → Option I
at_id name [] id = None
at_id name (x ∷ xs) id = if is_same_id id (name x) then Some x else at_id name xs id

abbrev pub found : {I : Type 0} → (PoolId → Slot → Option I) → PoolId → Option Slot → Option I
found pick id None = None
found pick id (Some slot) = pick id slot

-- entries behind a name don't have it
pub none_behind : (id : PoolId) (es : List (PoolId × Slot)) → AllByRecursion (λ k. id_cmp id k ≡ Less) (keys_of es) → lookup (λ k. is_eq (id_cmp id k)) es ≡ None
none_behind id [] all = refl
none_behind id (e ∷ es) all = ap (λ r. cond (is_eq r) (Some e.1) (lookup (λ k. is_eq (id_cmp id k)) es)) all.0 ∙ none_behind id es all.1

module _ {I : Type 0} (name : I → PoolId) (pick : PoolId → Slot → Option I) (own : (id : PoolId) (slot : Slot) (x : I) → pick id slot ≡ Some x → name x ≡ id) where
  one_found : (id key : PoolId) (slot : Slot) (p : Option I) (xs : List I) (rest : Option Slot) (b : Bool) → is_eq (id_cmp id key) ≡ b → pick key slot ≡ p → (b ≡ true → rest ≡ None) → at_id name xs id ≡ found pick id rest
      → at_id name (put_first p xs) id ≡ found pick id (cond b (Some slot) rest)
  one_found id key slot None xs rest true same is none before =
      before ∙ ap (found pick id) (none refl) ∙ sym is ∙ ap (λ (k : PoolId). pick k slot) (sym (same_id id key (equal_of _ same)))
  one_found id key slot (Some x) xs rest true same is none before =
      let one : id ≡ key = same_id id key (equal_of _ same) in
      let there : is_same_id id (name x) ≡ true = ap (is_same_id id) (own key slot x is ∙ sym one) ∙ is_same_file-itself (Pool id) in
      rw there (sym is ∙ ap (λ (k : PoolId). pick k slot) (sym one))
  one_found id key slot None xs rest false same is none before = before
  one_found id key slot (Some x) xs rest false same is none before = elim (either (is_same_id id (name x))) [
    | inl there ↦
        let one : id ≡ key = one_id id (name x) there ∙ own key slot x is in
        absurd (false≢true (sym same ∙ ap (λ (k : PoolId). is_eq (id_cmp id k)) (sym one) ∙ id_itself id))
    | inr other ↦ rw other before
  ]

  pub found_picked : (es : List (PoolId × Slot)) (id : PoolId) → IsStrictlySortedBy id_cmp (keys_of es) → at_id name (picked pick es) id ≡ found pick id (lookup (λ k. is_eq (id_cmp id k)) es)
  unfolding IsStrictlySortedBy
  found_picked [] id sorted = refl
  found_picked (e ∷ es) id sorted =
      one_found id e.0 e.1 (pick e.0 e.1) (picked pick es) (lookup (λ k. is_eq (id_cmp id k)) es) (is_eq (id_cmp id e.0)) refl refl
      (λ same. ap (λ (k : PoolId). lookup (λ l. is_eq (id_cmp k l)) es) (same_id id e.0 (equal_of _ same)) ∙ none_behind e.0 es sorted.0)
      (found_picked es id sorted.1)

  all_first : (P : PoolId → Type 0) (key : PoolId) (slot : Slot) (p : Option I) (xs : List I) → pick key slot ≡ p → P key → AllByRecursion P (map name xs) → AllByRecursion P (map name (put_first p xs))
  all_first P key slot None xs is here rest = rest
  all_first P key slot (Some x) xs is here rest = (subst P (sym (own key slot x is)) here, rest)

  all_picked : (P : PoolId → Type 0) (es : List (PoolId × Slot)) → AllByRecursion P (keys_of es) → AllByRecursion P (map name (picked pick es))
  all_picked P [] all = tt
  all_picked P (e ∷ es) all = all_first P e.0 e.1 (pick e.0 e.1) (picked pick es) refl all.0 (all_picked P es all.1)

  rising_first : (key : PoolId) (slot : Slot) (p : Option I) (xs : List I) → pick key slot ≡ p → AllByRecursion (λ k. id_cmp key k ≡ Less) (map name xs) → IsStrictlySortedBy id_cmp (map name xs)
      → IsStrictlySortedBy id_cmp (map name (put_first p xs))
  unfolding IsStrictlySortedBy
  rising_first key slot None xs is here rest = rest
  rising_first key slot (Some x) xs is here rest = (subst (λ (k : PoolId). AllByRecursion (λ l. id_cmp k l ≡ Less) (map name xs)) (sym (own key slot x is)) here, rest)

  pub rising_picked : (es : List (PoolId × Slot)) → IsStrictlySortedBy id_cmp (keys_of es) → IsStrictlySortedBy id_cmp (map name (picked pick es))
  unfolding IsStrictlySortedBy
  rising_picked [] sorted = tt
  rising_picked (e ∷ es) sorted = rising_first e.0 e.1 (pick e.0 e.1) (picked pick es) refl (all_picked (λ k. id_cmp e.0 k ≡ Less) es sorted.0) (rising_picked es sorted.1)

-- what holds of the picks of all entries
pub each_picked : {I : Type 0} (pick : PoolId → Slot → Option I) (P : PoolId × Slot → Type 0) (Q : I → Type 0) → ((e : PoolId × Slot) (x : I) → P e → pick e.0 e.1 ≡ Some x → Q x) → (es : List (PoolId × Slot)) → AllByRecursion P es
    → AllByRecursion Q (picked pick es)
each_picked {I = I} pick P Q f [] all = tt
each_picked {I = I} pick P Q f (e ∷ es) all = step (pick e.0 e.1) (each_picked pick P Q f es all.1) (λ x is. f e x all.0 is)
  where
    step : (p : Option I) → AllByRecursion Q (picked pick es) → ((x : I) → p ≡ Some x → Q x) → AllByRecursion Q (put_first p (picked pick es))
    step None rest here = rest
    step (Some x) rest here = (here x refl, rest)

-- ---- one entry after the other

module _ {I : Type 0} (pick : PoolId → Slot → Option I) (so_far all : List I) (entries rest : List (PoolId × Slot)) (key : PoolId) (slot : Slot) where
  pub pick_more : (now : List I) (x : I) → so_far ++ picked pick entries ≡ all → entries ≡ (key, slot) ∷ rest → pick key slot ≡ Some x → now ≡ so_far ++ x ∷ [] → now ++ picked pick rest ≡ all
  pick_more now x before is here put =
      ap (λ (l : List I). l ++ picked pick rest) put ∙ append_assoc so_far (x ∷ []) (picked pick rest)
      ∙ ap (λ (p : Option I). so_far ++ put_first p (picked pick rest)) (sym here) ∙ sym (ap (λ (es : List (PoolId × Slot)). so_far ++ picked pick es) is) ∙ before

  pub pick_none : so_far ++ picked pick entries ≡ all → entries ≡ (key, slot) ∷ rest → pick key slot ≡ None → so_far ++ picked pick rest ≡ all
  pick_none before is none =
      ap (λ (p : Option I). so_far ++ put_first p (picked pick rest)) (sym none) ∙ sym (ap (λ (es : List (PoolId × Slot)). so_far ++ picked pick es) is) ∙ before

pub pick_step : {I : Type 0} (pick : PoolId → Slot → Option I) (so_far now all : List I) (entries rest : List (PoolId × Slot)) (key : PoolId) (slot : Slot) (p : Option I) → so_far ++ picked pick entries ≡ all → entries ≡ (key, slot) ∷ rest
    → p ≡ pick key slot → now ≡ so_far ++ option_list p → now ++ picked pick rest ≡ all
pick_step {I = I} pick so_far now all entries rest key slot None before is here put =
    ap (λ (l : List I). l ++ picked pick rest) (put ∙ append-nil so_far) ∙ pick_none pick so_far all entries rest key slot before is (sym here)
pick_step pick so_far now all entries rest key slot (Some x) before is here put = pick_more pick so_far all entries rest key slot now x before is (sym here) put

pub pick_end : {I : Type 0} (pick : PoolId → Slot → Option I) (so_far all : List I) (entries : List (PoolId × Slot)) → so_far ++ picked pick entries ≡ all → entries ≡ [] → so_far ≡ all
pick_end pick so_far all entries before is = sym (append-nil so_far) ∙ ap (λ (es : List (PoolId × Slot)). so_far ++ picked pick es) (sym is) ∙ before

-- ---- the two kinds of items

pub item_at_id : (items : List IndexItem) (id : PoolId) → item_at items id ≡ at_id (λ item. item.id) items id
item_at_id [] id = refl
item_at_id (item ∷ items) id = ap (λ (f : Option IndexItem). if is_same_id id item.id then Some item else f) (item_at_id items id)

pub bucket_item_at_id : (items : List BucketItem) (id : PoolId) → bucket_item_at items id ≡ at_id (λ item. item.id) items id
bucket_item_at_id [] id = refl
bucket_item_at_id (item ∷ items) id = ap (λ (f : Option BucketItem). if is_same_id id item.id then Some item else f) (bucket_item_at_id items id)
