-- Laws of the order of items.
--     id_total      the order of names is total
--     id_exact      names that compare equal are one
--     rising_from_items, items_from_rising      items that each come behind the one before them strictly rise, and back
--     pool_id, one_id      a file is of one content;  names that are the same are one
--     item_at-below, item_at-id, item_at-has      the item of a name
use Rattle.std.specs.Prelude.{◌≡◌, ℕ, Bool, true, false, ◌&&◌, List, [], ◌∷◌, ◌++◌, length, Option, Some, None, cond, if◌then◌else◌}
use Rattle.std.specs.declared.cmp.Ordering.{Ordering}
use Rattle.std.specs.declared.cmp.Ordering.TheVariants.{Less, Equal, Greater}
use Rattle.std.specs.Ordering.{nat_cmp, is_lt, ordering_then}
use Rattle.std.specs.Cmp.{IsTotalOrder, nat_cmp_total}
use Rattle.std.specs.Cmp.Lexicographic.{slice_cmp, nat_list_cmp_total}
use Rattle.std.specs.FinMap.{IsAntisymmetric, nat_cmp-IsAntisymmetric, slice_cmp-IsAntisymmetric}
use Rattle.std.specs.List.{AllByRecursion}
use Rattle.std.specs.List.Sorted.{IsStrictlySortedBy}
use Rattle.std.proofs.Common.{refl, sym, ap, subst, ◌∙◌, inl, inr, ◌⊎◌}
use Rattle.std.proofs.lemmas.Cmp.{then_total, tied_itself}
use Rattle.std.proofs.lemmas.Bool.{false≢true}
use Rattle.wire_bytes.specs.Breaks.{AreItems}
use Rattle.disk_trait.specs.declared.ids.PoolId.{PoolId}
use Rattle.disk_trait.specs.declared.ids.FileId.TheVariants.{Pool}
use Rattle.disk_trait.specs.NamesLaws.{same_file}
use Rattle.pool_index.specs.declared.item.IndexItem.{IndexItem}
use Rattle.pool_index.specs.Items.{id_cmp, is_same_id, item_at, ids_of, AreRising, is_behind, is_under, is_next, IsItem, IsNextItem}

digest_total : IsTotalOrder (λ (a b : PoolId). slice_cmp nat_cmp a.digest b.digest)
digest_total = record {
  antisymm = λ a b. nat_list_cmp_total.antisymm a.digest b.digest;
  trans = λ a b c. nat_list_cmp_total.trans a.digest b.digest c.digest;
  congr = λ a b c. nat_list_cmp_total.congr a.digest b.digest c.digest;
}

extension_total : IsTotalOrder (λ (a b : PoolId). nat_cmp a.extension b.extension)
extension_total = record {
  antisymm = λ a b. nat_cmp_total.antisymm a.extension b.extension;
  trans = λ a b c. nat_cmp_total.trans a.extension b.extension c.extension;
  congr = λ a b c. nat_cmp_total.congr a.extension b.extension c.extension;
}

pub id_total : IsTotalOrder id_cmp
id_total = then_total digest_total extension_total

first_equal : (a b : Ordering) → ordering_then a b ≡ Equal → a ≡ Equal
first_equal Less b e = e
first_equal Equal b e = refl
first_equal Greater b e = e

second_equal : (a b : Ordering) → ordering_then a b ≡ Equal → b ≡ Equal
second_equal Less b e = cc
second_equal Equal b e = e
second_equal Greater b e = cc

pub id_exact : IsAntisymmetric id_cmp
id_exact a b e =
    let digest = slice_cmp-IsAntisymmetric nat_cmp-IsAntisymmetric a.digest b.digest (first_equal _ _ e) in
    let extension = nat_cmp-IsAntisymmetric a.extension b.extension (second_equal (slice_cmp nat_cmp a.digest b.digest) _ e) in
    λ i. record { digest = digest i; extension = extension i }

is_less : (r : Ordering) → is_lt r ≡ true → r ≡ Less
is_less Less e = refl
is_less Equal e = cc
is_less Greater e = cc

-- ---- one behind the other

behind_snoc : (before : List IndexItem) (item : IndexItem) (id : PoolId) → is_behind (before ++ item ∷ []) id ≡ is_lt (id_cmp item.id id)
behind_snoc [] item id = refl
behind_snoc (first ∷ []) item id = refl
behind_snoc (first ∷ next ∷ before) item id = behind_snoc (next ∷ before) item id

first_true : (a b : Bool) → a && b ≡ true → a ≡ true
first_true true b e = refl
first_true false b e = absurd (false≢true e)

second_true : (a b : Bool) → a && b ≡ true → b ≡ true
second_true true b e = e
second_true false b e = absurd (false≢true e)

both_true : (a b : Bool) → a ≡ true → b ≡ true → a && b ≡ true
both_true a b e f = ap (λ (x : Bool). x && b) e ∙ f

-- what comes behind a name that comes behind another comes behind it
below_through : (low middle : PoolId) (ids : List PoolId) → id_cmp low middle ≡ Less → AllByRecursion (λ id. id_cmp middle id ≡ Less) ids → AllByRecursion (λ id. id_cmp low id ≡ Less) ids
below_through low middle [] less all = tt
below_through low middle (id ∷ ids) less all = (id_total.trans low middle id less all.0, below_through low middle ids less all.1)

module _ (byte : Option ℕ) where
  rising_behind : (before : List IndexItem) (item : IndexItem) (items : List IndexItem) → AreItems (IsNextItem byte) (before ++ item ∷ []) items → AreRising (item ∷ items)
  unfolding IsStrictlySortedBy
  rising_behind before item [] are = (tt, tt)
  rising_behind before item (next ∷ items) are =
      let rest : AreRising (next ∷ items) = rising_behind (before ++ item ∷ []) next items are.1 in
      let less : id_cmp item.id next.id ≡ Less = is_less _ (sym (behind_snoc before item next.id) ∙ first_true _ _ are.0.next) in
      ((less, below_through item.id next.id (ids_of items) less rest.0), rest)

  pub rising_from_items : (items : List IndexItem) → AreItems (IsNextItem byte) [] items → AreRising items
  unfolding IsStrictlySortedBy
  rising_from_items [] are = tt
  rising_from_items (item ∷ items) are = rising_behind [] item items are.1

  items_behind : (before : List IndexItem) (item : IndexItem) (items : List IndexItem) → AreRising (item ∷ items) → AllByRecursion IsItem items → AllByRecursion (λ i. is_under byte i.id ≡ true) items
      → AreItems (IsNextItem byte) (before ++ item ∷ []) items
  unfolding IsStrictlySortedBy
  items_behind before item [] rising each under = tt
  items_behind before item (next ∷ items) rising each under = (
    record { is = each.0; next = both_true _ _ (behind_snoc before item next.id ∙ ap is_lt rising.0.0) under.0 },
    items_behind (before ++ item ∷ []) next items rising.1 each.1 under.1,
  )

  pub items_from_rising : (items : List IndexItem) → AreRising items → AllByRecursion IsItem items → AllByRecursion (λ i. is_under byte i.id ≡ true) items → AreItems (IsNextItem byte) [] items
  items_from_rising [] rising each under = tt
  items_from_rising (item ∷ items) rising each under = (record { is = each.0; next = under.0 }, items_behind [] item items rising each.1 under.1)

  pub each_from_items : (before items : List IndexItem) → AreItems (IsNextItem byte) before items → AllByRecursion IsItem items
  each_from_items before [] are = tt
  each_from_items before (item ∷ items) are = (are.0.is, each_from_items (before ++ item ∷ []) items are.1)

  pub under_from_items : (before items : List IndexItem) → AreItems (IsNextItem byte) before items → AllByRecursion (λ i. is_under byte i.id ≡ true) items
  under_from_items before [] are = tt
  under_from_items before (item ∷ items) are = (second_true (is_behind before item.id) _ are.0.next, under_from_items (before ++ item ∷ []) items are.1)

-- ---- the item of a name

id_itself : (id : PoolId) → id_cmp id id ≡ Equal
id_itself id = tied_itself id_total id

-- a file is of one content
pub pool_id : (a b : PoolId) → Pool a ≡ Pool b → a ≡ b
pool_id a b e = cc

-- one name
pub one_id : (a b : PoolId) → is_same_id a b ≡ true → a ≡ b
one_id a b e = pool_id a b (same_file (Pool a) (Pool b) e)

either_id : (a b : PoolId) → (is_same_id a b ≡ true) ⊎ (is_same_id a b ≡ false)
either_id a b = step (is_same_id a b) refl
  where
    step : (t : Bool) → is_same_id a b ≡ t → (is_same_id a b ≡ true) ⊎ (is_same_id a b ≡ false)
    step true e = inl e
    step false e = inr e

less_apart : (a b : PoolId) → id_cmp a b ≡ Less → is_same_id a b ≡ false
less_apart a b less = elim (either_id a b) [
  | inl same ↦ absurd (less_equal (sym less ∙ ap (λ (x : PoolId). id_cmp a x) (sym (one_id a b same)) ∙ id_itself a))
  | inr other ↦ other
]
  where
    less_equal : Less ≡ Equal → ⊥
    less_equal e = cc

-- a name before those of all items has none
pub item_at-below : (id : PoolId) (items : List IndexItem) → AllByRecursion (λ y. id_cmp id y ≡ Less) (ids_of items) → item_at items id ≡ None
item_at-below id [] all = refl
item_at-below id (item ∷ items) all = rw (less_apart id item.id all.0) (item_at-below id items all.1)

-- the item of a name is that name's, and one of the items
module _ (P : IndexItem → Type 0) (id : PoolId) (item : IndexItem) where
  both : (b : Bool) (first : IndexItem) (found : Option IndexItem) → is_same_id id first.id ≡ b → P first → (found ≡ Some item → (id ≡ item.id) × P item)
      → (if b then Some first else found) ≡ Some item → (id ≡ item.id) × P item
  both true first found same here rest is = let one : first ≡ item = cc in (one_id id first.id same ∙ ap (λ (x : IndexItem). x.id) one, subst P one here)
  both false first found same here rest is = rest is

  pub item_at-is : (items : List IndexItem) → AllByRecursion P items → item_at items id ≡ Some item → (id ≡ item.id) × P item
  item_at-is [] all is = absurd cc
  item_at-is (first ∷ items) all is = both (is_same_id id first.id) first (item_at items id) refl all.0 (λ e. item_at-is items all.1 e) is

all_items : (items : List IndexItem) → AllByRecursion (λ item. Unit {0}) items
all_items [] = tt
all_items (item ∷ items) = (tt, all_items items)

pub item_at-id : (items : List IndexItem) (id : PoolId) (item : IndexItem) → item_at items id ≡ Some item → id ≡ item.id
item_at-id items id item is = (item_at-is (λ item. Unit {0}) id item items (all_items items) is).0

pub item_at-has : (P : IndexItem → Type 0) (items : List IndexItem) (id : PoolId) (item : IndexItem) → AllByRecursion P items → item_at items id ≡ Some item → P item
item_at-has P items id item all is = (item_at-is P id item items all is).1
