-- Lists of indices with one more, and with one changed.
use Rattle.std.proofs.Common.{◌≡◌, ◌⊎◌, inl, inr, ℕ, zero, suc, ◌+◌, ◌<◌, false, List, [], ◌∷◌, ◌++◌, length, get_or, Some, refl, sym, ap, subst, ◌∙◌, arith}
use Rattle.std.specs.Prelude.{slice_get, slice_set}
use Rattle.std.proofs.lemmas.Option.{none-some, same_Some}
use Rattle.backup_index.specs.Index.{Index}
use Rattle.backup_index.specs.Lines.{IsSound}
use Rattle.backup_index.specs.Names.{AreNames, has_name}
use Rattle.backup_index.specs.NameLaws.{differ_none, differ_push}
use Rattle.office_catalog.specs.Known.{names_of, changed_at, IsHost, IsCatalog}

-- an item of a list with one more
pub item_pushed : {X : Type 0} (xs : List X) (x : X) (i : ℕ) (y : X) → slice_get (xs ++ x ∷ []) i ≡ Some y → (slice_get xs i ≡ Some y) ⊎ ((i ≡ length xs) × (y ≡ x))
item_pushed [] x zero y e = inr (refl, sym (same_Some x y e))
item_pushed [] x (suc i) y e = absurd (none-some y e)
item_pushed (a ∷ xs) x zero y e = inl e
item_pushed (a ∷ xs) x (suc i) y e = elim (item_pushed xs x i y e) [
  | inl there ↦ inl there
  | inr last ↦ inr (ap suc last.0, last.1)
]

pub item_within : {X : Type 0} (xs : List X) (i : ℕ) (x : X) → slice_get xs i ≡ Some x → i < length xs
item_within [] i x e = absurd (none-some x e)
item_within (a ∷ xs) zero x e = omega arith
item_within (a ∷ xs) (suc i) x e = let rest = item_within xs i x e in omega (arith, rest)

pub item_there : {X : Type 0} (xs : List X) (i : ℕ) → i < length xs → (x : X) × (slice_get xs i ≡ Some x)
item_there [] i within = absurd (omega arith)
item_there (a ∷ xs) zero within = (a, refl)
item_there (a ∷ xs) (suc i) within = item_there xs i (omega arith)

pub item_last : {X : Type 0} (xs : List X) (x : X) → slice_get (xs ++ x ∷ []) (length xs) ≡ Some x
item_last [] x = refl
item_last (a ∷ xs) x = item_last xs x

pub item_at : {X : Type 0} (xs : List X) (i : ℕ) (d : X) → i < length xs → slice_get xs i ≡ Some (get_or xs i d)
item_at [] i d within = absurd (omega arith)
item_at (a ∷ xs) zero d within = refl
item_at (a ∷ xs) (suc i) d within = item_at xs i d (omega arith)

-- lists of one length with the same items are one
pub same_items : {X : Type 0} (xs ys : List X) → length xs ≡ length ys → ((i : ℕ) (x y : X) → slice_get xs i ≡ Some x → slice_get ys i ≡ Some y → x ≡ y) → xs ≡ ys
same_items [] [] count same = refl
same_items [] (y ∷ ys) count same = absurd (omega (arith, count))
same_items (x ∷ xs) [] count same = absurd (omega (arith, count))
same_items {X} (x ∷ xs) (y ∷ ys) count same =
    ap (λ (a : X). a ∷ xs) (same 0 x y refl refl) ∙ ap (λ (l : List X). y ∷ l) (same_items xs ys (omega (arith, count)) (λ i a b there there'. same (suc i) a b there there'))

-- ---- one index changed

module _ (f : Index → Index) where
  -- an item of a list with one changed
  pub record IsItem (host : ℕ) (hosts : List Index) (i : ℕ) (index : Index) : Type 0 where
    pub old : Index
    pub there : slice_get hosts i ≡ Some old
    pub is : ((i ≡ host) × (index ≡ f old)) ⊎ ((i ≡ host → ⊥) × (index ≡ old))

  pub item_changed : (host : ℕ) (hosts : List Index) (i : ℕ) (index : Index) → slice_get (changed_at f host hosts) i ≡ Some index → IsItem host hosts i index
  item_changed host [] i index e = absurd (none-some index e)
  item_changed zero (a ∷ hosts) zero index e = record { old = a; there = refl; is = inl (refl, sym (same_Some (f a) index e)) }
  item_changed zero (a ∷ hosts) (suc i) index e = record { old = index; there = e; is = inr ((λ same. omega (arith, same)), refl) }
  item_changed (suc host) (a ∷ hosts) zero index e = record { old = a; there = refl; is = inr ((λ same. omega (arith, same)), sym (same_Some a index e)) }
  item_changed (suc host) (a ∷ hosts) (suc i) index e =
      let rest = item_changed host hosts i index e in
      record {
        old = rest.old;
        there = rest.there;
        is = elim rest.is [
          | inl here ↦ inl (ap suc here.0, here.1)
          | inr other ↦ inr ((λ same. other.0 (omega (arith, same))), other.1)
        ];
      }

  pub changed_set : (host : ℕ) (hosts : List Index) (d : Index) → host < length hosts → slice_set hosts host (f (get_or hosts host d)) ≡ changed_at f host hosts
  changed_set host [] d within = absurd (omega arith)
  changed_set zero (a ∷ hosts) d within = refl
  changed_set (suc host) (a ∷ hosts) d within = ap (λ (l : List Index). a ∷ l) (changed_set host hosts d (omega arith))

  pub length_changed : (host : ℕ) (hosts : List Index) → length (changed_at f host hosts) ≡ length hosts
  length_changed host [] = refl
  length_changed zero (a ∷ hosts) = refl
  length_changed (suc host) (a ∷ hosts) = ap suc (length_changed host hosts)

  pub names_changed : ((index : Index) → (f index).name ≡ index.name) → (host : ℕ) (hosts : List Index) → names_of (changed_at f host hosts) ≡ names_of hosts
  names_changed keeps host [] = refl
  names_changed keeps zero (a ∷ hosts) = ap (λ (name : List ℕ). name ∷ names_of hosts) (keeps a)
  names_changed keeps (suc host) (a ∷ hosts) = ap (λ (names : List (List ℕ)). a.name ∷ names) (names_changed keeps host hosts)

-- two changes that make the same of the index
pub changed_alike : (f g : Index → Index) (host : ℕ) (hosts : List Index) → ((index : Index) → slice_get hosts host ≡ Some index → f index ≡ g index) → changed_at f host hosts ≡ changed_at g host hosts
changed_alike f g host [] alike = refl
changed_alike f g zero (a ∷ hosts) alike = ap (λ (index : Index). index ∷ hosts) (alike a refl)
changed_alike f g (suc host) (a ∷ hosts) alike = ap (λ (l : List Index). a ∷ l) (changed_alike f g host hosts alike)

-- ---- one host more

pub names_pushed : (hosts : List Index) (index : Index) → names_of (hosts ++ index ∷ []) ≡ names_of hosts ++ index.name ∷ []
names_pushed [] index = refl
names_pushed (a ∷ hosts) index = ap (λ (names : List (List ℕ)). a.name ∷ names) (names_pushed hosts index)

pub length_names : (hosts : List Index) → length (names_of hosts) ≡ length hosts
length_names [] = refl
length_names (a ∷ hosts) = ap suc (length_names hosts)

pub length_pushed : {X : Type 0} (xs : List X) (x : X) → length (xs ++ x ∷ []) ≡ length xs + 1
length_pushed [] x = refl
length_pushed (a ∷ xs) x = let rest = length_pushed xs x in omega (arith, rest)

pub are_pushed : (names : List (List ℕ)) (name : List ℕ) → AreNames names → length names < 1024 → has_name names name ≡ false → AreNames (names ++ name ∷ [])
are_pushed names name are room fresh = record {
  few = omega (arith, length_pushed names name);
  differ = differ_push names name are.differ fresh;
}

-- ---- catalogs

-- a change that keeps names and numbers, and whose lines are sound
pub record Keeps (f : Index → Index) : Type 0 where
  pub name : (index : Index) → (f index).name ≡ index.name
  pub host : (index : Index) → (f index).host ≡ index.host

pub catalog_changed : (f : Index → Index) (host : ℕ) (hosts : List Index) → Keeps f
    → ((index : Index) → slice_get hosts host ≡ Some index → IsSound (f index).next (f index).lines) → IsCatalog hosts → IsCatalog (changed_at f host hosts)
catalog_changed f host hosts keeps sound is = record {
  names = subst AreNames (sym (names_changed f keeps.name host hosts)) is.names;
  each = λ i index there. each i index (item_changed f host hosts i index there);
}
  where
    each : (i : ℕ) (index : Index) → IsItem f host hosts i index → IsHost i index
    each i index item = elim item.is [
      | inl here ↦ subst (IsHost i) (sym here.1) (record {
        number = keeps.host item.old ∙ (is.each i item.old item.there).number;
        sound = sound item.old (subst (λ (k : ℕ). slice_get hosts k ≡ Some item.old) here.0 item.there);
      })
      | inr other ↦ subst (IsHost i) (sym other.1) (is.each i item.old item.there)
    ]

pub catalog_pushed : (hosts : List Index) (index : Index) → IsCatalog hosts → length hosts < 1024 → has_name (names_of hosts) index.name ≡ false → IsHost (length hosts) index
    → IsCatalog (hosts ++ index ∷ [])
catalog_pushed hosts index is room fresh new = record {
  names = subst AreNames (sym (names_pushed hosts index)) (are_pushed (names_of hosts) index.name is.names (omega (arith, length_names hosts, room)) fresh);
  each = λ i other there. elim (item_pushed hosts index i other there) [
    | inl before ↦ is.each i other before
    | inr last ↦ subst (IsHost i) (sym last.1) (subst (λ (k : ℕ). IsHost k index) (sym last.0) new)
  ];
}

pub catalog_none : IsCatalog []
catalog_none = record {
  names = record { few = omega arith; differ = differ_none };
  each = λ i index there. absurd (none-some index there);
}
