-- How many of the names in use have a digest.
--     spent      each extension below a bound is used: as many names have the digest
--     unspent      one isn't, and all names in use are below the bound: fewer have it
use Rattle.std.specs.Prelude.{◌≡◌, ◌<◌, ◌≤◌, ℕ, zero, suc, ◌+◌, ◌==◌, ◌&&◌, nat_lt, nat_le, Bool, true, false, cond, List, [], ◌∷◌, bytes_eq, Some, slice_get, ◌⊎◌}
use Rattle.std.specs.List.{count_by}
use Rattle.std.proofs.Common.{refl, sym, ap, ◌∙◌, inl, inr, arith}
use Rattle.std.proofs.lemmas.Bool.Decides.{nat_tests, Decides-eqb}
use Rattle.std.proofs.lemmas.Slice.Eq.{bytes_eq-Decides}
use Rattle.std.proofs.lemmas.List.Sums.{sum_by-cons}
use Rattle.disk_trait.specs.declared.ids.PoolId.{PoolId}
use Rattle.pool_changes.specs.Slots.{id_of}
use Rattle.office_model.specs.UsedNames.{Among, AreDistinct}

-- 1 or 0
abbrev bit : Bool → ℕ
bit b = cond b 1 0

one : {A : Type 0} (p : A → Bool) (x : A) (xs : List A) → count_by p (x ∷ xs) ≡ bit (p x) + count_by p xs
one p x xs = sum_by-cons (λ y. cond (p y) 1 0) x xs

-- ---- any test

module _ {A : Type 0} (p : A → Bool) where
  some_count : (xs : List A) (i : ℕ) (x : A) → slice_get xs i ≡ Some x → p x ≡ true → 1 ≤ count_by p xs
  some_count [] i x e h = absurd cc
  some_count (y ∷ xs) zero x e h =
      let same : y ≡ x = cc in
      let here : bit (p y) ≡ 1 = ap bit (ap p same ∙ h) in
      omega (arith, one p y xs, here)
  some_count (y ∷ xs) (suc i) x e h = omega (arith, one p y xs, some_count xs i x e h)

  none_count : (xs : List A) → ((i : ℕ) (x : A) → slice_get xs i ≡ Some x → p x ≡ false) → count_by p xs ≡ 0
  none_count [] none = refl
  none_count (y ∷ xs) none =
      let here : bit (p y) ≡ 0 = ap bit (none zero y refl) in
      omega (arith, one p y xs, here, none_count xs (λ i x e. none (suc i) x e))

  abbrev IsOne : List A → Type 0
  IsOne xs = (i j : ℕ) (a b : A) → slice_get xs i ≡ Some a → slice_get xs j ≡ Some b → p a ≡ true → p b ≡ true → i ≡ j

  most_one : (xs : List A) → IsOne xs → count_by p xs ≤ 1
  most_one [] only = omega arith
  most_one (y ∷ xs) only = step (p y) refl (one p y xs) (most_one xs (λ i j a b e f g h. less i j (only (suc i) (suc j) a b e f g h)))
    where
      less : (i j : ℕ) → suc i ≡ suc j → i ≡ j
      less i j e = omega (arith, e)

      no_other : p y ≡ true → (i : ℕ) (x : A) → slice_get xs i ≡ Some x → (b : Bool) → p x ≡ b → p x ≡ false
      no_other here i x e true h = absurd (let same = only zero (suc i) y x refl e here h in omega (arith, same))
      no_other here i x e false h = h

      step : (b : Bool) → p y ≡ b → count_by p (y ∷ xs) ≡ bit (p y) + count_by p xs → count_by p xs ≤ 1 → count_by p (y ∷ xs) ≤ 1
      step true here all rest =
          let none = none_count xs (λ i x e. no_other here i x e (p x) refl) in
          let mine : bit (p y) ≡ 1 = ap bit here in
          omega (arith, all, mine, none)
      step false here all rest =
          let mine : bit (p y) ≡ 0 = ap bit here in omega (arith, all, mine, rest)

  same_count : (q : A → Bool) (xs : List A) → ((i : ℕ) (x : A) → slice_get xs i ≡ Some x → p x ≡ q x) → count_by p xs ≡ count_by q xs
  same_count q [] same = refl
  same_count q (y ∷ xs) same =
      let here : bit (p y) ≡ bit (q y) = ap bit (same zero y refl) in
      omega (arith, one p y xs, one q y xs, here, same_count q xs (λ i x e. same (suc i) x e))

-- ---- names of a digest

module _ (digest : List ℕ) where
  abbrev has_digest : PoolId → Bool
  has_digest id = bytes_eq id.digest digest

  -- this digest and extension; this digest, and a lesser extension
  abbrev has : ℕ → PoolId → Bool
  has extension id = bytes_eq id.digest digest && (id.extension == extension)

  abbrev below : ℕ → PoolId → Bool
  below n id = bytes_eq id.digest digest && nat_lt id.extension n

  next_test : (b : Bool) (e n : ℕ) → bit (b && nat_lt e (n + 1)) ≡ bit (b && nat_lt e n) + bit (b && (e == n))
  next_test false e n = refl
  next_test true e n = grind (arith, nat_tests)

  below_next : (n : ℕ) (names : List PoolId) → count_by (below (n + 1)) names ≡ count_by (below n) names + count_by (has n) names
  below_next n [] = refl
  below_next n (id ∷ names) =
      omega (
        arith,
        one (below (n + 1)) id names,
        one (below n) id names,
        one (has n) id names,
        below_next n names,
        next_test (bytes_eq id.digest digest) id.extension n,
      )

  below_suc : (n : ℕ) (names : List PoolId) → count_by (below (suc n)) names ≡ count_by (below n) names + count_by (has n) names
  below_suc n names =
      let next : suc n ≡ n + 1 = omega arith in ap (λ m. count_by (below m) names) next ∙ below_next n names

  both : (a b : Bool) → a ≡ true → b ≡ true → (a && b) ≡ true
  both true b e f = f
  both false b e f = absurd (cc)

  itself : (n : ℕ) → has n (id_of digest n) ≡ true
  itself n = both (bytes_eq digest digest) (n == n) ((bytes_eq-Decides digest digest).1 refl) ((Decides-eqb n n).1 refl)

  parts : (a b : Bool) → (a && b) ≡ true → (a ≡ true) × (b ≡ true)
  parts true b e = (refl, e)
  parts false b e = absurd (cc)

  it_is : (n : ℕ) (id : PoolId) → has n id ≡ true → id ≡ id_of digest n
  it_is n id h =
      let w = parts (bytes_eq id.digest digest) (id.extension == n) h in
      let digests : id.digest ≡ digest = (bytes_eq-Decides id.digest digest).0 w.0 in
      let extensions : id.extension ≡ n = (Decides-eqb id.extension n).0 w.1 in
      (λ i. id_of (digests i) (extensions i))

  module _ (names : List PoolId) where
    all_below : (n : ℕ) → ((k : ℕ) → k < n → Among names (id_of digest k)) → n ≤ count_by (below n) names
    all_below zero all = omega arith
    all_below (suc n) all =
        let here = all n (omega arith) in
        omega (
          arith,
          all_below n (λ k h. all k (omega (arith, h))),
          below_suc n names,
          some_count (has n) names here.0 (id_of digest n) here.1 (itself n),
        )

    fewer : (n : ℕ) (some : List PoolId) → count_by (below n) some ≤ count_by has_digest some
    fewer n [] = omega arith
    fewer n (id ∷ some) =
        omega (
          arith,
          one (below n) id some,
          one has_digest id some,
          fewer n some,
          least (bytes_eq id.digest digest) (nat_lt id.extension n),
        )
      where
        least : (b c : Bool) → bit (b && c) ≤ bit b
        least true true = omega arith
        least true false = omega arith
        least false c = omega arith

    module _ (distinct : AreDistinct names) where
      few_has : (n : ℕ) → count_by (has n) names ≤ 1
      few_has n = most_one (has n) names (λ i j a b e f g h. distinct i j a b e f (it_is n a g ∙ sym (it_is n b h)))

      few_below : (n : ℕ) → count_by (below n) names ≤ n
      few_below zero = omega (arith, none_count (below zero) names (λ i x e. nothing (bytes_eq x.digest digest) x.extension))
        where
          nothing : (b : Bool) (e : ℕ) → (b && nat_lt e zero) ≡ false
          nothing true e = grind (arith, nat_tests)
          nothing false e = refl
      few_below (suc n) = omega (arith, few_below n, below_suc n names, few_has n)

      missing_below : (k n : ℕ) → k < n → (Among names (id_of digest k) → ⊥) → count_by (below n) names < n
      missing_below k zero h missing = absurd (omega (arith, h))
      missing_below k (suc n) h missing = step (order k n h) (λ less. missing_below k n less missing)
        where
          order : (k n : ℕ) → k < suc n → (k ≡ n) ⊎ (k < n)
          order k n h = grind arith

          step : (k ≡ n) ⊎ (k < n) → (k < n → count_by (below n) names < n) → count_by (below (suc n)) names < suc n
          step (inl same) rest =
              let none = none_count (has n) names (λ i x e. not_it i x e (has n x) refl) in
              omega (arith, few_below n, below_suc n names, none)
            where
              not_it : (i : ℕ) (x : PoolId) → slice_get names i ≡ Some x → (b : Bool) → has n x ≡ b → has n x ≡ false
              not_it i x e true f = absurd (missing (i, e ∙ ap Some (it_is n x f ∙ ap (id_of digest) (sym same))))
              not_it i x e false f = f
          step (inr less) rest = omega (arith, rest less, below_suc n names, few_has n)

    at_least : (bound n : ℕ) → bound ≤ n → nat_le bound n ≡ true
    at_least bound n h = grind (arith, nat_tests)

    not_least : (bound n : ℕ) → n < bound → nat_le bound n ≡ false
    not_least bound n h = grind (arith, nat_tests)

    pub spent : (bound : ℕ) → ((k : ℕ) → k < bound → Among names (id_of digest k)) → nat_le bound (count_by has_digest names) ≡ true
    spent bound all = at_least bound (count_by has_digest names) (omega (arith, all_below bound all, fewer bound names))

    pub unspent : (bound k : ℕ) → AreDistinct names → ((id : PoolId) → Among names id → id.extension < bound) → k < bound
        → (Among names (id_of digest k) → ⊥) → nat_le bound (count_by has_digest names) ≡ false
    unspent bound k distinct near h missing =
        not_least bound (count_by has_digest names)
        (let same = same_count has_digest (below bound) names (λ i x e. within (bytes_eq x.digest digest) x.extension (near x (i, e))) in
        omega (arith, missing_below distinct k bound h missing, same))
      where
        within : (b : Bool) (e : ℕ) → e < bound → b ≡ (b && nat_lt e bound)
        within true e h = grind (arith, nat_tests)
        within false e h = refl
