-- A certificate has no fault exactly if it is right.
--     right_from_none, none_from_right
use Rattle.std.specs.Prelude.{◌≡◌, ℕ, zero, suc, ◌+◌, ◌<◌, ◌==◌, ◌||◌, not, Bool, true, false, List, [], ◌∷◌, ◌++◌, length, take, if◌then◌else◌}
use Rattle.std.specs.declared.cmp.Ordering.{Ordering}
use Rattle.std.specs.declared.cmp.Ordering.TheVariants.{Less, Equal, Greater}
use Rattle.std.specs.Ordering.{nat_cmp, is_eq}
use Rattle.std.specs.Cmp.{unsigned_ties}
use Rattle.std.specs.Cmp.Lexicographic.{lists_ties}
use Rattle.std.specs.FinMap.{nat_cmp-IsAntisymmetric, slice_cmp-IsAntisymmetric}
use Rattle.std.specs.List.{AllByRecursion}
use Rattle.std.proofs.Common.{refl, sym, ap, subst, ◌∙◌, arith}
use Rattle.std.proofs.lemmas.Bool.{eqb-true, eq-eqb, ne_eqb}
use Rattle.std.proofs.lemmas.Cmp.{nat_list_eq_equiv}
use Rattle.certificates.specs.Certificate.{Id, Table, HostPart, PoolFile, Certificate}
use Rattle.certificates.specs.Layout.{id_cmp, table_grammar, host_grammar}
use Rattle.certificate_judge.specs.Faults.{is_same, number_of, number_in, occurrences, is_unknown, is_miscounted, is_misfound, ids_of_items, ids_of_files, wrong, tables_faults, host_faults, hosts_faults, faults, tables_at, partial_at, items_at, pool_at}
use Rattle.certificate_judge.specs.Right.{IsRightHost, IsRightFile, IsRight}

-- ---- one test

equal_from_test : (r : Ordering) → is_eq r ≡ true → r ≡ Equal
equal_from_test Less e = cc
equal_from_test Equal e = refl
equal_from_test Greater e = cc

same : (a b : List ℕ) → is_same a b ≡ true → a ≡ b
same a b e = slice_cmp-IsAntisymmetric nat_cmp-IsAntisymmetric a b (equal_from_test (id_cmp a b) (sym (lists_ties nat_cmp unsigned_ties a b) ∙ e))

true_from_not : (b : Bool) → not b ≡ false → b ≡ true
true_from_not true e = refl
true_from_not false e = cc

neither : (a b : Bool) → a || b ≡ false → (a ≡ false) × (b ≡ false)
neither true b e = cc
neither false true e = cc
neither false false e = (refl, refl)

some : (n : ℕ) → (n == 0) ≡ false → 0 < n
some zero e = cc
some (suc n) e = omega arith

-- ---- lists without a fault

none_both : (xs ys : List ℕ) → xs ++ ys ≡ [] → (xs ≡ []) × (ys ≡ [])
none_both [] ys e = (refl, e)
none_both (x ∷ xs) ys e = cc

module _ {A : Type 0} (is_wrong : A → Bool) (size : ℕ) where
  first_right : (b : Bool) (at : ℕ) (os : List ℕ) → (if b then at ∷ os else os) ≡ [] → (b ≡ false) × (os ≡ [])
  first_right true at os e = cc
  first_right false at os e = (refl, e)

  all_right : (at : ℕ) (xs : List A) → wrong is_wrong size at xs ≡ [] → AllByRecursion (λ x. is_wrong x ≡ false) xs
  all_right at [] e = tt
  all_right at (x ∷ xs) e = let both = first_right (is_wrong x) at (wrong is_wrong size (at + size) xs) e in (both.0, all_right (at + size) xs both.1)

map_all : {A : Type 0} (P Q : A → Type 0) → ((x : A) → P x → Q x) → (xs : List A) → AllByRecursion P xs → AllByRecursion Q xs
map_all P Q f [] all = tt
map_all P Q f (x ∷ xs) all = (f x all.0, map_all P Q f xs all.1)

-- ---- an id that is named is right

module _ (is_wrong : Id → Bool) (id : Id) where
  hit : (b : Bool) (x : Id) (n : ℕ) → is_same id x ≡ b → is_wrong x ≡ false → (0 < n → is_wrong id ≡ false) → 0 < (if b then 1 else 0) + n → is_wrong id ≡ false
  hit true x n e right later h = ap is_wrong (same id x e) ∙ right
  hit false x n e right later h = later (omega (arith, h))

  right_in : (xs : List Id) → AllByRecursion (λ x. is_wrong x ≡ false) xs → 0 < number_of id xs → is_wrong id ≡ false
  right_in [] all h = absurd (omega (arith, h))
  right_in (x ∷ xs) all h = hit (is_same id x) x (number_of id xs) refl all.0 (right_in xs all.1) h

  either_part : (m n : ℕ) {P : Type 0} → (0 < m → P) → (0 < n → P) → 0 < m + n → P
  either_part zero n f g h = g (omega (arith, h))
  either_part (suc m) n f g h = f (omega arith)

  right_in_tables : (at : ℕ) (ts : List Table) → tables_faults is_wrong at ts ≡ [] → 0 < number_in id ts → is_wrong id ≡ false
  right_in_tables at [] e h = absurd (omega (arith, h))
  right_in_tables at (t ∷ ts) e h =
      let both = none_both (wrong is_wrong 18 (at + 8) t.ids) (tables_faults is_wrong (at + length (table_grammar.print t)) ts) e in
      either_part (number_of id t.ids) (number_in id ts) (right_in t.ids (all_right is_wrong 18 (at + 8) t.ids both.0))
      (right_in_tables (at + length (table_grammar.print t)) ts both.1) h

-- ---- hosts, files, and the whole

right_host : (pool : List PoolFile) (at : ℕ) (host : HostPart) → host_faults (ids_of_files pool) at host ≡ [] → IsRightHost pool host
right_host pool at host e =
    let u : Id → Bool = is_unknown (ids_of_items host.items) (ids_of_files pool) in
    let first = none_both (tables_faults u (tables_at at host) host.tables) (wrong u 18 (partial_at at host) host.partial ++ wrong (is_miscounted (occurrences host)) 26 (items_at at host + 18) host.items) e in
    let rest = none_both (wrong u 18 (partial_at at host) host.partial) (wrong (is_miscounted (occurrences host)) 26 (items_at at host + 18) host.items) first.1 in
    let known : (id : Id) → 0 < occurrences host id → (number_of id (ids_of_items host.items) == 0 ≡ false) × (number_of id (ids_of_files pool) == 0 ≡ false) =
    λ id h. neither _ _ (either_part u id (number_in id host.tables) (number_of id host.partial) (right_in_tables u id (tables_at at host) host.tables first.0)
    (right_in u id host.partial (all_right u 18 (partial_at at host) host.partial rest.0)) h) in
    record {
      counts = map_all (λ item. is_miscounted (occurrences host) item ≡ false) (λ item. item.count ≡ occurrences host item.id)
          (λ item f. eqb-true item.count (occurrences host item.id) (true_from_not (item.count == occurrences host item.id) f)) host.items
          (all_right (is_miscounted (occurrences host)) 26 (items_at at host + 18) host.items rest.1);
      counted = λ id h. some _ (known id h).0;
      pooled = λ id h. some _ (known id h).1;
    }

right_hosts : (pool : List PoolFile) (at : ℕ) (hosts : List HostPart) → hosts_faults (ids_of_files pool) at hosts ≡ [] → AllByRecursion (IsRightHost pool) hosts
right_hosts pool at [] e = tt
right_hosts pool at (h ∷ hs) e =
    let both = none_both (host_faults (ids_of_files pool) at h) (hosts_faults (ids_of_files pool) (at + length (host_grammar.print h)) hs) e in
    (right_host pool at h both.0, right_hosts pool (at + length (host_grammar.print h)) hs both.1)

pub right_from_none : (c : Certificate) → faults c ≡ [] → IsRight c
right_from_none c e =
    let both = none_both (hosts_faults (ids_of_files c.pool) 16 c.hosts) (wrong is_misfound 43 (pool_at c + 26) c.pool) e in record {
      hosts = right_hosts c.pool 16 c.hosts both.0;
      files = map_all (λ file. is_misfound file ≡ false) IsRightFile (λ file f. same (take 16 file.id) file.found (true_from_not (is_same (take 16 file.id) file.found) f)) c.pool
          (all_right is_misfound 43 (pool_at c + 26) c.pool both.1);
    }

-- ---- the reverse: what is right has no fault

same_itself : (a : List ℕ) → is_same a a ≡ true
same_itself a = nat_list_eq_equiv.refl a

not_zero : (n : ℕ) → 0 < n → (n == 0) ≡ false
not_zero n h = ne_eqb n 0 (λ e. omega (arith, h, e))

module _ {A : Type 0} (is_wrong : A → Bool) (size : ℕ) where
  first_none : (b : Bool) (at : ℕ) (os : List ℕ) → b ≡ false → os ≡ [] → (if b then at ∷ os else os) ≡ []
  first_none true at os e none = cc
  first_none false at os e none = none

  none_wrong : (at : ℕ) (xs : List A) → AllByRecursion (λ x. is_wrong x ≡ false) xs → wrong is_wrong size at xs ≡ []
  none_wrong at [] all = refl
  none_wrong at (x ∷ xs) all = first_none (is_wrong x) at (wrong is_wrong size (at + size) xs) all.0 (none_wrong (at + size) xs all.1)

module _ (is_wrong : Id → Bool) where
  named_first : (x : Id) (xs : List Id) → 0 < number_of x (x ∷ xs)
  named_first x xs = subst (λ (b : Bool). 0 < (if b then 1 else 0) + number_of x xs) (sym (same_itself x)) (omega arith)

  each_named : (xs : List Id) → ((id : Id) → 0 < number_of id xs → is_wrong id ≡ false) → AllByRecursion (λ x. is_wrong x ≡ false) xs
  each_named [] right = tt
  each_named (x ∷ xs) right = (right x (named_first x xs), each_named xs (λ id h. right id (omega (arith, h))))

  none_in_tables : (at : ℕ) (ts : List Table) → ((id : Id) → 0 < number_in id ts → is_wrong id ≡ false) → tables_faults is_wrong at ts ≡ []
  none_in_tables at [] right = refl
  none_in_tables at (t ∷ ts) right =
      let here = none_wrong is_wrong 18 (at + 8) t.ids (each_named t.ids (λ id h. right id (omega (arith, h)))) in
      let later = none_in_tables (at + length (table_grammar.print t)) ts (λ id h. right id (omega (arith, h))) in
      ap (λ (os : List ℕ). os ++ tables_faults is_wrong (at + length (table_grammar.print t)) ts) here ∙ later

known_from : (items pool : List Id) (id : Id) → 0 < number_of id items → 0 < number_of id pool → is_unknown items pool id ≡ false
known_from items pool id one other = ap (λ (b : Bool). b || (number_of id pool == 0)) (not_zero (number_of id items) one) ∙ not_zero (number_of id pool) other

none_of_host : (pool : List PoolFile) (at : ℕ) (host : HostPart) → IsRightHost pool host → host_faults (ids_of_files pool) at host ≡ []
none_of_host pool at host right =
    let u : Id → Bool = is_unknown (ids_of_items host.items) (ids_of_files pool) in
    let m = is_miscounted (occurrences host) in
    let known : (id : Id) → 0 < occurrences host id → u id ≡ false =
    λ id h. known_from (ids_of_items host.items) (ids_of_files pool) id (right.counted id h) (right.pooled id h) in
    let of_tables = none_in_tables u (tables_at at host) host.tables (λ id h. known id (omega (arith, h))) in
    let of_partial = none_wrong u 18 (partial_at at host) host.partial (each_named u host.partial (λ id h. known id (omega (arith, h)))) in
    let of_items = none_wrong m 26 (items_at at host + 18) host.items
    (map_all (λ item. item.count ≡ occurrences host item.id) (λ item. m item ≡ false)
    (λ item e. ap not (eq-eqb item.count (occurrences host item.id) e)) host.items right.counts) in
    ap (λ (os : List ℕ). os ++ (wrong u 18 (partial_at at host) host.partial ++ wrong m 26 (items_at at host + 18) host.items)) of_tables
    ∙ (ap (λ (os : List ℕ). os ++ wrong m 26 (items_at at host + 18) host.items) of_partial ∙ of_items)

none_of_hosts : (pool : List PoolFile) (at : ℕ) (hosts : List HostPart) → AllByRecursion (IsRightHost pool) hosts → hosts_faults (ids_of_files pool) at hosts ≡ []
none_of_hosts pool at [] all = refl
none_of_hosts pool at (h ∷ hs) all =
    ap (λ (os : List ℕ). os ++ hosts_faults (ids_of_files pool) (at + length (host_grammar.print h)) hs) (none_of_host pool at h all.0)
    ∙ none_of_hosts pool (at + length (host_grammar.print h)) hs all.1

found_right : (file : PoolFile) → IsRightFile file → is_misfound file ≡ false
found_right file e = ap not (subst (λ (found : List ℕ). is_same (take 16 file.id) found ≡ true) e (same_itself (take 16 file.id)))

pub none_from_right : (c : Certificate) → IsRight c → faults c ≡ []
none_from_right c right =
    ap (λ (os : List ℕ). os ++ wrong is_misfound 43 (pool_at c + 26) c.pool) (none_of_hosts c.pool 16 c.hosts right.hosts)
    ∙ none_wrong is_misfound 43 (pool_at c + 26) c.pool (map_all IsRightFile (λ file. is_misfound file ≡ false) found_right c.pool right.files)
