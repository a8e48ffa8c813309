-- The number of a name: by its place, and by the order of names.
use Rattle.std.proofs.Common.{◌≡◌, ℕ, zero, suc, ◌+◌, ◌<◌, ◌≤◌, Bool, true, false, ◌||◌, cond, List, [], ◌∷◌, ◌++◌, length, take, drop, get_or, bytes_eq, Some, None, is_some, refl, sym, ap, subst, ◌∙◌, arith}
use Rattle.std.specs.Prelude.{insert}
use Rattle.std.specs.List.{position_from, list_any, AllByRecursion, IsDistinct}
use Rattle.std.specs.Ordering.{eq_by_cmp}
use Rattle.std.specs.Cmp.Lexicographic.{bytes_decides, nat_list_cmp_total}
use Rattle.std.specs.FinMap.Entries.{find, put, find-put}
use Rattle.std.proofs.lemmas.Map.Text.{is_eq-slice_cmp}
use Rattle.std.proofs.lemmas.Option.{none-some, same_Some}
use Rattle.std.proofs.lemmas.Bool.{false≢true, or_from}
use Rattle.ordered_lists.specs.Order.{IsInOrder}
use Rattle.ordered_lists.specs.OrderLaws.{IsInOrder-put}
use Rattle.std.proofs.lemmas.List.{take_more, take_all}
use Rattle.backup_index.specs.Index.{Index}
use Rattle.backup_index.specs.Names.{has_name, Differ, AreNames}
use Rattle.office_catalog.specs.Known.{names_of, host_named}
use Rattle.office_catalog.specs.Named.{name_cmp}
use Rattle.office_catalog.specs.Kept.{AreByName}
use Rattle.office_catalog.proofs.Hosts.{length_pushed, length_names, names_pushed}

-- ---- places

module _ {X : Type 0} (test : X → Bool) where
  pub some_place : (i : ℕ) (xs : List X) → is_some (position_from test i xs) ≡ list_any test xs
  some_place i [] = refl
  some_place i (x ∷ xs) = step (test x) (some_place (i + 1) xs)
    where
      step : (b : Bool) → is_some (position_from test (i + 1) xs) ≡ list_any test xs → is_some (cond b (Some i) (position_from test (i + 1) xs)) ≡ (b || list_any test xs)
      step true rest = refl
      step false rest = rest

  pub no_place : (i : ℕ) (xs : List X) → list_any test xs ≡ false → position_from test i xs ≡ None
  no_place i [] none = refl
  no_place i (x ∷ xs) none = step (test x) (no_place (i + 1) xs) none
    where
      step : (b : Bool) → (list_any test xs ≡ false → position_from test (i + 1) xs ≡ None) → (b || list_any test xs) ≡ false → cond b (Some i) (position_from test (i + 1) xs) ≡ None
      step true rest none = absurd (false≢true (sym none))
      step false rest none = rest none

  pub place_within : (i : ℕ) (xs : List X) (k : ℕ) → position_from test i xs ≡ Some k → k < i + length xs
  place_within i [] k e = absurd (none-some k e)
  place_within i (x ∷ xs) k e = step (test x) (place_within (i + 1) xs k) e
    where
      step : (b : Bool) → (position_from test (i + 1) xs ≡ Some k → k < i + 1 + length xs) → cond b (Some i) (position_from test (i + 1) xs) ≡ Some k → k < i + suc (length xs)
      step true rest e = let same : i ≡ k = same_Some i k e in omega (arith, same)
      step false rest e = let below = rest e in omega (arith, below)

  -- one item more, which passes or not
  pub place_pushed : (i : ℕ) (xs : List X) (x : X) → test x ≡ false → position_from test i (xs ++ x ∷ []) ≡ position_from test i xs
  place_pushed i [] x not = ap (λ (b : Bool). cond b (Some i) None) not
  place_pushed i (y ∷ xs) x not = ap (cond (test y) (Some i)) (place_pushed (i + 1) xs x not)

  pub place_last : (i : ℕ) (xs : List X) (x : X) → list_any test xs ≡ false → test x ≡ true → position_from test i (xs ++ x ∷ []) ≡ Some (i + length xs)
  place_last i [] x none is = ap (λ (b : Bool). cond b (Some i) None) is ∙ ap Some (omega arith)
  place_last i (y ∷ xs) x none is = step (test y) (place_last (i + 1) xs x) none
    where
      step : (b : Bool) → (list_any test xs ≡ false → test x ≡ true → position_from test (i + 1) (xs ++ x ∷ []) ≡ Some (i + 1 + length xs)) → (b || list_any test xs) ≡ false
          → cond b (Some i) (position_from test (i + 1) (xs ++ x ∷ [])) ≡ Some (i + suc (length xs))
      step true rest none = absurd (false≢true (sym none))
      step false rest none = rest none is ∙ ap Some (omega arith)

-- ---- names

other_way : (a b : List ℕ) → bytes_eq a b ≡ bytes_eq b a
other_way a b = step (bytes_eq a b) (bytes_eq b a) (λ e. (bytes_decides b a).1 (sym ((bytes_decides a b).0 e))) (λ e. (bytes_decides a b).1 (sym ((bytes_decides b a).0 e)))
  where
    step : (x y : Bool) → (x ≡ true → y ≡ true) → (y ≡ true → x ≡ true) → x ≡ y
    step true y f g = sym (f refl)
    step false true f g = g refl
    step false false f g = refl

pub some_named : (names : List (List ℕ)) (name : List ℕ) → is_some (host_named names name) ≡ has_name names name
some_named names name = some_place (λ other. bytes_eq other name) 0 names

pub named_within : (names : List (List ℕ)) (name : List ℕ) (host : ℕ) → host_named names name ≡ Some host → host < length names
named_within names name host e = let below = place_within (λ other. bytes_eq other name) 0 names host e in omega (arith, below)

pub none_named : (names : List (List ℕ)) (name : List ℕ) → has_name names name ≡ false → host_named names name ≡ None
none_named names name fresh = no_place (λ other. bytes_eq other name) 0 names fresh

-- the number of each name where there is one name more
pub named_pushed : (names : List (List ℕ)) (name asked : List ℕ) → has_name names name ≡ false
    → host_named (names ++ name ∷ []) asked ≡ cond (eq_by_cmp name_cmp asked name) (Some (length names)) (host_named names asked)
named_pushed names name asked fresh = step (bytes_eq name asked) refl ∙ ap (λ (b : Bool). cond b (Some (length names)) (host_named names asked)) (other_way name asked ∙ sym (is_eq-slice_cmp asked name))
  where
    step : (b : Bool) → bytes_eq name asked ≡ b → host_named (names ++ name ∷ []) asked ≡ cond b (Some (length names)) (host_named names asked)
    step true is =
        let same : name ≡ asked = (bytes_decides name asked).0 is in
        place_last (λ other. bytes_eq other asked) 0 names name (subst (λ (n : List ℕ). has_name names n ≡ false) same fresh) is ∙ ap Some (omega arith)
    step false is = place_pushed (λ other. bytes_eq other asked) 0 names name is

-- ---- in the order of names

pub by_no_name : AreByName [] []
by_no_name = record { in_order = tt; finds = λ name. refl; counted = refl }

put_there : (entries : List (List ℕ × ℕ)) (place : ℕ) (entry : List ℕ × ℕ) → take place entries ++ entry ∷ drop place entries ≡ insert entries place entry
put_there entries place entry = refl

-- a further name, put where a search says
pub by_one_more : (names : List (List ℕ)) (entries entries' : List (List ℕ × ℕ)) (name : List ℕ) → AreByName names entries → has_name names name ≡ false
    → put name_cmp name (length names) entries ≡ entries' → length entries' ≡ length entries + 1 → AreByName (names ++ name ∷ []) entries'
by_one_more names entries entries' name are fresh put_is longer = record {
  in_order = subst (IsInOrder name_cmp) put_is (IsInOrder-put name_cmp nat_list_cmp_total name (length names) entries are.in_order);
  finds = λ asked.
      ap (find name_cmp asked) (sym put_is) ∙ find-put name_cmp nat_list_cmp_total asked name (length names) entries
      ∙ ap (cond (eq_by_cmp name_cmp asked name) (Some (length names))) (are.finds asked)
      ∙ sym (named_pushed names name asked fresh);
  counted = omega (arith, longer, are.counted, length_pushed names name);
}

-- ---- names that differ

passes_at : {X : Type 0} (P : X → Type 0) (xs : List X) (i : ℕ) (d : X) → AllByRecursion P xs → i < length xs → P (get_or xs i d)
passes_at P [] i d all within = absurd (omega arith)
passes_at P (x ∷ xs) zero d all within = all.0
passes_at P (x ∷ xs) (suc i) d all within = passes_at P xs i d all.1 (omega arith)

-- a name is none of those before it
pub fresh_at : (names : List (List ℕ)) (i : ℕ) (d : List ℕ) → Differ names → i < length names → has_name (take i names) (get_or names i d) ≡ false
unfolding IsDistinct
fresh_at [] i d differ within = absurd (omega arith)
fresh_at (name ∷ names) zero d differ within = refl
fresh_at (name ∷ names) (suc i) d differ within =
    or_from (bytes_eq name (get_or names i d)) (has_name (take i names) (get_or names i d))
    (passes_at (λ other. bytes_eq name other ≡ false) names i d differ.0 (omega arith)) (fresh_at names i d differ.1 (omega arith))

pub length_take : {X : Type 0} (i : ℕ) (xs : List X) → i < length xs → length (take i xs) ≡ i
length_take i [] within = absurd (omega arith)
length_take zero (x ∷ xs) within = refl
length_take (suc i) (x ∷ xs) within = ap suc (length_take i xs (omega arith))

name_at : (items : List Index) (i : ℕ) (index : Index) (name : List ℕ) → i < length items → (get_or items i index).name ≡ get_or (names_of items) i name
name_at [] i index name within = absurd (omega arith)
name_at (x ∷ items) zero index name within = refl
name_at (x ∷ items) (suc i) index name within = name_at items i index name (omega arith)

names_taken : (i : ℕ) (items : List Index) → names_of (take i items) ≡ take i (names_of items)
names_taken zero items = refl
names_taken (suc i) [] = refl
names_taken (suc i) (x ∷ items) = ap (λ (l : List (List ℕ)). x.name ∷ l) (names_taken i items)

-- the names of the first hosts, as a loop takes them
pub few_taken : (taken : List (List ℕ)) (i : ℕ) (items hosts : List Index) → taken ≡ names_of (take i items) → items ≡ hosts → AreNames (names_of hosts) → i < length items → length taken < 1024
few_taken taken i items hosts is same are within =
    let few : length (names_of hosts) ≤ 1024 = are.few in
    let count : length (take i items) ≡ i = length_take i items within in
    omega (arith, ap length is, length_names (take i items), count, length_names hosts, ap length same, few, within)

pub fresh_taken : (taken : List (List ℕ)) (i : ℕ) (items hosts : List Index) (index : Index) (name : List ℕ) → taken ≡ names_of (take i items) → items ≡ hosts → AreNames (names_of hosts) → i < length items
    → index ≡ get_or items i index → name ≡ index.name → has_name taken name ≡ false
fresh_taken taken i items hosts index name is same are within here name_is =
    let names = names_of items in
    let name_there : name ≡ get_or names i name = name_is ∙ ap (λ (x : Index). x.name) here ∙ name_at items i index name within in
    let all : Differ names = subst (λ (l : List Index). Differ (names_of l)) (sym same) are.differ in
    ap (λ (l : List (List ℕ)). has_name l name) (is ∙ names_taken i items) ∙ ap (has_name (take i names)) name_there ∙ fresh_at names i name all (omega (arith, within, length_names items))

pub names_more : (taken taken' : List (List ℕ)) (i : ℕ) (items : List Index) (index : Index) (name : List ℕ) → taken ≡ names_of (take i items) → i < length items → index ≡ get_or items i index → name ≡ index.name
    → taken' ≡ taken ++ name ∷ [] → taken' ≡ names_of (take (i + 1) items)
names_more taken taken' i items index name is within here name_is more =
    more ∙ ap (λ (l : List (List ℕ)). l ++ name ∷ []) is ∙ ap (λ (n : List ℕ). names_of (take i items) ++ n ∷ []) (name_is ∙ ap (λ (x : Index). x.name) here)
    ∙ sym (names_pushed (take i items) (get_or items i index)) ∙ ap names_of (sym (take_more items i index within))

pub names_all : (taken : List (List ℕ)) (i : ℕ) (items hosts : List Index) → taken ≡ names_of (take i items) → items ≡ hosts → length items ≤ i → taken ≡ names_of hosts
names_all taken i items hosts is same over = is ∙ ap names_of (take_all i items over ∙ same)
