-- What records tell of the things whose bytes they are.
use Rattle.std.specs.Prelude.{◌≡◌, ℕ, zero, suc, ◌+◌, ◌*◌, ◌<◌, ◌≤◌, ◌^◌, ◌==◌, not, Bool, true, false, List, [], ◌∷◌, ◌++◌, length, take, drop, map, Option, Some, None, is_none, is_some, if◌then◌else◌}
use Rattle.std.specs.Int.{w64, from_be_bytes, to_be_bytes}
use Rattle.std.specs.List.{AllByRecursion}
use Rattle.std.proofs.Common.{refl, sym, ap, ◌∙◌, length-append, get_or, arith}
use Rattle.std.proofs.lemmas.List.{take_at, drop_at}
use Rattle.std.proofs.Math.Dec.{eqb-suc-zero}
use Rattle.std.proofs.lemmas.Nat.{from_be_bytes-to_be_bytes_8}
use Rattle.wire_bytes.specs.Layout.{number_bytes, flag_bytes}
use Rattle.wire_bytes.specs.Breaks.{items_bytes}
use Rattle.wire_bytes.proofs.Numbers.{length-number_bytes}
use Rattle.certificates.specs.Certificate.{Id, Table, Item, HostPart, PoolFile}
use Rattle.certificates.specs.Layout.{table_grammar, item_bytes, IsItem, host_grammar, file_bytes, IsFile}
use Rattle.certificates.specs.SizeLaws.{all_fit}
use Rattle.certificates.specs.PrintLaws.{host_fits, length-table, length-host}
use Rattle.certificate_judge.specs.Faults.{is_same, number_of, number_in, occurrences, ids_of_items, ids_of_files}
use Rattle.certificate_judge.specs.Judging.{place, one_more, ids_in}

-- ---- items and files

id_of_item : (item : Item) → IsItem item → take 18 (item_bytes item) ≡ item.id
unfolding item_bytes
id_of_item item is = take_at item.id (number_bytes w64 item.count) 18 is.id

pub ids_in-items : (items : List Item) → AllByRecursion IsItem items → ids_in (map item_bytes items) ≡ ids_of_items items
ids_in-items [] all = refl
ids_in-items (item ∷ items) all = λ i. id_of_item item all.0 i ∷ ids_in-items items all.1 i

pub count_of_item : (item : Item) → IsItem item → from_be_bytes w64 (take 8 (drop 18 (item_bytes item))) ≡ item.count
unfolding item_bytes number_bytes
count_of_item item is =
    ap (λ (bytes : List ℕ). from_be_bytes w64 (take 8 bytes)) (drop_at item.id (to_be_bytes w64 item.count) 18 is.id)
    ∙ from_be_bytes-to_be_bytes_8 item.count is.count

id_of_file : (file : PoolFile) → IsFile file → take 18 (file_bytes file) ≡ file.id
unfolding file_bytes
id_of_file file is = take_at file.id (number_bytes w64 file.size ++ (file.found ++ flag_bytes file.mark)) 18 is.id

pub ids_in-files : (files : List PoolFile) → AllByRecursion IsFile files → ids_in (map file_bytes files) ≡ ids_of_files files
ids_in-files [] all = refl
ids_in-files (file ∷ files) all = λ i. id_of_file file all.0 i ∷ ids_in-files files all.1 i

take-take : {A : Type 0} (m n : ℕ) (xs : List A) → m ≤ n → take m (take n xs) ≡ take m xs
take-take zero n xs within = refl
take-take (suc m) zero xs within = absurd (omega arith)
take-take (suc m) (suc n) [] within = refl
take-take (suc m) (suc n) (x ∷ xs) within = ap (λ l. x ∷ l) (take-take m n xs (omega arith))

pub digest_of_file : (file : PoolFile) → IsFile file → take 16 (file_bytes file) ≡ take 16 file.id
digest_of_file file is = sym (take-take 16 18 (file_bytes file) (omega arith)) ∙ ap (take 16) (id_of_file file is)

abbrev nothing : List ℕ
nothing = []

drop_none : (k : ℕ) → drop k nothing ≡ nothing
drop_none zero = refl
drop_none (suc k) = refl

drop-drop : (m n : ℕ) (xs : List ℕ) → drop (m + n) xs ≡ drop n (drop m xs)
drop-drop zero n xs = ap (λ (k : ℕ). drop k xs) (omega arith)
drop-drop (suc m) n [] = drop_none (suc m + n) ∙ sym (drop_none n)
drop-drop (suc m) n (x ∷ xs) =
    let next : suc m + n ≡ suc (m + n) = omega arith in
    ap (λ (k : ℕ). drop k (x ∷ xs)) next ∙ drop-drop m n xs

pub found_in_file : (file : PoolFile) → IsFile file → take 16 (drop 26 (file_bytes file)) ≡ file.found
unfolding file_bytes
found_in_file file is =
    ap (take 16) (drop-drop 18 8 (file_bytes file)
    ∙ ap (drop 8) (drop_at file.id (number_bytes w64 file.size ++ (file.found ++ flag_bytes file.mark)) 18 is.id)
    ∙ drop_at (number_bytes w64 file.size) (file.found ++ flag_bytes file.mark) 8 (length-number_bytes w64 tt file.size))
    ∙ take_at file.found (flag_bytes file.mark) 16 is.found

pub at_index : {A : Type 0} (P : A → Type 0) (xs : List A) (i : ℕ) (d : A) → AllByRecursion P xs → i < length xs → P (get_or xs i d)
at_index P [] i d all within = absurd (omega arith)
at_index P (x ∷ xs) zero d all within = all.0
at_index P (x ∷ xs) (suc i) d all within = at_index P xs i d all.1 (omega arith)

-- ---- whether an id is among others

pub told_none : (o : Option ℕ) (r : Bool) → is_some o ≡ not r → r ≡ is_none o
told_none None true e = refl
told_none None false e = cc
told_none (Some i) true e = cc
told_none (Some i) false e = refl

none_without : (b : Bool) (o : Option ℕ) (n : ℕ) → is_none o ≡ (n == 0) → is_none (if b then Some 0 else one_more o) ≡ ((if b then 1 else 0) + n == 0)
none_without true o n e = sym (more_than n)
  where
    more_than : (n : ℕ) → (1 + n == 0) ≡ false
    more_than n = let next : 1 + n ≡ suc n = omega arith in ap (λ (k : ℕ). k == 0) next ∙ eqb-suc-zero n
none_without false None n e = e ∙ ap (λ (k : ℕ). k == 0) (zero_first n)
  where
    zero_first : (n : ℕ) → n ≡ 0 + n
    zero_first n = omega arith
none_without false (Some i) n e = e ∙ ap (λ (k : ℕ). k == 0) (zero_first n)
  where
    zero_first : (n : ℕ) → n ≡ 0 + n
    zero_first n = omega arith

pub none_at : (id : Id) (ids : List Id) → is_none (place id ids) ≡ (number_of id ids == 0)
none_at id [] = refl
none_at id (x ∷ ids) = none_without (is_same id x) (place id ids) (number_of id ids) (none_at id ids)

-- ---- how often an id is named is a number of 64 bits

one_at_most : (b : Bool) (n m : ℕ) → n ≤ m → (if b then 1 else 0) + n ≤ 1 + m
one_at_most true n m h = omega arith
one_at_most false n m h = omega arith

pub number_of-bound : (id : Id) (ids : List Id) → number_of id ids ≤ length ids
number_of-bound id [] = omega arith
number_of-bound id (x ∷ ids) = let h = one_at_most (is_same id x) (number_of id ids) (length ids) (number_of-bound id ids) in omega (arith, h)

pub number_in-bound : (id : Id) (ts : List Table) → AllByRecursion table_grammar.Fits ts → 18 * number_in id ts ≤ length (items_bytes table_grammar.print ts)
number_in-bound id [] all = omega arith
number_in-bound id (t ∷ ts) all =
    omega (arith, number_of-bound id t.ids, length-table t all.0, number_in-bound id ts all.1, length-append (table_grammar.print t) (items_bytes table_grammar.print ts))

pub occurrences-bound : (host : HostPart) → host_grammar.Fits host → length (host_grammar.print host) < 2 ^ 64 → (id : Id) → occurrences host id < 2 ^ 64
occurrences-bound host fits below id =
    omega (arith, below, length-host host fits, number_in-bound id host.tables (all_fit _ _ _ [] host.tables (host_fits host fits).tables), number_of-bound id host.partial)
