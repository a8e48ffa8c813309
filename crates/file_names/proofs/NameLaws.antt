-- A file's real name is read as that file, and what is read as a file is its real name.
use Rattle.std.specs.Prelude.{◌≡◌, ℕ, ◌+◌, ◌-◌, ◌*◌, ◌/◌, ◌^◌, ◌<◌, ◌≤◌, ◌==◌, nat_lt, slice_index, Bool, true, false, List, [], ◌∷◌, ◌++◌, length, take, drop, Option, Some, None, Ok, Err, Result, codes, decimal, if◌then◌else◌, bytes_eq, option_and_then, ◌⊎◌, refl}
use Rattle.std.specs.Option.{option_map, option_map_or, IfSome}
use Rattle.std.proofs.Common.{zero, suc, sym, ap, ◌∙◌, subst, inl, inr, arith}
use Rattle.std.proofs.Math.Seq.{drop-append_seam, take-append_seam}
use Rattle.std.proofs.lemmas.List.{take-append-drop, append_assoc}
use Rattle.std.specs.List.{list_all}
use Rattle.std.specs.Cmp.{first_so, second_so}
use Rattle.std.proofs.lemmas.Bool.Decides.{nat_tests, Decides-eqb}
use Rattle.std.proofs.lemmas.Slice.Eq.{bytes_eq-Decides}
use Rattle.hex.specs.Hex.{encode_lower, encode_with, decode_sized, IsBytes, lower_digits}
use Rattle.hex.specs.declared.error.FromHexError.{FromHexError}
use Rattle.hex.proofs.HexLemmas.{decode_sized-encode_lower, length-encode_with}
use Rattle.disk_trait.specs.declared.ids.PoolId.{PoolId}
use Rattle.disk_trait.specs.declared.ids.FileId.{FileId}
use Rattle.disk_trait.specs.declared.ids.FileId.TheVariants.{Head, Intent, Gate, Host, Table, Counts, PoolIndex, PoolBucket, Partial, Pool, Stage}
use Rattle.disk_trait.specs.Names.{real_name, content_name}
use Rattle.file_names.specs.Words.{stripped, field, number_of}
use Rattle.file_names.specs.Names.{IsFile, digest_read, digest_of, content_of, table_of, by_prefix, numbered, lower_of, extended, other_file_of, pool_file_of, host_file_of, file_of}
use Rattle.file_names.proofs.ScanLaws.{and_then_some, map_some, map_or_some, if_some, stripped-append, stripped_some, field-append, field_some, decimal_lacks, number_of-decimal, number_of_some}

-- ---- from a file to its name and back

numbered_back : (most n : ℕ) (file : ℕ → FileId) → n ≤ most → most < 2 ^ 64 → numbered most file (decimal n) ≡ Some (file n)
numbered_back most n file small fits = ap (option_map file) (number_of-decimal most n small fits)

digest_back : (digest : List ℕ) → length digest ≡ 16 → IsBytes digest → digest_of (encode_lower digest) ≡ Some digest
unfolding digest_of
digest_back digest long bytes =
    ap (digest_read (encode_lower digest)) (decode_sized-encode_lower digest 16 long bytes)
    ∙ ap (λ (same : Bool). if same then Some digest else None) ((bytes_eq-Decides (encode_lower digest) (encode_lower digest)).1 refl)

cut : (digest rest : List ℕ) → length digest ≡ 16 → (take 32 (encode_lower digest ++ rest) ≡ encode_lower digest) × (drop 32 (encode_lower digest ++ rest) ≡ rest)
cut digest rest long =
    let is : length (encode_lower digest) ≡ 32 = omega (arith, length-encode_with lower_digits digest, long) in (
      ap (λ (n : ℕ). take n (encode_lower digest ++ rest)) (sym is) ∙ take-append_seam (encode_lower digest) rest,
      ap (λ (n : ℕ). drop n (encode_lower digest ++ rest)) (sym is) ∙ drop-append_seam (encode_lower digest) rest,
    )

content_back : (id : PoolId) → IsFile (Pool id) → content_of (content_name id) ≡ Some (Pool id)
unfolding content_of extended
content_back id fits =
    let parts = cut id.digest (codes "-" ++ decimal id.extension) fits.0 in
    rw (parts.0, parts.1, digest_back id.digest fits.0 fits.1, stripped-append (codes "-") (decimal id.extension), number_of-decimal (2 ^ 16 - 1) id.extension (omega (arith, fits.2)) (omega arith)) refl

table_back : (host number : ℕ) → host < 2 ^ 32 → number < 2 ^ 32 → table_of (decimal host ++ (codes "-" ++ decimal number)) ≡ Some (Table host number)
unfolding table_of
table_back host number small small' =
    rw (
      field-append 45 [] (decimal host) (decimal number) (decimal_lacks 45 host refl (omega (arith, small))),
      number_of-decimal (2 ^ 32 - 1) host (omega (arith, small)) (omega arith),
      number_of-decimal (2 ^ 32 - 1) number (omega (arith, small')) (omega arith),
    ) refl

-- no hexadecimal digit is the `i` of `index`

below : (byte : ℕ) → nat_lt byte 103 ≡ true → byte < 103
below byte e = grind (arith, nat_tests)

each_below : (bytes : List ℕ) → list_all (λ byte. nat_lt byte 103) bytes ≡ true → (i : ℕ) → slice_index bytes i < 103
each_below [] e i = omega arith
each_below (byte ∷ bytes) e zero = below byte (first_so (nat_lt byte 103) (list_all (λ b. nat_lt b 103) bytes) e)
each_below (byte ∷ bytes) e (suc i) = each_below bytes (second_so (nat_lt byte 103) (list_all (λ b. nat_lt b 103) bytes) e) i

first_digit : (digest rest : List ℕ) → length digest ≡ 16 → (x : ℕ) × (xs : List ℕ) × (encode_lower digest ++ rest ≡ x ∷ xs) × (x < 103)
unfolding encode_with
first_digit [] rest long = absurd (omega (arith, long))
first_digit (byte ∷ more) rest long = (slice_index lower_digits (byte / 16), _, refl, each_below lower_digits refl (byte / 16))

other_byte : (x : ℕ) → x < 103 → (same : Bool) → (105 == x) ≡ same → same ≡ false
other_byte x lt true e = let is : 105 ≡ x = (Decides-eqb 105 x).0 e in absurd (omega (arith, is, lt))
other_byte x lt false e = refl

no_index : (x : ℕ) (xs : List ℕ) → x < 103 → (same : Bool) → bytes_eq (x ∷ xs) (codes "index") ≡ same → same ≡ false
no_index x xs lt true e =
    let is : x ∷ xs ≡ codes "index" = (bytes_eq-Decides (x ∷ xs) (codes "index")).0 e in
    let first : x ≡ 105 = ap (λ (text : List ℕ). slice_index text 0) is in absurd (omega (arith, first, lt))
no_index x xs lt false e = refl

-- a name in the pool that begins with a digit is a content's
pool_is : (text : List ℕ) (x : ℕ) (xs : List ℕ) → text ≡ x ∷ xs → x < 103 → pool_file_of text ≡ content_of text
unfolding pool_file_of stripped
pool_is text x xs is lt =
    ap pool_file_of is
    ∙ ap (λ (same : Bool). if same then Some PoolIndex else by_prefix (codes "index-") (numbered (2 ^ 8 - 1) PoolBucket) (content_of (x ∷ xs)) (x ∷ xs))
    (no_index x xs lt (bytes_eq (x ∷ xs) (codes "index")) refl)
    ∙ ap (λ (same : Bool). option_map_or (numbered (2 ^ 8 - 1) PoolBucket) (if same then stripped (codes "ndex-") xs else None) (content_of (x ∷ xs)))
    (other_byte x lt (105 == x) refl)
    ∙ ap content_of (sym is)

pool_back : (id : PoolId) → IsFile (Pool id) → file_of (real_name (Pool id)) ≡ Some (Pool id)
unfolding file_of stripped
pool_back id fits =
    let first = first_digit id.digest (codes "-" ++ decimal id.extension) fits.0 in
    pool_is (content_name id) first.0 first.1 first.2 first.3 ∙ content_back id fits

pub file_back : (file : FileId) → IsFile file → file_of (real_name file) ≡ Some file
unfolding file_of host_file_of other_file_of pool_file_of stripped
file_back Head fits = refl
file_back Intent fits = refl
file_back Gate fits = refl
file_back (Host host) fits = numbered_back (2 ^ 32 - 1) host Host (omega (arith, fits)) (omega arith)
file_back (Table host number) fits = table_back host number fits.0 fits.1
file_back (Counts host) fits = numbered_back (2 ^ 32 - 1) host Counts (omega (arith, fits)) (omega arith)
file_back PoolIndex fits = refl
file_back (PoolBucket byte) fits = numbered_back (2 ^ 8 - 1) byte PoolBucket (omega (arith, fits)) (omega arith)
file_back (Partial host) fits = numbered_back (2 ^ 32 - 1) host Partial (omega (arith, fits)) (omega arith)
file_back (Pool id) fits = pool_back id fits
file_back (Stage number) fits = numbered_back (2 ^ 64 - 1) number Stage (omega (arith, fits)) (omega arith)

-- ---- from a name to its file and back

if_file : (same : Bool) (file : FileId) (other : Option FileId) (found : FileId) → (if same then Some file else other) ≡ Some found
    → ((same ≡ true) × (file ≡ found)) ⊎ (other ≡ Some found)
if_file true file other found e = inl (refl, cc)
if_file false file other found e = inr e

-- a name of its own
fixed : (name text : List ℕ) (file : FileId) (other : Option FileId) (found : FileId) → real_name file ≡ text → (if bytes_eq name text then Some file else other) ≡ Some found
    → (other ≡ Some found → real_name found ≡ name) → real_name found ≡ name
fixed name text file other found is e more = elim (if_file (bytes_eq name text) file other found e) [
  | inl same ↦ ap real_name (sym same.1) ∙ is ∙ sym ((bytes_eq-Decides name text).0 same.0)
  | inr later ↦ more later
]

-- a prefix, and what follows it
prefixed : (prefix name : List ℕ) (read : List ℕ → Option FileId) (other : Option FileId) (found : FileId) → by_prefix prefix read other name ≡ Some found
    → ((text : List ℕ) → read text ≡ Some found → real_name found ≡ prefix ++ text) → (other ≡ Some found → real_name found ≡ name) → real_name found ≡ name
prefixed prefix name read other found e first more = elim (map_or_some (stripped prefix name) read other found e) [
  | inl is ↦ first is.0 is.2 ∙ sym (stripped_some prefix name is.0 is.1)
  | inr later ↦ more later
]

number_named : (most : ℕ) (file : ℕ → FileId) (prefix text : List ℕ) (found : FileId) → ((n : ℕ) → real_name (file n) ≡ prefix ++ decimal n) → numbered most file text ≡ Some found
    → real_name found ≡ prefix ++ text
number_named most file prefix text found is e =
    let number = map_some (number_of most text) file found e in
    ap real_name (sym number.2) ∙ is number.0 ∙ ap (λ (t : List ℕ). prefix ++ t) (sym (number_of_some most text number.0 number.1).0)

table_named : (text : List ℕ) (found : FileId) → table_of text ≡ Some found → real_name found ≡ codes "table-" ++ text
unfolding table_of
table_named text found e =
    let parts = and_then_some (field (codes "-") text) _ found e in
    let host = and_then_some (number_of (2 ^ 32 - 1) parts.0.0) _ found parts.2 in
    let number = and_then_some (number_of (2 ^ 32 - 1) parts.0.1) _ found host.2 in
    let whole = field_some (codes "-") text parts.0 parts.1 in
    let first = number_of_some (2 ^ 32 - 1) parts.0.0 host.0 host.1 in
    let second = number_of_some (2 ^ 32 - 1) parts.0.1 number.0 number.1 in
    let is : Table host.0 number.0 ≡ found = cc (number.2) in
    ap real_name (sym is)
    ∙ ap (λ (t : List ℕ). codes "table-" ++ t) (ap (λ (t : List ℕ). t ++ (codes "-" ++ decimal number.0)) (sym first.0) ∙ ap (λ (t : List ℕ). parts.0.0 ++ (codes "-" ++ t)) (sym second.0) ∙ sym whole)

digest_named : (digits digest : List ℕ) → digest_of digits ≡ Some digest → digits ≡ encode_lower digest
unfolding digest_of
digest_named digits digest e = by_read (decode_sized digits 16) e
  where
    by_read : (r : Result (List ℕ) FromHexError) → digest_read digits r ≡ Some digest → digits ≡ encode_lower digest
    by_read (Ok bytes) e =
        let is = if_some (bytes_eq digits (encode_lower bytes)) bytes digest e in
        (bytes_eq-Decides digits (encode_lower bytes)).0 is.0 ∙ ap encode_lower is.1
    by_read (Err fault) e = let no : ⊥ = cc in absurd no

extended_named : (digest text : List ℕ) (found : FileId) → extended digest text ≡ Some found → real_name found ≡ codes "pool-" ++ (encode_lower digest ++ text)
unfolding extended
extended_named digest text found e =
    let rest = and_then_some (stripped (codes "-") text) _ found e in
    let number = and_then_some (number_of (2 ^ 16 - 1) rest.0) _ found rest.2 in
    let made : PoolId = record { digest = digest; extension = number.0 } in
    let is : Pool made ≡ found = cc (number.2) in
    ap real_name (sym is)
    ∙ ap (λ (t : List ℕ). codes "pool-" ++ (encode_lower digest ++ (codes "-" ++ t))) (sym (number_of_some (2 ^ 16 - 1) rest.0 number.0 number.1).0)
    ∙ ap (λ (t : List ℕ). codes "pool-" ++ (encode_lower digest ++ t)) (sym (stripped_some (codes "-") text rest.0 rest.1))

content_named : (text : List ℕ) (found : FileId) → content_of text ≡ Some found → real_name found ≡ codes "pool-" ++ text
unfolding content_of
content_named text found e =
    let digest = and_then_some (digest_of (take 32 text)) _ found e in
    extended_named digest.0 (drop 32 text) found digest.2
    ∙ ap (λ (t : List ℕ). codes "pool-" ++ (t ++ drop 32 text)) (sym (digest_named (take 32 text) digest.0 digest.1))
    ∙ ap (λ (t : List ℕ). codes "pool-" ++ t) (take-append-drop 32 text)

pool_file_named : (text : List ℕ) (found : FileId) → pool_file_of text ≡ Some found → real_name found ≡ codes "pool-" ++ text
unfolding pool_file_of
pool_file_named text found e = elim (if_file (bytes_eq text (codes "index")) PoolIndex _ found e) [
  | inl same ↦ ap real_name (sym same.1) ∙ ap (λ (t : List ℕ). codes "pool-" ++ t) (sym ((bytes_eq-Decides text (codes "index")).0 same.0))
  | inr later ↦ elim (map_or_some (stripped (codes "index-") text) (numbered (2 ^ 8 - 1) PoolBucket) (content_of text) found later) [
    | inl is ↦
        number_named (2 ^ 8 - 1) PoolBucket (codes "pool-index-") is.0 found (λ n. refl) is.2
        ∙ ap (λ (t : List ℕ). codes "pool-" ++ t) (sym (stripped_some (codes "index-") text is.0 is.1))
    | inr last ↦ content_named text found last
  ]
]

other_file_named : (name : List ℕ) (found : FileId) → other_file_of name ≡ Some found → real_name found ≡ name
unfolding other_file_of
other_file_named name found e =
    prefixed (codes "partial-") name _ _ found e (λ text is. number_named (2 ^ 32 - 1) Partial (codes "partial-") text found (λ n. refl) is)
    (λ later. prefixed (codes "stage-") name _ _ found later (λ text is. number_named (2 ^ 64 - 1) Stage (codes "stage-") text found (λ n. refl) is)
    (λ none. let no : ⊥ = cc in absurd no))

host_file_named : (name : List ℕ) (found : FileId) → host_file_of name ≡ Some found → real_name found ≡ name
unfolding host_file_of
host_file_named name found e =
    prefixed (codes "host-") name _ _ found e (λ text is. number_named (2 ^ 32 - 1) Host (codes "host-") text found (λ n. refl) is)
    (λ later. prefixed (codes "counts-") name _ _ found later (λ text is. number_named (2 ^ 32 - 1) Counts (codes "counts-") text found (λ n. refl) is)
    (other_file_named name found))

pub file_is_named : (name : List ℕ) (found : FileId) → file_of name ≡ Some found → real_name found ≡ name
unfolding file_of
file_is_named name found e =
    fixed name (codes "head") Head _ found refl e
    (λ later. fixed name (codes "intent") Intent _ found refl later
    (λ later. fixed name (codes "gate") Gate _ found refl later
    (λ later. prefixed (codes "table-") name _ _ found later (λ text is. table_named text found is)
    (λ later. prefixed (codes "pool-") name _ _ found later (λ text is. pool_file_named text found is)
    (host_file_named name found)))))

pub named_if : (name : List ℕ) (found : Option FileId) → found ≡ file_of name → IfSome found (λ file. real_name file ≡ name)
named_if name None is = tt
named_if name (Some file) is = file_is_named name file (sym is)
