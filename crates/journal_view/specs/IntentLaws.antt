-- Intent's bytes are of one list of changes.
--     intent_once      no two lists of changes have one file
use Rattle.std.specs.Prelude.{◌≡◌, ◌==◌, ℕ, true, List, [], ◌∷◌, ◌++◌, length, take, drop, slice_index, Option, Some, None, if◌then◌else◌}
use Rattle.std.specs.Int.{w32, w64, from_be_bytes}
use Rattle.std.proofs.Common.{refl, sym, ap, ◌∙◌, arith, append_assoc}
use Rattle.std.proofs.lemmas.Bool.{false≢true}
use Rattle.std.proofs.lemmas.Nat.{from_be_bytes-to_be_bytes_4, from_be_bytes-to_be_bytes_8}
use Rattle.std.proofs.lemmas.List.{take_at, drop_at}
use Rattle.wire_bytes.specs.Layout.{number_bytes}
use Rattle.wire_bytes.specs.SealLaws.{same_from_sealed}
use Rattle.disk_trait.specs.declared.ids.FileId.{FileId}
use Rattle.disk_trait.specs.declared.ids.FileId.TheVariants.{Head, Intent, Gate, Host, Table, Counts, PoolIndex, PoolBucket, Partial, Pool, Stage}
use Rattle.disk_trait.specs.Names.{is_metadata}
use Rattle.intent_journal.specs.declared.changes.Change.{Change}
use Rattle.intent_journal.specs.Changes.{IsIntent, AreChanges, AreInRange, IsInRange, IsShort}
use Rattle.intent_journal.specs.Layout.{file_bytes, content_bytes, change_bytes, changes_bytes, intent_body, intent_file}

-- the number in so many bytes of four or eight from a place
four : ℕ → List ℕ → ℕ
four from bytes = from_be_bytes w32 (take 4 (drop from bytes))

eight : ℕ → List ℕ → ℕ
eight from bytes = from_be_bytes w64 (take 8 (drop from bytes))

-- the file that stands at the front, and what is behind it
file_front : List ℕ → FileId × List ℕ
file_front bytes =
    if slice_index bytes 0 == 4 then (Host (four 1 bytes), drop 5 bytes)
    else if slice_index bytes 0 == 5 then (Table (four 1 bytes) (four 5 bytes), drop 9 bytes)
    else if slice_index bytes 0 == 6 then (Counts (four 1 bytes), drop 5 bytes)
    else if slice_index bytes 0 == 7 then (PoolIndex, drop 1 bytes)
    else if slice_index bytes 0 == 8 then (PoolBucket (four 1 bytes), drop 5 bytes)
    else if slice_index bytes 0 == 9 then (Partial (four 1 bytes), drop 5 bytes)
    else (Head, drop 1 bytes)

file_front_is : (file : FileId) (rest : List ℕ) → is_metadata file ≡ true → IsInRange file
    → file_front (file_bytes file ++ rest) ≡ (file, rest)
unfolding file_bytes number_bytes file_front four
file_front_is Head rest kind within = refl
file_front_is (Host host) rest kind within = ap (λ (n : ℕ). (Host n, rest)) (from_be_bytes-to_be_bytes_4 host within)
file_front_is (Table host number) rest kind within =
    ap (λ (n : ℕ). (Table n (from_be_bytes w32 (number_bytes w32 number)), rest)) (from_be_bytes-to_be_bytes_4 host within.0)
    ∙ ap (λ (n : ℕ). (Table host n, rest)) (from_be_bytes-to_be_bytes_4 number within.1)
file_front_is (Counts host) rest kind within = ap (λ (n : ℕ). (Counts n, rest)) (from_be_bytes-to_be_bytes_4 host within)
file_front_is PoolIndex rest kind within = refl
file_front_is (PoolBucket byte) rest kind within =
    ap (λ (n : ℕ). (PoolBucket n, rest)) (from_be_bytes-to_be_bytes_4 byte (omega (arith, within)))
file_front_is (Partial host) rest kind within = ap (λ (n : ℕ). (Partial n, rest)) (from_be_bytes-to_be_bytes_4 host within)
file_front_is Intent rest kind within = absurd (false≢true kind)
file_front_is Gate rest kind within = absurd (false≢true kind)
file_front_is (Pool id) rest kind within = absurd (false≢true kind)
file_front_is (Stage number) rest kind within = absurd (false≢true kind)

-- the content that stands at the front, and what is behind it
content_front : List ℕ → Option (List ℕ) × List ℕ
content_front bytes =
    if slice_index bytes 0 == 2 then (None, drop 1 bytes) else
    (Some (take (eight 1 bytes) (drop 9 bytes)), drop (eight 1 bytes) (drop 9 bytes))

content_front_is : (bytes : Option (List ℕ)) (rest : List ℕ) → IsShort bytes → content_front (content_bytes bytes ++ rest) ≡ (bytes, rest)
unfolding content_bytes number_bytes content_front eight
content_front_is None rest short = refl
content_front_is (Some bytes) rest short =
    ap (λ (n : ℕ). (Some (take n (bytes ++ rest)), drop n (bytes ++ rest))) (from_be_bytes-to_be_bytes_8 (length bytes) short)
    ∙ ap (λ (front : List ℕ). (Some front, drop (length bytes) (bytes ++ rest))) (take_at bytes rest (length bytes) refl)
    ∙ ap (λ (behind : List ℕ). (Some bytes, behind)) (drop_at bytes rest (length bytes) refl)

-- a change at the front is one change
change_once : (a b : Change) (x y : List ℕ) → is_metadata a.file ≡ true → IsInRange a.file → IsShort a.bytes → is_metadata b.file ≡ true
    → IsInRange b.file → IsShort b.bytes
    → change_bytes a ++ x ≡ change_bytes b ++ y → (a ≡ b) × (x ≡ y)
unfolding change_bytes
change_once a b x y kind_a within_a short_a kind_b within_b short_b same =
    let parts = sym (append_assoc (file_bytes a.file) (content_bytes a.bytes) x) ∙ same
    ∙ append_assoc (file_bytes b.file) (content_bytes b.bytes) y in
    let files = sym (file_front_is a.file (content_bytes a.bytes ++ x) kind_a within_a) ∙ ap file_front parts
    ∙ file_front_is b.file (content_bytes b.bytes ++ y) kind_b within_b in
    let contents =
    sym (content_front_is a.bytes x short_a) ∙ ap content_front (ap (λ p. p.1) files) ∙ content_front_is b.bytes y short_b in (
      ap (λ (file : FileId). record { file = file; bytes = a.bytes }) (ap (λ p. p.0) files)
          ∙ ap (λ (bytes : Option (List ℕ)). record { file = b.file; bytes = bytes }) (ap (λ p. p.0) contents),
      ap (λ p. p.1) contents,
    )

-- so many changes are one list
changes_once : (cs ds : List Change) (x y : List ℕ) → AreChanges cs → AreInRange cs → AreChanges ds → AreInRange ds → length cs ≡ length ds
    → changes_bytes cs ++ x ≡ changes_bytes ds ++ y → cs ≡ ds
changes_once [] [] x y are_a in_a are_b in_b count same = refl
changes_once [] (b ∷ ds) x y are_a in_a are_b in_b count same = absurd (omega (arith, count))
changes_once (a ∷ cs) [] x y are_a in_a are_b in_b count same = absurd (omega (arith, count))
changes_once (a ∷ cs) (b ∷ ds) x y are_a in_a are_b in_b count same =
    let parts = sym (append_assoc (change_bytes a) (changes_bytes cs) x) ∙ same ∙ append_assoc (change_bytes b) (changes_bytes ds) y in
    let one = change_once a b (changes_bytes cs ++ x) (changes_bytes ds ++ y) are_a.0 in_a.0 in_a.1 are_b.0 in_b.0 in_b.1 parts in
    let rest = changes_once cs ds x y are_a.2 in_a.2 are_b.2 in_b.2 (omega (arith, count)) one.1 in
    ap (λ (c : Change). c ∷ cs) one.0 ∙ ap (λ (es : List Change). b ∷ es) rest

-- how many changes a body counts, and what is behind that
counted : (changes : List Change) → IsIntent changes → eight 4 (intent_body changes) ≡ length changes
unfolding intent_body number_bytes eight
counted changes are = from_be_bytes-to_be_bytes_8 (length changes) are.few

behind : (changes : List Change) → drop 12 (intent_body changes) ≡ changes_bytes changes
unfolding intent_body number_bytes
behind changes = refl

body_once : (a b : List Change) → IsIntent a → IsIntent b → intent_body a ≡ intent_body b → a ≡ b
body_once a b are_a are_b same =
    let count = sym (counted a are_a) ∙ ap (eight 4) same ∙ counted b are_b in
    let rest = sym (behind a) ∙ ap (drop 12) same ∙ behind b in
    changes_once a b [] [] are_a.are are_a.in_range are_b.are are_b.in_range count (ap (λ (bytes : List ℕ). bytes ++ []) rest)

-- no two lists of changes have one file
pub intent_once : (a b : List Change) → IsIntent a → IsIntent b → intent_file a ≡ intent_file b → a ≡ b
unfolding intent_file
intent_once a b are_a are_b same = body_once a b are_a are_b (same_from_sealed (intent_body a) (intent_body b) same)
