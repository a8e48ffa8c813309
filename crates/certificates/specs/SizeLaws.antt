-- How long records are, and what is cut of their bytes.
--     all_fit      each of things that rise fits
--     length-item, length-file      an item has 26 bytes, a file of the pool 43
--     cut_items, cut_files      what their bytes are cut into
use Rattle.std.specs.Prelude.{◌≡◌, ℕ, ◌*◌, ◌/◌, List, [], ◌∷◌, ◌++◌, length, map}
use Rattle.std.specs.declared.cmp.Ordering.{Ordering}
use Rattle.std.specs.Int.{w64}
use Rattle.std.specs.Simd.{first_chunks}
use Rattle.std.specs.List.{AllByRecursion}
use Rattle.std.proofs.Common.{ap, ◌∙◌, length-append, arith}
use Rattle.wire_bytes.specs.Layout.{number_bytes, flag_bytes}
use Rattle.wire_bytes.specs.Breaks.{items_bytes, AreItems}
use Rattle.wire_bytes.proofs.Numbers.{length-number_bytes}
use Rattle.wire_bytes.proofs.Flags.{length-flag_bytes}
use Rattle.certificates.specs.Certificate.{Item, PoolFile}
use Rattle.certificates.specs.Layout.{IsNext, item_bytes, IsItem, IsNextItem, file_bytes, IsFile, IsNextFile}
use Rattle.certificates.specs.ChunkLaws.{length_all, cut_prints}

module _ {A K : Type 0} (Fits : A → Type 0) (cmp : K → K → Ordering) (key : A → K) where
  pub all_fit : (before xs : List A) → AreItems (IsNext Fits cmp key) before xs → AllByRecursion Fits xs
  all_fit before [] are = tt
  all_fit before (x ∷ xs) are = (are.0.is, all_fit (before ++ x ∷ []) xs are.1)

pub all_map : {A : Type 0} (P Q : A → Type 0) → ((x : A) → P x → Q x) → (xs : List A) → AllByRecursion P xs → AllByRecursion Q xs
all_map P Q f [] all = tt
all_map P Q f (x ∷ xs) all = (f x all.0, all_map P Q f xs all.1)

pub length-item : (item : Item) → IsItem item → length (item_bytes item) ≡ 26
unfolding item_bytes
length-item item is = omega (arith, length-append item.id (number_bytes w64 item.count), is.id, length-number_bytes w64 tt item.count)

pub length-file : (file : PoolFile) → IsFile file → length (file_bytes file) ≡ 43
unfolding file_bytes
length-file file is =
    omega (
      arith,
      length-append file.id (number_bytes w64 file.size ++ (file.found ++ flag_bytes file.mark)),
      length-append (number_bytes w64 file.size) (file.found ++ flag_bytes file.mark),
      length-append file.found (flag_bytes file.mark),
      is.id,
      is.found,
      length-number_bytes w64 tt file.size,
      length-flag_bytes file.mark,
    )

pub cut_items : (items : List Item) (bytes : List ℕ) → AreItems IsNextItem [] items → bytes ≡ items_bytes item_bytes items
    → first_chunks 26 (length bytes / 26) bytes ≡ map item_bytes items
cut_items items bytes are is =
    let each = all_map IsItem (λ x. length (item_bytes x) ≡ 26) length-item items (all_fit IsItem _ _ [] items are) in
    let all : length bytes ≡ length items * 26 = ap length is ∙ length_all item_bytes 26 items each in
    let many : length bytes / 26 ≡ length items = omega (arith, all) in
    ap (λ (k : ℕ). first_chunks 26 k bytes) many ∙ ap (first_chunks 26 (length items)) is ∙ cut_prints item_bytes 26 items each

pub cut_files : (files : List PoolFile) (bytes : List ℕ) → AreItems IsNextFile [] files → bytes ≡ items_bytes file_bytes files
    → first_chunks 43 (length bytes / 43) bytes ≡ map file_bytes files
cut_files files bytes are is =
    let each = all_map IsFile (λ x. length (file_bytes x) ≡ 43) length-file files (all_fit IsFile _ _ [] files are) in
    let all : length bytes ≡ length files * 43 = ap length is ∙ length_all file_bytes 43 files each in
    let many : length bytes / 43 ≡ length files = omega (arith, all) in
    ap (λ (k : ℕ). first_chunks 43 k bytes) many ∙ ap (first_chunks 43 (length files)) is ∙ cut_prints file_bytes 43 files each
