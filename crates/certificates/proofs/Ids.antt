-- Ids that are read behind their number.
use Rattle.std.specs.Prelude.{◌≡◌, ℕ, zero, suc, ◌*◌, List, [], ◌∷◌, ◌++◌, length, map}
use Rattle.std.specs.Int.{w32}
use Rattle.std.specs.Simd.{first_chunks}
use Rattle.std.specs.List.{AllByRecursion}
use Rattle.std.proofs.Common.{refl, sym, ap, subst, ◌∙◌, append_assoc, drop}
use Rattle.wire_bytes.specs.Reading.{Reading, Passes}
use Rattle.wire_bytes.specs.ReadingLaws.{passes_both}
use Rattle.wire_bytes.specs.Layout.{number_bytes, IsNumber, HasLength}
use Rattle.wire_bytes.specs.Breaks.{items_bytes}
use Rattle.wire_bytes.specs.Grammar.{field}
use Rattle.wire_bytes.specs.GrammarReading.{Finds}
use Rattle.certificates.specs.Certificate.{Id}
use Rattle.certificates.specs.Layout.{one_id_bytes, AreIds, ids_bytes}
use Rattle.certificates.specs.ChunkLaws.{length_all, cut_prints, cut_all, cut_each}

length-cut : (n k : ℕ) (xs : List ℕ) → length (first_chunks n k xs) ≡ k
length-cut n zero xs = refl
length-cut n (suc k) xs = ap (λ (j : ℕ). suc j) (length-cut n k (drop n xs))

same_map : (xs : List Id) → map one_id_bytes xs ≡ xs
same_map [] = refl
same_map (x ∷ xs) = ap (λ (l : List Id). x ∷ l) (same_map xs)

pub cut_ids : (ids : List Id) → AllByRecursion (HasLength 18) ids → first_chunks 18 (length ids) (items_bytes one_id_bytes ids) ≡ ids
cut_ids ids all = cut_prints one_id_bytes 18 ids all ∙ same_map ids

module _ (old middle new : Reading) (n : ℕ) (bytes : List ℕ) where
  pub ids_found : Finds (field (IsNumber w32) (number_bytes w32)) old n middle → Finds (field (HasLength (n * 18)) (λ b. b)) middle bytes new
      → Finds (field AreIds ids_bytes) old (first_chunks 18 n bytes) new
  unfolding field
  ids_found f g =
      let some : length (first_chunks 18 n bytes) ≡ n = length-cut 18 n bytes in
      let same : number_bytes w32 n ++ bytes ≡ ids_bytes (first_chunks 18 n bytes) =
      ap (λ (k : ℕ). number_bytes w32 k ++ bytes) (sym some) ∙ ap (λ (l : List ℕ). number_bytes w32 (length (first_chunks 18 n bytes)) ++ l)
      (sym (cut_all 18 n bytes g.fits)) in
      record {
        fits = record { count = subst (IsNumber w32) (sym some) f.fits; each = cut_each 18 n bytes g.fits };
        passed = subst (Passes old new) same (passes_both old middle new (number_bytes w32 n) bytes f.passed g.passed);
        back = λ other rest fits e.
            let front = f.back (length other) (items_bytes one_id_bytes other ++ rest) fits.count
            (e ∙ append_assoc (number_bytes w32 (length other)) (items_bytes one_id_bytes other) rest) in
            let sized : length (items_bytes one_id_bytes other) ≡ n * 18 =
            length_all one_id_bytes 18 other fits.each ∙ ap (λ (k : ℕ). k * 18) (sym front.0) in
            let more = g.back (items_bytes one_id_bytes other) rest sized front.1 in (
              ap (first_chunks 18 n) more.0 ∙ ap (λ (k : ℕ). first_chunks 18 k (items_bytes one_id_bytes other)) front.0 ∙ cut_ids other fits.each,
              more.1,
            );
      }
