-- Laws of bytes that are cut into parts of one size.
--     length_all      how long prints of one size are
--     cut_prints      prints of one size are what their bytes are cut into
--     cut_all, cut_each      the parts have all bytes, and the size
use Rattle.std.specs.Prelude.{◌≡◌, ℕ, zero, suc, ◌+◌, ◌*◌, List, [], ◌∷◌, ◌++◌, length, take, drop, map}
use Rattle.std.specs.List.{AllByRecursion}
use Rattle.std.specs.Simd.{first_chunks}
use Rattle.std.proofs.Common.{refl, sym, ap, ◌∙◌, length-append, length-take, length-drop, arith}
use Rattle.std.proofs.Math.Nat.{suc-mul, zero-mul}
use Rattle.std.proofs.lemmas.List.{take_at, drop_at, take-append-drop}
use Rattle.wire_bytes.specs.Layout.{HasLength}
use Rattle.wire_bytes.specs.Breaks.{items_bytes}
use Rattle.certificates.specs.Layout.{one_id_bytes}

module _ {V : Type 0} (print : V → List ℕ) (n : ℕ) where
  pub length_all : (xs : List V) → AllByRecursion (λ x. length (print x) ≡ n) xs → length (items_bytes print xs) ≡ length xs * n
  length_all [] all = sym (zero-mul n)
  length_all (x ∷ xs) all =
      let rest = length_all xs all.1 in
      let one : length (print x) ≡ n = all.0 in
      let more : length (x ∷ xs) * n ≡ length xs * n + n = suc-mul (length xs) n in
      omega (arith, length-append (print x) (items_bytes print xs), one, rest, more)

  pub cut_prints : (xs : List V) → AllByRecursion (λ x. length (print x) ≡ n) xs → first_chunks n (length xs) (items_bytes print xs) ≡ map print xs
  cut_prints [] all = refl
  cut_prints (x ∷ xs) all = λ i. take_at (print x) (items_bytes print xs) n all.0 i ∷
      (ap (first_chunks n (length xs)) (drop_at (print x) (items_bytes print xs) n all.0) ∙ cut_prints xs all.1) i

pub cut_all : (n count : ℕ) (bytes : List ℕ) → length bytes ≡ count * n → items_bytes one_id_bytes (first_chunks n count bytes) ≡ bytes
cut_all n zero [] e = refl
cut_all n zero (b ∷ bytes) e = absurd (omega (arith, e, zero-mul n))
cut_all n (suc count) bytes e =
    let rest : length (drop n bytes) ≡ count * n = omega (arith, e, suc-mul count n, length-drop n bytes) in
    ap (λ (l : List ℕ). take n bytes ++ l) (cut_all n count (drop n bytes) rest) ∙ take-append-drop n bytes

pub cut_each : (n count : ℕ) (bytes : List ℕ) → length bytes ≡ count * n → AllByRecursion (HasLength n) (first_chunks n count bytes)
cut_each n zero bytes e = tt
cut_each n (suc count) bytes e =
    let rest : length (drop n bytes) ≡ count * n = omega (arith, e, suc-mul count n, length-drop n bytes) in
    let one : length (take n bytes) ≡ n = omega (arith, e, suc-mul count n, length-take n bytes) in
    (one, cut_each n count (drop n bytes) rest)
