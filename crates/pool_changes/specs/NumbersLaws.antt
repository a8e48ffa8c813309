-- Laws of specs/Numbers.
use Rattle.std.proofs.Common.{◌≡◌, ◌+◌, ◌*◌, ◌<◌, ℕ, suc, List, [], ◌∷◌, length, refl, sym, ap, ◌∙◌, arith}
use Rattle.std.specs.declared.cmp.Ordering.{Ordering}
use Rattle.std.specs.declared.cmp.Ordering.TheVariants.{Less, Equal, Greater}
use Rattle.std.specs.Ordering.{nat_cmp, ordering_then, MatchOrdering}
use Rattle.std.specs.Cmp.{ranked, nat_cmp_is}
use Rattle.std.specs.Cmp.Lexicographic.{slice_cmp}
use Rattle.std.specs.Int.{w128, from_be_bytes}
use Rattle.pool_changes.specs.Numbers.{AreBytes, number_from}

below : (low high : ℕ) (xs ys : List ℕ) → low < high → length xs ≡ length ys → AreBytes xs → number_from low xs < number_from high ys
below low high [] [] less long small = less
below low high [] (y ∷ ys) less long small = absurd (omega (arith, long))
below low high (x ∷ xs) [] less long small = absurd (omega (arith, long))
below low high (x ∷ xs) (y ∷ ys) less long small = below (low * 256 + x) (high * 256 + y) xs ys (omega (arith, less, (small 0))) (omega (arith, long)) (λ i. small (suc i))

pub in_order : (n : ℕ) (xs ys : List ℕ) → length xs ≡ length ys → AreBytes xs → AreBytes ys → nat_cmp (number_from n xs) (number_from n ys) ≡ slice_cmp nat_cmp xs ys
in_order n [] [] long small_x small_y = sym (nat_cmp_is n n Equal refl)
in_order n [] (y ∷ ys) long small_x small_y = absurd (omega (arith, long))
in_order n (x ∷ xs) [] long small_x small_y = absurd (omega (arith, long))
in_order n (x ∷ xs) (y ∷ ys) long small_x small_y =
    step (nat_cmp x y) refl (ranked x y (nat_cmp x y) refl) (in_order (n * 256 + x) xs ys (omega (arith, long)) (λ i. small_x (suc i)) (λ i. small_y (suc i)))
  where
    rest : length xs ≡ length ys
    rest = omega (arith, long)

    step : (r : Ordering) → nat_cmp x y ≡ r → MatchOrdering r (x < y) (x ≡ y) (y < x) → nat_cmp (number_from (n * 256 + x) xs) (number_from (n * 256 + x) ys) ≡ slice_cmp nat_cmp xs ys
        → nat_cmp (number_from (n * 256 + x) xs) (number_from (n * 256 + y) ys) ≡ ordering_then (nat_cmp x y) (slice_cmp nat_cmp xs ys)
    step Less e is again = sym (nat_cmp_is _ _ Less (below (n * 256 + x) (n * 256 + y) xs ys (omega (arith, is, small_x 0)) rest (λ i. small_x (suc i)))) ∙ sym (ap (λ (r : Ordering). ordering_then r (slice_cmp nat_cmp xs ys)) e)
    step Greater e is again = sym (nat_cmp_is _ _ Greater (below (n * 256 + y) (n * 256 + x) ys xs (omega (arith, is, small_y 0)) (sym rest) (λ i. small_y (suc i)))) ∙ sym (ap (λ (r : Ordering). ordering_then r (slice_cmp nat_cmp xs ys)) e)
    step Equal e is again =
        ap (λ (z : ℕ). nat_cmp (number_from (n * 256 + x) xs) (number_from (n * 256 + z) ys)) (sym is) ∙ again
        ∙ sym (ap (λ (r : Ordering). ordering_then r (slice_cmp nat_cmp xs ys)) e)

-- 16 bytes as a number
pub number_16 : (bytes : List ℕ) → length bytes ≡ 16 → from_be_bytes w128 bytes ≡ number_from 0 bytes
number_16 [] long = absurd (omega (arith, long))
number_16 (a ∷ []) long = absurd (omega (arith, long))
number_16 (a ∷ b ∷ []) long = absurd (omega (arith, long))
number_16 (a ∷ b ∷ c ∷ []) long = absurd (omega (arith, long))
number_16 (a ∷ b ∷ c ∷ d ∷ []) long = absurd (omega (arith, long))
number_16 (a ∷ b ∷ c ∷ d ∷ e ∷ []) long = absurd (omega (arith, long))
number_16 (a ∷ b ∷ c ∷ d ∷ e ∷ f ∷ []) long = absurd (omega (arith, long))
number_16 (a ∷ b ∷ c ∷ d ∷ e ∷ f ∷ g ∷ []) long = absurd (omega (arith, long))
number_16 (a ∷ b ∷ c ∷ d ∷ e ∷ f ∷ g ∷ h ∷ []) long = absurd (omega (arith, long))
number_16 (a ∷ b ∷ c ∷ d ∷ e ∷ f ∷ g ∷ h ∷ i ∷ []) long = absurd (omega (arith, long))
number_16 (a ∷ b ∷ c ∷ d ∷ e ∷ f ∷ g ∷ h ∷ i ∷ j ∷ []) long = absurd (omega (arith, long))
number_16 (a ∷ b ∷ c ∷ d ∷ e ∷ f ∷ g ∷ h ∷ i ∷ j ∷ k ∷ []) long = absurd (omega (arith, long))
number_16 (a ∷ b ∷ c ∷ d ∷ e ∷ f ∷ g ∷ h ∷ i ∷ j ∷ k ∷ l ∷ []) long = absurd (omega (arith, long))
number_16 (a ∷ b ∷ c ∷ d ∷ e ∷ f ∷ g ∷ h ∷ i ∷ j ∷ k ∷ l ∷ m ∷ []) long = absurd (omega (arith, long))
number_16 (a ∷ b ∷ c ∷ d ∷ e ∷ f ∷ g ∷ h ∷ i ∷ j ∷ k ∷ l ∷ m ∷ n ∷ []) long = absurd (omega (arith, long))
number_16 (a ∷ b ∷ c ∷ d ∷ e ∷ f ∷ g ∷ h ∷ i ∷ j ∷ k ∷ l ∷ m ∷ n ∷ o ∷ []) long = absurd (omega (arith, long))
number_16 (a ∷ b ∷ c ∷ d ∷ e ∷ f ∷ g ∷ h ∷ i ∷ j ∷ k ∷ l ∷ m ∷ n ∷ o ∷ p ∷ []) long = omega arith
number_16 (a ∷ b ∷ c ∷ d ∷ e ∷ f ∷ g ∷ h ∷ i ∷ j ∷ k ∷ l ∷ m ∷ n ∷ o ∷ p ∷ q ∷ bytes) long = absurd (omega (arith, long))

-- the order of two digests is that of their numbers
pub digests_in_order : (a b : List ℕ) → length a ≡ 16 → length b ≡ 16 → AreBytes a → AreBytes b → nat_cmp (from_be_bytes w128 a) (from_be_bytes w128 b) ≡ slice_cmp nat_cmp a b
digests_in_order a b long_a long_b small_a small_b =
    ap (λ (n : ℕ). nat_cmp n (from_be_bytes w128 b)) (number_16 a long_a) ∙ ap (nat_cmp (number_from 0 a)) (number_16 b long_b) ∙ in_order 0 a b (long_a ∙ sym long_b) small_a small_b
