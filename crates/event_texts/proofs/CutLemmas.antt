-- A text that is cut at its first byte of a kind.
use Rattle.std.proofs.Common.{◌≡◌, ℕ, suc, ◌+◌, Bool, true, not, ◌&&◌, if◌then◌else◌, List, [], ◌∷◌, ◌++◌, length, take, drop, refl, sym, ap, ◌∙◌, arith, append-nil}
use Rattle.std.specs.List.{before_first, after_first, position_or_len, list_all}
use Rattle.std.specs.Cmp.{first_so, second_so}

take-length-append : (xs ys : List ℕ) → take (length xs) (xs ++ ys) ≡ xs
take-length-append [] ys = refl
take-length-append (x ∷ xs) ys = ap (λ t. x ∷ t) (take-length-append xs ys)

one_more : (n : ℕ) → suc n + 1 ≡ suc (n + 1)
one_more n = omega arith

drop-behind : (xs ys : List ℕ) (c : ℕ) → drop (length xs + 1) (xs ++ c ∷ ys) ≡ ys
drop-behind [] ys c = refl
drop-behind (x ∷ xs) ys c = ap (λ n. drop n (x ∷ xs ++ c ∷ ys)) (one_more (length xs)) ∙ drop-behind xs ys c

take-all : (xs : List ℕ) → take (length xs) xs ≡ xs
take-all [] = refl
take-all (x ∷ xs) = ap (λ t. x ∷ t) (take-all xs)

drop-past : (xs : List ℕ) → drop (length xs + 1) xs ≡ []
drop-past [] = refl
drop-past (x ∷ xs) = ap (λ n. drop n (x ∷ xs)) (one_more (length xs)) ∙ drop-past xs

pub and_true : (a b : Bool) → a ≡ true → b ≡ true → (a && b) ≡ true
and_true a b e f = λ i. e i && f i

pub all-append : (q : ℕ → Bool) (xs ys : List ℕ) → list_all q xs ≡ true → list_all q ys ≡ true → list_all q (xs ++ ys) ≡ true
all-append q [] ys a b = b
all-append q (x ∷ xs) ys a b = and_true _ _ (first_so _ _ a) (all-append q xs ys (second_so (q x) (list_all q xs) a) b)

module _ (p : ℕ → Bool) where
  -- no byte passes
  abbrev pub NonePass : List ℕ → Type 0
  NonePass xs = list_all (λ x. not (p x)) xs ≡ true

  position-past : (xs ys : List ℕ) → NonePass xs → position_or_len p (xs ++ ys) ≡ length xs + position_or_len p ys
  position-past [] ys h = omega arith
  position-past (x ∷ xs) ys h =
      ap (λ b. if b then 1 + position_or_len p (xs ++ ys) else 0) (first_so _ _ h)
      ∙ ap (λ n. 1 + n) (position-past xs ys (second_so (not (p x)) (list_all (λ x. not (p x)) xs) h)) ∙ omega arith

  position-here : (c : ℕ) (ys : List ℕ) → p c ≡ true → position_or_len p (c ∷ ys) ≡ 0
  position-here c ys h = ap (λ b. if not b then 1 + position_or_len p ys else 0) h

  cut-place : (xs ys : List ℕ) (c : ℕ) → NonePass xs → p c ≡ true → position_or_len p (xs ++ c ∷ ys) ≡ length xs
  cut-place xs ys c h is = position-past xs (c ∷ ys) h ∙ ap (λ n. length xs + n) (position-here c ys is) ∙ omega arith

  pub cut-before : (xs ys : List ℕ) (c : ℕ) → NonePass xs → p c ≡ true → before_first p (xs ++ c ∷ ys) ≡ xs
  cut-before xs ys c h is = ap (λ n. take n (xs ++ c ∷ ys)) (cut-place xs ys c h is) ∙ take-length-append xs (c ∷ ys)

  pub cut-after : (xs ys : List ℕ) (c : ℕ) → NonePass xs → p c ≡ true → after_first p (xs ++ c ∷ ys) ≡ ys
  cut-after xs ys c h is = ap (λ n. drop (n + 1) (xs ++ c ∷ ys)) (cut-place xs ys c h is) ∙ drop-behind xs ys c

  whole-place : (xs : List ℕ) → NonePass xs → position_or_len p xs ≡ length xs
  whole-place xs h = ap (position_or_len p) (sym (append-nil xs)) ∙ position-past xs [] h ∙ omega arith

  pub whole-before : (xs : List ℕ) → NonePass xs → before_first p xs ≡ xs
  whole-before xs h = ap (λ n. take n xs) (whole-place xs h) ∙ take-all xs

  pub whole-after : (xs : List ℕ) → NonePass xs → after_first p xs ≡ []
  whole-after xs h = ap (λ n. drop (n + 1) xs) (whole-place xs h) ∙ drop-past xs
