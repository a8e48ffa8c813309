-- Counters that hold a number for each id.
use Rattle.std.specs.Prelude.{◌≡◌, ℕ, zero, suc, ◌+◌, ◌-◌, ◌<◌, ◌≤◌, ◌^◌, min, slice_set, slice_index, replicate, Bool, true, false, List, [], ◌∷◌, ◌++◌, length, take, Option, Some, None, if◌then◌else◌}
use Rattle.std.specs.declared.cmp.Ordering.TheVariants.{Less, Greater}
use Rattle.std.specs.List.{AllByRecursion}
use Rattle.std.proofs.Common.{refl, sym, ap, subst, ◌∙◌, arith}
use Rattle.std.proofs.lemmas.List.{take_more}
use Rattle.std.proofs.Common.{get_or, length-set}
use Rattle.certificates.specs.Certificate.{Id}
use Rattle.certificates.specs.Layout.{id_cmp}
use Rattle.certificate_judge.specs.Faults.{is_same, number_of}
use Rattle.certificates.specs.PrintLaws.{AreRising}
use Rattle.certificate_judge.specs.Judging.{AreNumbers, place, one_more, bumped}
use Rattle.certificate_judge.proofs.Halving.{same_from_test, same_itself, apart_above, flipped, not_same}

abbrev one : Bool → ℕ
one b = if b then 1 else 0

pub number_of-append : (id : Id) (xs ys : List Id) → number_of id (xs ++ ys) ≡ number_of id xs + number_of id ys
number_of-append id [] ys = omega arith
number_of-append id (x ∷ xs) ys = let rest = number_of-append id xs ys in omega (arith, rest)

pub number_of-more : (id : Id) (xs : List Id) (i : ℕ) (d : Id) → i < length xs
    → number_of id (take (i + 1) xs) ≡ number_of id (take i xs) + one (is_same id (get_or xs i d))
number_of-more id xs i d within =
    ap (number_of id) (take_more xs i d within) ∙ number_of-append id (take i xs) (get_or xs i d ∷ [])
    ∙ plus_zero (number_of id (take i xs)) (one (is_same id (get_or xs i d)))
  where
    plus_zero : (a b : ℕ) → a + (b + 0) ≡ a + b
    plus_zero a b = omega arith

pub numbers_alike : (f g : Id → ℕ) → ((id : Id) → f id ≡ g id) → (ids : List Id) (counters : List ℕ) → AreNumbers f ids counters → AreNumbers g ids counters
numbers_alike f g same [] counters are = tt
numbers_alike f g same (id ∷ ids) [] are = absurd are
numbers_alike f g same (id ∷ ids) (c ∷ counters) are =
    (subst (λ (n : ℕ). n < 2 ^ 64 → c ≡ n) (same id) are.0, numbers_alike f g same ids counters are.1)

module _ (f : Id → ℕ) (x : Id) where
  abbrev more : Id → ℕ
  more id = f id + one (is_same id x)

  stays : (b : Bool) (n : ℕ) → b ≡ false → n ≡ n + one b
  stays true n e = cc
  stays false n e = omega arith

  -- ids of which none is that one keep their numbers
  apart : (ids : List Id) (counters : List ℕ) → AllByRecursion (λ id. is_same id x ≡ false) ids → AreNumbers f ids counters → AreNumbers more ids counters
  apart [] counters none are = tt
  apart (id ∷ ids) [] none are = absurd are
  apart (id ∷ ids) (c ∷ counters) none are =
      let same : f id ≡ more id = stays (is_same id x) (f id) none.0 in
      (subst (λ (n : ℕ). n < 2 ^ 64 → c ≡ n) same are.0, apart ids counters none.1 are.1)

  -- those above it are apart from it
  above : (ids : List Id) → AllByRecursion (λ later. id_cmp x later ≡ Less) ids → AllByRecursion (λ id. is_same id x ≡ false) ids
  above [] all = tt
  above (id ∷ ids) all = (apart_above id x (flip id all.0), above ids all.1)
    where
      flip : (id : Id) → id_cmp x id ≡ Less → id_cmp id x ≡ Greater
      flip id less = flipped x id Less less

  -- the counter of that id goes up, if its number is one of 64 bits
  counts : (b : Bool) (n c : ℕ) → b ≡ true → (n < 2 ^ 64 → c ≡ n) → n + one b < 2 ^ 64 → min (c + 1) (2 ^ 64 - 1) ≡ n + one b
  counts true n c e is below = let same : c ≡ n = is (omega arith) in omega (arith, same, below)
  counts false n c e is below = cc

  module _ (id : Id) (ids : List Id) (c : ℕ) (counters : List ℕ) where
    here : is_same x id ≡ true → AreRising (id ∷ ids) → AreNumbers f (id ∷ ids) (c ∷ counters)
        → AreNumbers more (id ∷ ids) (min (c + 1) (2 ^ 64 - 1) ∷ counters)
    here hits rising are =
        let same : x ≡ id = same_from_test x id hits in
        let hit : is_same id x ≡ true = ap (is_same id) same ∙ same_itself id in
        let behind : AllByRecursion (λ later. id_cmp x later ≡ Less) ids = subst (λ (y : Id). AllByRecursion (λ later. id_cmp y later ≡ Less) ids) (sym same) rising.0 in
        (counts (is_same id x) (f id) c hit are.0, apart ids counters (above ids behind) are.1)

    later : (cs : List ℕ) → is_same x id ≡ false → AreNumbers f (id ∷ ids) (c ∷ counters) → AreNumbers more ids cs → AreNumbers more (id ∷ ids) (c ∷ cs)
    later cs other are rest =
        (subst (λ (n : ℕ). n < 2 ^ 64 → c ≡ n) (stays (is_same id x) (f id) (not_same x id other)) are.0, rest)

    step : (b : Bool) → is_same x id ≡ b → (o : Option ℕ) → AreRising (id ∷ ids) → AreNumbers f (id ∷ ids) (c ∷ counters)
        → AreNumbers more ids (bumped o counters) → AreNumbers more (id ∷ ids) (bumped (if b then Some 0 else one_more o) (c ∷ counters))
    step true e o rising are rest = here e rising are
    step false e None rising are rest = later counters e are rest
    step false e (Some i) rising are rest =
        let next : i + 1 ≡ suc i = omega arith in
        subst (λ (n : ℕ). AreNumbers more (id ∷ ids) (slice_set (c ∷ counters) n (min (slice_index (c ∷ counters) n + 1) (2 ^ 64 - 1)))) (sym next)
        (later (bumped (Some i) counters) e are rest)

  pub bumped_numbers : (ids : List Id) (counters : List ℕ) → AreRising ids → AreNumbers f ids counters → AreNumbers more ids (bumped (place x ids) counters)
  bumped_numbers [] counters rising are = tt
  bumped_numbers (id ∷ ids) [] rising are = absurd are
  bumped_numbers (id ∷ ids) (c ∷ counters) rising are =
      step id ids c counters (is_same x id) refl (place x ids) rising are (bumped_numbers ids counters rising.1 are.1)

pub length-bumped : (o : Option ℕ) (counters : List ℕ) → length (bumped o counters) ≡ length counters
length-bumped None counters = refl
length-bumped (Some i) counters = length-set counters i (min (slice_index counters i + 1) (2 ^ 64 - 1))

-- a loop's step: the id at an index is counted
pub one_more_id : (f : Id → ℕ) (ids xs : List Id) (i : ℕ) (counters now : List ℕ) → i < length xs → AreRising ids
    → AreNumbers (λ id. f id + number_of id (take i xs)) ids counters → now ≡ bumped (place (get_or xs i []) ids) counters
    → AreNumbers (λ id. f id + number_of id (take (i + 1) xs)) ids now
one_more_id f ids xs i counters now within rising are is =
    subst (AreNumbers (λ id. f id + number_of id (take (i + 1) xs)) ids) (sym is)
    (numbers_alike (λ id. (f id + number_of id (take i xs)) + one (is_same id (get_or xs i []))) (λ id. f id + number_of id (take (i + 1) xs))
    (λ id. let more : number_of id (take (i + 1) xs) ≡ number_of id (take i xs) + one (is_same id (get_or xs i [])) = number_of-more id xs i [] within in omega (arith, more))
    ids (bumped (place (get_or xs i []) ids) counters)
    (bumped_numbers (λ id. f id + number_of id (take i xs)) (get_or xs i []) ids counters rising are))

pub zeros : (ids : List Id) (n : ℕ) → length ids ≤ n → AreNumbers (λ _. 0) ids (replicate n 0)
zeros [] n within = tt
zeros (id ∷ ids) zero within = absurd (omega arith)
zeros (id ∷ ids) (suc n) within = (λ below. refl, zeros ids n (omega arith))

-- the counter at an index
pub number_held : (f : Id → ℕ) → ((id : Id) → f id < 2 ^ 64) → (ids : List Id) (counters : List ℕ) (i : ℕ) (d : Id) (e : ℕ) → AreNumbers f ids counters
    → i < length ids → get_or counters i e ≡ f (get_or ids i d)
number_held f small [] counters i d e are within = absurd (omega arith)
number_held f small (id ∷ ids) [] i d e are within = absurd are
number_held f small (id ∷ ids) (c ∷ counters) zero d e are within = are.0 (small id)
number_held f small (id ∷ ids) (c ∷ counters) (suc i) d e are within = number_held f small ids counters i d e are.1 (omega arith)
