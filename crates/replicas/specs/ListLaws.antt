-- What is at a place of a list that was made of others.
use Rattle.std.specs.Prelude.{◌≡◌, ℕ, zero, suc, Bool, true, false, cond, ◌&&◌, ◌||◌, List, [], ◌∷◌, ◌++◌, map, take, length, Some, slice_get}
use Rattle.std.specs.List.{filter, list_any}
use Rattle.std.specs.Option.{option_map}
use Rattle.std.proofs.Common.{refl, sym, ap, ◌∙◌, subst, append_assoc}
use Rattle.folder_laws.specs.OfficeLaws.{some_is}
use Rattle.office_model.specs.Places.{AtEach}

pub heads : {X : Type 0} (a b : X) (xs ys : List X) → a ∷ xs ≡ b ∷ ys → (a ≡ b) × (xs ≡ ys)
heads a b xs ys e = (cc, cc)

pub both : (a b : Bool) → (a && b) ≡ true → (a ≡ true) × (b ≡ true)
both true b e = (refl, e)
both false b e = absurd (cc)

pub last_there : {X : Type 0} (xs : List X) (x : X) → slice_get (xs ++ x ∷ []) (length xs) ≡ Some x
last_there [] x = refl
last_there (y ∷ xs) x = last_there xs x

pub take_front : {X : Type 0} (xs ys : List X) → take (length xs) (xs ++ ys) ≡ xs
take_front [] ys = refl
take_front (x ∷ xs) ys = ap (λ more. x ∷ more) (take_front xs ys)

pub map_at : {A B : Type 0} (f : A → B) (xs : List A) (i : ℕ) → slice_get (map f xs) i ≡ option_map f (slice_get xs i)
map_at f [] i = refl
map_at f (x ∷ xs) zero = refl
map_at f (x ∷ xs) (suc i) = map_at f xs i

pub map_long : {A B : Type 0} (f : A → B) (xs : List A) → length (map f xs) ≡ length xs
map_long f [] = refl
map_long f (x ∷ xs) = ap suc (map_long f xs)

-- what a list has at a place that another was made of
pub made_of : {A B : Type 0} (f : A → B) (xs : List A) (i : ℕ) (y : B) → slice_get (map f xs) i ≡ Some y
    → (x : A) × (slice_get xs i ≡ Some x) × (f x ≡ y)
made_of f [] i y e = absurd (cc)
made_of f (x ∷ xs) zero y e = (x, refl, some_is (f x) y e)
made_of f (x ∷ xs) (suc i) y e = made_of f xs i y e

pub any_there : {X : Type 0} (p : X → Bool) (xs : List X) → list_any p xs ≡ true → (i : ℕ) × (x : X) × (slice_get xs i ≡ Some x) × (p x ≡ true)
any_there p [] e = absurd (cc)
any_there {X} p (x ∷ xs) e = by (p x) refl e (any_there p xs)
  where
    by : (b : Bool) → p x ≡ b → (b || list_any p xs) ≡ true
        → (list_any p xs ≡ true → (i : ℕ) × (y : X) × (slice_get xs i ≡ Some y) × (p y ≡ true))
        → (i : ℕ) × (y : X) × (slice_get (x ∷ xs) i ≡ Some y) × (p y ≡ true)
    by true is f later = (0, x, refl, is)
    by false is f later = let w = later f in (suc w.0, w.1, w.2, w.3)

pub filter_made : {A B : Type 0} (p : B → Bool) (f : A → B) (xs : List A) → filter p (map f xs) ≡ map f (filter (λ x. p (f x)) xs)
filter_made p f [] = refl
filter_made p f (x ∷ xs) = by (p (f x)) (filter_made p f xs)
  where
    by : (b : Bool) → filter p (map f xs) ≡ map f (filter (λ y. p (f y)) xs)
        → cond b (f x ∷ filter p (map f xs)) (filter p (map f xs)) ≡ map f (cond b (x ∷ filter (λ y. p (f y)) xs) (filter (λ y. p (f y)) xs))
    by true same = ap (λ ys. f x ∷ ys) same
    by false same = same

pub AtEach-filter : {X : Type 0} (P : X → Type 0) (p : X → Bool) (xs : List X) → AtEach P xs → AtEach P (filter p xs)
AtEach-filter P p [] all = all
AtEach-filter P p (y ∷ ys) all = by (p y) (all 0 y refl) (AtEach-filter P p ys (λ i x e. all (suc i) x e))
  where
    by : (b : Bool) → P y → AtEach P (filter p ys) → AtEach P (cond b (y ∷ filter p ys) (filter p ys))
    by true here rest zero x e = subst P (some_is y x e) here
    by true here rest (suc i) x e = rest i x e
    by false here rest i x e = rest i x e

pub AtEach-take : {X : Type 0} (P : X → Type 0) (xs : List X) (n : ℕ) → AtEach P xs → AtEach P (take n xs)
AtEach-take P [] zero all i x e = absurd (cc)
AtEach-take P [] (suc n) all i x e = absurd (cc)
AtEach-take P (y ∷ ys) zero all i x e = absurd (cc)
AtEach-take P (y ∷ ys) (suc n) all zero x e = subst P (some_is y x e) (all 0 y refl)
AtEach-take P (y ∷ ys) (suc n) all (suc i) x e = AtEach-take P ys n (λ j z f. all (suc j) z f) i x e

pub AtEach-append : {X : Type 0} (P : X → Type 0) (xs ys : List X) → AtEach P xs → AtEach P ys → AtEach P (xs ++ ys)
AtEach-append P [] ys a b i y e = b i y e
AtEach-append P (x ∷ xs) ys a b zero y e = a zero y e
AtEach-append P (x ∷ xs) ys a b (suc i) y e = AtEach-append P xs ys (λ j z f. a (suc j) z f) b i y e

-- each of a list stands in it
pub AtEach-all : {X : Type 0} (xs : List X) → AtEach (λ (x : X). (i : ℕ) × (slice_get xs i ≡ Some x)) xs
AtEach-all xs i x e = (i, e)

-- another grouping
pub regrouped : {X : Type 0} (a b : List X) (c : X) (rest : List X) → a ++ (b ++ c ∷ rest) ≡ ((a ++ b) ++ c ∷ []) ++ rest
regrouped a b c rest = sym (append_assoc a b (c ∷ rest)) ∙ sym (append_assoc (a ++ b) (c ∷ []) rest)

pub one_behind : {X : Type 0} (a : List X) (b : X) (c d : List X) (e : X) → ((a ++ b ∷ c) ++ d) ++ e ∷ [] ≡ a ++ b ∷ ((c ++ d) ++ e ∷ [])
one_behind a b c d e = ap (λ xs. xs ++ e ∷ []) (append_assoc a (b ∷ c) d) ∙ append_assoc a (b ∷ (c ++ d)) (e ∷ [])

-- behind a list of three parts, of which the last is a further one's beginning
pub opened_behind : {X : Type 0} (all between rest others more : List X) (l o : X) → all ≡ (l ∷ between) ++ rest → rest ≡ others ++ o ∷ more
    → all ≡ (l ∷ ((between ++ others) ++ o ∷ [])) ++ more
opened_behind all between rest others more l o are is =
    are ∙ ap (λ xs. l ∷ (between ++ xs)) is ∙ ap (λ xs. l ∷ xs) (regrouped between others o more)

pub read_behind : {X : Type 0} (all between since rest others more : List X) (l o r : X) → all ≡ (l ∷ (between ++ o ∷ since)) ++ rest
    → rest ≡ others ++ r ∷ more → all ≡ (l ∷ (between ++ o ∷ ((since ++ others) ++ r ∷ []))) ++ more
read_behind all between since rest others more l o r are is =
    opened_behind all (between ++ o ∷ since) rest others more l r are is
    ∙ ap (λ xs. (l ∷ xs) ++ more) (one_behind between o since others r)
