-- Laws of paths.
--     path_cmp_total, path_cmp_exact      paths have one order, and compared Equal they are the same bytes
--     by_components      it is the order component by component, each by its bytes
--     between      what lies within a directory stands together
use Rattle.std.specs.Prelude.{◌≡◌, ℕ, ◌==◌, Bool, true, false, ◌&&◌, List, [], ◌∷◌, ◌++◌, Option, Some, None, if◌then◌else◌, ◌⊎◌}
use Rattle.std.specs.declared.cmp.Ordering.{Ordering}
use Rattle.std.specs.Ordering.{nat_cmp, ordering_then, ordering_reverse}
use Rattle.std.specs.Cmp.{IsTotalOrder, on_total, nat_cmp_total, first_so, second_so}
use Rattle.std.specs.Cmp.Lexicographic.{slice_cmp, lists_total}
use Rattle.std.specs.FinMap.{IsAntisymmetric, nat_cmp-IsAntisymmetric, slice_cmp-IsAntisymmetric}
use Rattle.std.proofs.Common.{refl, sym, ap, ◌∙◌, inl, inr, arith}
use Rattle.std.proofs.lemmas.Bool.Decides.{nat_tests}
use borrow.Author.Tests.{eqb-true, eq-eqb}
use Rattle.std.specs.declared.cmp.Ordering.TheVariants.{Less, Equal, Greater}
use Rattle.attr_records.specs.Paths.{rank, byte_cmp, path_cmp, components_cmp, joined, components, under, parent, is_within}

pub byte_cmp_total : IsTotalOrder byte_cmp
byte_cmp_total = on_total rank nat_cmp_total

pub path_cmp_total : IsTotalOrder path_cmp
path_cmp_total = lists_total byte_cmp_total

pub same_rank : (a b : ℕ) → rank a ≡ rank b → a ≡ b
same_rank a b e = grind (arith, nat_tests)

-- compared Equal, they are the same bytes
pub path_cmp_exact : IsAntisymmetric path_cmp
path_cmp_exact = slice_cmp-IsAntisymmetric (λ a b e. same_rank a b (nat_cmp-IsAntisymmetric (rank a) (rank b) e))

joined-append : (byte : ℕ) (slash : Bool) (first : List ℕ) (others more : List (List ℕ))
    → joined byte slash ((first ∷ others) ++ more) ≡ joined byte slash (first ∷ others) ++ more
joined-append byte true first others more = refl
joined-append byte false first others more = refl

-- a path has a first component
pub first_component : (path : List ℕ) → (first : List ℕ) × (others : List (List ℕ)) × (components path ≡ first ∷ others)
first_component [] = ([], [], refl)
first_component (byte ∷ path) = step (byte == 47) (first_component path)
  where
    step : (slash : Bool) → ((first : List ℕ) × (others : List (List ℕ)) × (components path ≡ first ∷ others))
        → (first : List ℕ) × (others : List (List ℕ)) × (joined byte slash (components path) ≡ first ∷ others)
    step true rest = ([], components path, refl)
    step false rest = (byte ∷ rest.0, rest.1, ap (joined byte false) rest.2)

-- the components of a path below a directory are those of both
pub components-joined : (directory path : List ℕ) → components (directory ++ 47 ∷ path) ≡ components directory ++ components path
components-joined [] path = refl
components-joined (byte ∷ directory) path =
    let e = first_component directory in
    ap (joined byte (byte == 47)) (components-joined directory path ∙ ap (λ cs. cs ++ components path) e.2)
    ∙ joined-append byte (byte == 47) e.0 e.1 (components path)
    ∙ ap (λ cs. joined byte (byte == 47) cs ++ components path) (sym e.2)

-- a slash behind which there is no other ends the directory
pub parent-last : (directory name : List ℕ) → parent name ≡ None → parent (directory ++ 47 ∷ name) ≡ Some directory
parent-last [] name none = ap (under 47) none
parent-last (byte ∷ directory) name none = ap (under byte) (parent-last directory name none)

-- the parent of a path below a directory is that directory, or lies below it
pub parent-below : (directory rest : List ℕ)
    → (parent (directory ++ 47 ∷ rest) ≡ Some directory) ⊎ ((more : List ℕ) × (parent (directory ++ 47 ∷ rest) ≡ Some (directory ++ 47 ∷ more)))
parent-below [] rest = step (parent rest) refl
  where
    step : (above : Option (List ℕ)) → parent rest ≡ above
        → (parent (47 ∷ rest) ≡ Some []) ⊎ ((more : List ℕ) × (parent (47 ∷ rest) ≡ Some (47 ∷ more)))
    step None e = inl (ap (under 47) e)
    step (Some more) e = inr (more, ap (under 47) e)
parent-below (byte ∷ directory) rest = step (parent-below directory rest)
  where
    step : ((parent (directory ++ 47 ∷ rest) ≡ Some directory) ⊎ ((more : List ℕ) × (parent (directory ++ 47 ∷ rest) ≡ Some (directory ++ 47 ∷ more))))
        → (parent (byte ∷ directory ++ 47 ∷ rest) ≡ Some (byte ∷ directory)) ⊎ ((more : List ℕ) × (parent (byte ∷ directory ++ 47 ∷ rest) ≡ Some (byte ∷ directory ++ 47 ∷ more)))
    step (inl e) = inl (ap (under byte) e)
    step (inr w) = inr (w.0, ap (under byte) w.1)

-- a path with a parent is the parent, a slash and a name without one
pub parent-parts : (path directory : List ℕ) → parent path ≡ Some directory
    → (name : List ℕ) × (path ≡ directory ++ 47 ∷ name) × (parent name ≡ None)
parent-parts [] directory e = cc
parent-parts (byte ∷ path) directory e = step (parent path) refl (parent-parts path) e
  where
    here : (slash : Bool) → (byte == 47) ≡ slash → parent path ≡ None → (if slash then Some [] else None) ≡ Some directory
        → (name : List ℕ) × (byte ∷ path ≡ directory ++ 47 ∷ name) × (parent name ≡ None)
    here true is none found =
        let first : byte ≡ 47 = eqb-true byte 47 is in
        let none_before : [] ≡ directory = cc in
        (path, ap (λ b. b ∷ path) first ∙ ap (λ d. d ++ 47 ∷ path) none_before, none)
    here false is none found = cc

    step : (above : Option (List ℕ)) → parent path ≡ above
        → ((front : List ℕ) → parent path ≡ Some front → (name : List ℕ) × (path ≡ front ++ 47 ∷ name) × (parent name ≡ None))
        → under byte above ≡ Some directory → (name : List ℕ) × (byte ∷ path ≡ directory ++ 47 ∷ name) × (parent name ≡ None)
    step None above rest found = here (byte == 47) refl above found
    step (Some front) above rest found =
        let w : (name : List ℕ) × (path ≡ front ++ 47 ∷ name) × (parent name ≡ None) = rest front above in
        let same : byte ∷ front ≡ directory = cc in
        (w.0, ap (λ p. byte ∷ p) w.1 ∙ ap (λ d. d ++ 47 ∷ w.0) same, w.2)

-- what lies below a path within a directory lies within the directory
pub within-further : (path directory rest : List ℕ) → is_within path directory ≡ true → is_within path (directory ++ 47 ∷ rest) ≡ true
within-further [] [] rest h = refl
within-further [] (byte ∷ directory) rest h = h
within-further (a ∷ path) [] rest h = cc
within-further (a ∷ path) (byte ∷ directory) rest h =
    ap (λ b. b && is_within path (directory ++ 47 ∷ rest)) (first_so _ _ h) ∙ within-further path directory rest (second_so _ _ h)

-- a path lies within itself
pub within-itself : (path : List ℕ) → is_within path path ≡ true
within-itself [] = refl
within-itself (byte ∷ path) = ap (λ b. b && is_within path path) (eq-eqb byte byte refl) ∙ within-itself path

then_assoc : (a b c : Ordering) → ordering_then (ordering_then a b) c ≡ ordering_then a (ordering_then b c)
then_assoc Less b c = refl
then_assoc Equal b c = refl
then_assoc Greater b c = refl

both_slashes : (x y : ℕ) → (x == 47) ≡ true → (y == 47) ≡ true → byte_cmp x y ≡ Equal
both_slashes x y e f = grind (arith, nat_tests)

slash_first : (x y : ℕ) → (x == 47) ≡ true → (y == 47) ≡ false → byte_cmp x y ≡ Less
slash_first x y e f = grind (arith, nat_tests)

slash_second : (x y : ℕ) → (x == 47) ≡ false → (y == 47) ≡ true → byte_cmp x y ≡ Greater
slash_second x y e f = grind (arith, nat_tests)

no_slash : (x y : ℕ) → (x == 47) ≡ false → (y == 47) ≡ false → byte_cmp x y ≡ nat_cmp x y
no_slash x y e f = grind (arith, nat_tests)

nothing_first : (b : List ℕ) (y : ℕ) → components_cmp ([] ∷ []) (components (y ∷ b)) ≡ Less
nothing_first b y = step (y == 47) (first_component b)
  where
    step : (slash : Bool) → ((first : List ℕ) × (others : List (List ℕ)) × (components b ≡ first ∷ others))
        → components_cmp ([] ∷ []) (joined y slash (components b)) ≡ Less
    step true w = ap (λ cs. components_cmp ([] ∷ []) (joined y true cs)) w.2
    step false w = ap (λ cs. components_cmp ([] ∷ []) (joined y false cs)) w.2

nothing_second : (a : List ℕ) (x : ℕ) → components_cmp (components (x ∷ a)) ([] ∷ []) ≡ Greater
nothing_second a x = step (x == 47) (first_component a)
  where
    step : (slash : Bool) → ((first : List ℕ) × (others : List (List ℕ)) × (components a ≡ first ∷ others))
        → components_cmp (joined x slash (components a)) ([] ∷ []) ≡ Greater
    step true w = ap (λ cs. components_cmp (joined x true cs) ([] ∷ [])) w.2
    step false w = ap (λ cs. components_cmp (joined x false cs) ([] ∷ [])) w.2

-- the order of paths is the order component by component, each by its bytes
pub by_components : (a b : List ℕ) → path_cmp a b ≡ components_cmp (components a) (components b)
by_components [] [] = refl
by_components [] (y ∷ b) = sym (nothing_first b y)
by_components (x ∷ a) [] = sym (nothing_second a x)
by_components (x ∷ a) (y ∷ b) = step (x == 47) refl (y == 47) refl (first_component a) (first_component b) (by_components a b)
  where
    step : (s : Bool) → (x == 47) ≡ s → (t : Bool) → (y == 47) ≡ t
        → ((first : List ℕ) × (others : List (List ℕ)) × (components a ≡ first ∷ others))
        → ((first : List ℕ) × (others : List (List ℕ)) × (components b ≡ first ∷ others))
        → path_cmp a b ≡ components_cmp (components a) (components b)
        → path_cmp (x ∷ a) (y ∷ b) ≡ components_cmp (joined x s (components a)) (joined y t (components b))
    step true e true f v w rest = ap (λ r. ordering_then r (path_cmp a b)) (both_slashes x y e f) ∙ rest
    step true e false f v w rest =
        ap (λ r. ordering_then r (path_cmp a b)) (slash_first x y e f)
        ∙ sym (ap (λ cs. components_cmp ([] ∷ components a) (joined y false cs)) w.2)
    step false e true f v w rest =
        ap (λ r. ordering_then r (path_cmp a b)) (slash_second x y e f)
        ∙ sym (ap (λ cs. components_cmp (joined x false cs) ([] ∷ components b)) v.2)
    step false e false f v w rest =
        ap (λ r. ordering_then r (path_cmp a b)) (no_slash x y e f)
        ∙ ap (ordering_then (nat_cmp x y)) (rest ∙ ap (λ cs. components_cmp cs (components b)) v.2 ∙ ap (components_cmp (v.0 ∷ v.1)) w.2)
        ∙ sym (then_assoc (nat_cmp x y) (slice_cmp nat_cmp v.0 w.0) (components_cmp v.1 w.1))
        ∙ sym (ap (λ cs. components_cmp (joined x false cs) (joined y false (w.0 ∷ w.1))) v.2)
        ∙ sym (ap (λ cs. components_cmp (joined x false (components a)) (joined y false cs)) w.2)

not_below_slash : (m p : ℕ) → (p == 47) ≡ true → byte_cmp m p ≡ Less → ⊥
not_below_slash m p e f = grind (arith, nat_tests)

-- what comes behind a directory and before what lies within it lies within it
pub between : (directory middle path : List ℕ) → is_within directory path ≡ true → path_cmp directory middle ≡ Less
    → path_cmp middle path ≡ Less → is_within directory middle ≡ true
between [] [] path within behind before = refl
between [] (m ∷ middle) [] within behind before = cc
between [] (m ∷ middle) (p ∷ path) within behind before = step (byte_cmp m p) refl before
  where
    step : (r : Ordering) → byte_cmp m p ≡ r → ordering_then r (path_cmp middle path) ≡ Less → (m == 47) ≡ true
    step Less e f = absurd (not_below_slash m p within e)
    step Equal e f = ap (λ b. b == 47) (same_rank m p (nat_cmp-IsAntisymmetric (rank m) (rank p) e)) ∙ within
    step Greater e f = cc
between (d ∷ directory) [] path within behind before = cc
between (d ∷ directory) (m ∷ middle) [] within behind before = cc
between (d ∷ directory) (m ∷ middle) (p ∷ path) within behind before =
    step (byte_cmp d m) refl (between directory middle path (second_so (d == p) (is_within directory path) within)) behind before
  where
    same : d ≡ p
    same = eqb-true d p (first_so (d == p) (is_within directory path) within)

    step : (r : Ordering) → byte_cmp d m ≡ r
        → (path_cmp directory middle ≡ Less → path_cmp middle path ≡ Less → is_within directory middle ≡ true)
        → ordering_then r (path_cmp directory middle) ≡ Less → ordering_then (byte_cmp m p) (path_cmp middle path) ≡ Less
        → ((d == m) && is_within directory middle) ≡ true
    step Less e rest f g =
        let back : byte_cmp m p ≡ Greater = ap (byte_cmp m) (sym same) ∙ byte_cmp_total.antisymm m d ∙ ap ordering_reverse e in
        absurd (not_less (sym (ap (λ r. ordering_then r (path_cmp middle path)) back) ∙ g))
      where
        not_less : Greater ≡ Less → ⊥
        not_less h = cc
    step Equal e rest f g =
        let one : d ≡ m = same_rank d m (nat_cmp-IsAntisymmetric (rank d) (rank m) e) in
        let level : byte_cmp m p ≡ Equal = ap (byte_cmp m) (sym same) ∙ byte_cmp_total.antisymm m d ∙ ap ordering_reverse e in
        ap (λ b. b && is_within directory middle) (eq-eqb d m one)
        ∙ rest f (sym (ap (λ r. ordering_then r (path_cmp middle path)) level) ∙ g)
    step Greater e rest f g = cc
