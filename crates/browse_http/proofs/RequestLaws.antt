-- An input has one reading as requests.
use Rattle.std.specs.Prelude.{◌≡◌, ℕ, List, ◌++◌}
use Rattle.std.proofs.Common.{sym, ap, ◌∙◌, subst, append_assoc}
use Rattle.std.proofs.lemmas.List.{append_cancel_right}
use Rattle.http_heads.specs.Heads.{HeadParts}
use Rattle.http_heads.specs.Fronts.{HeadOutcome, Read, IsHeadRead}
use Rattle.http_heads.proofs.FrontLaws.{head-decides}
use Rattle.http_bodies.specs.Bodies.{IsBody}
use Rattle.http_bodies.specs.Laws.{bodies_are_one}
use Rattle.browse_http.specs.Talk.{coding_of}
use Rattle.browse_http.specs.Laws.{RequestsAreOne}

-- the parts that were read, or else these; and what was left
abbrev parts_or : HeadParts → HeadOutcome → HeadParts
parts_or other (Read parts rest) = parts
parts_or other outcome = other

abbrev rest_or : List ℕ → HeadOutcome → List ℕ
rest_or other (Read parts rest) = rest
rest_or other outcome = other

-- an input has one head
one_head : (input : List ℕ) (parts parts' : HeadParts) (rest rest' : List ℕ) → IsHeadRead input (Read parts rest) → IsHeadRead input (Read parts' rest')
    → Read parts rest ≡ Read parts' rest'
one_head input parts parts' rest rest' a b =
    head-decides input a.head rest (Read parts rest) a.fits.reads a ∙ sym (head-decides input a.head rest (Read parts' rest') a.fits.reads b)

-- the same head leaves the same
same_heads : (head head' : List ℕ) (rest rest' : List ℕ) → head ++ rest ≡ head' ++ rest' → rest ≡ rest' → head ≡ head'
same_heads head head' rest rest' is same =
    append_cancel_right head head' rest' (ap (λ (xs : List ℕ). head ++ xs) (sym same) ∙ is)

pub requests-one : RequestsAreOne
requests-one defaults x y rest rest' a b is =
    let input : x.head ++ (x.raw ++ rest) ≡ y.head ++ (y.raw ++ rest') = sym (append_assoc x.head x.raw rest) ∙ is ∙ append_assoc y.head y.raw rest' in
    let one : Read x.parts (x.raw ++ rest) ≡ Read y.parts (y.raw ++ rest') =
    one_head (y.head ++ (y.raw ++ rest')) x.parts y.parts (x.raw ++ rest) (y.raw ++ rest')
    (subst (λ (xs : List ℕ). IsHeadRead xs (Read x.parts (x.raw ++ rest))) input (a.head (x.raw ++ rest))) (b.head (y.raw ++ rest')) in
    let parts : x.parts ≡ y.parts = ap (parts_or x.parts) one in
    let left : x.raw ++ rest ≡ y.raw ++ rest' = ap (rest_or rest) one in
    let bodies = bodies_are_one (coding_of y.parts) x.raw y.raw x.body y.body rest rest'
    (subst (λ (p : HeadParts). IsBody (coding_of p) x.raw x.body) parts a.body) b.body left in
    (same_heads x.head y.head (x.raw ++ rest) (y.raw ++ rest') input left, parts, bodies.0, bodies.1, bodies.2)
