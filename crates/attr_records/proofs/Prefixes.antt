-- A scan of the components of a path: the bytes up to the next slash.
use Rattle.std.specs.Prelude.{◌≡◌, ℕ, ◌+◌, ◌<◌, ◌≤◌, ◌==◌, true, false, List, [], ◌∷◌, ◌++◌, length, take, drop}
use Rattle.std.proofs.Common.{refl, sym, ap, ◌∙◌, get_or}
use Rattle.std.proofs.lemmas.List.{append_assoc, append-nil, drop_more, take_more, drop_all, take_all}
use Rattle.attr_records.specs.Paths.{components, joined}
use Rattle.attr_records.specs.PathLaws.{first_component}

-- bytes prepended to a path: they go into its first component
abbrev pub with_prefix : List ℕ → List (List ℕ) → List (List ℕ)
with_prefix prefix [] = prefix ∷ []
with_prefix prefix (first ∷ others) = (prefix ++ first) ∷ others

pub with_prefix-joined : (prefix : List ℕ) (byte : ℕ) (cs : List (List ℕ))
    → with_prefix prefix (joined byte false cs) ≡ with_prefix (prefix ++ byte ∷ []) cs
with_prefix-joined prefix byte [] = refl
with_prefix-joined prefix byte (first ∷ others) = ap (λ c. c ∷ others) (sym (append_assoc prefix (byte ∷ []) first))

pub with_prefix-nil : (path : List ℕ) → with_prefix [] (components path) ≡ components path
with_prefix-nil path = let e = first_component path in ap (with_prefix []) e.2 ∙ sym e.2

-- a byte that is no slash is appended to the prefix
pub prefix-more : (path : List ℕ) (i : ℕ) → i < length path → (get_or path i 0 == 47) ≡ false
    → components path ≡ with_prefix (take i path) (components (drop i path))
    → components path ≡ with_prefix (take (i + 1) path) (components (drop (i + 1) path))
prefix-more path i within other so_far =
    so_far
    ∙ ap (λ rest. with_prefix (take i path) (components rest)) (drop_more path i 0 within)
    ∙ ap (λ slash. with_prefix (take i path) (joined (get_or path i 0) slash (components (drop (i + 1) path)))) other
    ∙ with_prefix-joined (take i path) (get_or path i 0) (components (drop (i + 1) path))
    ∙ ap (λ prefix. with_prefix prefix (components (drop (i + 1) path))) (sym (take_more path i 0 within))

-- a slash ends the first component
pub prefix-ends : (path : List ℕ) (i : ℕ) → i < length path → (get_or path i 0 == 47) ≡ true
    → components path ≡ with_prefix (take i path) (components (drop i path))
    → components path ≡ take i path ∷ components (drop (i + 1) path)
prefix-ends path i within slash so_far =
    so_far
    ∙ ap (λ rest. with_prefix (take i path) (components rest)) (drop_more path i 0 within)
    ∙ ap (λ s. with_prefix (take i path) (joined (get_or path i 0) s (components (drop (i + 1) path)))) slash
    ∙ ap (λ first. first ∷ components (drop (i + 1) path)) (append-nil (take i path))

-- with no slash the path is its one component
pub prefix-all : (path : List ℕ) (i : ℕ) → length path ≤ i → components path ≡ with_prefix (take i path) (components (drop i path))
    → components path ≡ path ∷ []
prefix-all path i end so_far =
    so_far
    ∙ ap (λ rest. with_prefix (take i path) (components rest)) (drop_all i path end)
    ∙ ap (λ prefix. (prefix ++ []) ∷ []) (take_all i path end)
    ∙ ap (λ first. first ∷ []) (append-nil path)
