-- A prefix that two paths share tell nothing of their order.
use Rattle.std.proofs.Common.{◌≡◌, ℕ, ◌+◌, List, [], ◌∷◌, ◌++◌, take, drop, refl, sym, ap, ◌∙◌}
use Rattle.std.specs.Ordering.{ordering_then}
use Rattle.std.specs.Cmp.{tied_itself}
use Rattle.std.proofs.lemmas.List.{take-append-drop, drop-drop}
use Rattle.attr_records.specs.Paths.{path_cmp}
use Rattle.attr_records.specs.PathLaws.{byte_cmp_total}

passed : (prefix a b : List ℕ) → path_cmp (prefix ++ a) (prefix ++ b) ≡ path_cmp a b
passed [] a b = refl
passed (byte ∷ prefix) a b =
    ap (λ r. ordering_then r (path_cmp (prefix ++ a) (prefix ++ b))) (tied_itself byte_cmp_total byte) ∙ passed prefix a b

-- `count` bytes that both have from an index on may be passed over
pub shared : (a b : List ℕ) (at count : ℕ) → take count (drop at a) ≡ take count (drop at b)
    → path_cmp (drop (at + count) a) (drop (at + count) b) ≡ path_cmp (drop at a) (drop at b)
shared a b at count e =
    let prefix : List ℕ = take count (drop at a) in
    let left : drop at a ≡ prefix ++ drop (at + count) a = sym (take-append-drop count (drop at a)) ∙ ap (λ rest. prefix ++ rest) (drop-drop count at a) in
    let right : drop at b ≡ prefix ++ drop (at + count) b =
    sym (take-append-drop count (drop at b)) ∙ ap (λ rest. take count (drop at b) ++ rest) (drop-drop count at b)
    ∙ ap (λ bytes. bytes ++ drop (at + count) b) (sym e) in
    sym (ap (λ path. path_cmp path (drop at b)) left ∙ ap (path_cmp (prefix ++ drop (at + count) a)) right ∙ passed prefix (drop (at + count) a) (drop (at + count) b))
