-- The bytes are what stands before the slash, the slash, and what holds no slash.
use Rattle.std.proofs.Common.{◌≡◌, ℕ, ◌+◌, ◌<◌, List, length, take, drop, get_or, Some, None, ◌∷◌, ◌++◌, sym, ap, ◌∙◌, arith}
use Rattle.std.proofs.lemmas.List.{take-append-drop, drop_more}
use Rattle.attr_records.specs.Paths.{parent}
use Rattle.attr_records.specs.PathLaws.{parent-last}
use Rattle.attr_records.proofs.paths.parent.Goals as goal

parent-found : (path : List ℕ) (i at : ℕ) → i + 1 ≡ at → i < length path → get_or path i 0 ≡ 47 → parent (drop at path) ≡ None
    → Some (take i path) ≡ parent path
parent-found path i at next within slash rest_none =
    let none : parent (drop (i + 1) path) ≡ None = ap (λ n. parent (drop n path)) next ∙ rest_none in
    sym (ap parent (sym (take-append-drop i path) ∙ ap (λ rest. take i path ++ rest) (drop_more path i 0 within) ∙ ap (λ byte. take i path ++ byte ∷ drop (i + 1) path) slash)
    ∙ parent-last (take i path) (drop (i + 1) path) none)

pub returns-then-path-at-eq47 : goal.returns-then-path-at-eq47
returns-then-path-at-eq47 c = parent-found _ _ c.loop-at.at (omega arith) (omega arith) c.if-path-at-eq47.true c.loop-at.invariant.none
