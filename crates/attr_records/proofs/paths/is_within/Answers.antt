-- A path that ends before the directory is not within it.
use Rattle.std.proofs.Common.{◌≡◌, ℕ, ◌<◌, ◌≤◌, length, drop, List, false, refl, ◌∙◌}
use Rattle.std.proofs.lemmas.List.{drop_all, drop_more}
use Rattle.attr_records.specs.Paths.{is_within}
use Rattle.attr_records.proofs.paths.is_within.Goals as goal

ends_before : (directory path : List ℕ) (i : ℕ) → i < length directory → length path ≤ i
    → false ≡ is_within (drop i directory) (drop i path)
ends_before directory path i more end = rw (drop_all i path end, drop_more directory i 0 more) refl

pub returns-then-i-path : goal.returns-then-i-path
returns-then-i-path c = ends_before _ _ c.loop-i.i c.loop-i-test.true c.if-i-path.true ∙ c.loop-i.invariant.same
