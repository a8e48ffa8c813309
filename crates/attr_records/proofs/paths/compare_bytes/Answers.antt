-- At the end of the shorter path the rest of the longer one decides.
use Rattle.std.proofs.Common.{◌≡◌, ℕ, ◌<◌, ◌≤◌, length, drop, List, refl, ◌∙◌, arith}
use Rattle.std.specs.declared.cmp.Ordering.TheVariants.{Less, Greater}
use Rattle.std.proofs.lemmas.List.{drop_all, drop_more}
use Rattle.attr_records.specs.Paths.{path_cmp}
use Rattle.attr_records.proofs.paths.compare_bytes.Goals as goal

left_goes_on : (a b : List ℕ) (i : ℕ) → i < length a → length b ≤ i → Greater ≡ path_cmp (drop i a) (drop i b)
left_goes_on a b i more end = rw (drop_all i b end, drop_more a i 0 more) refl

right_goes_on : (a b : List ℕ) (i : ℕ) → length a ≤ i → i < length b → Less ≡ path_cmp (drop i a) (drop i b)
right_goes_on a b i end more = rw (drop_all i a end, drop_more b i 0 more) refl

pub returns-then-i-b : goal.returns-then-i-b
returns-then-i-b c = left_goes_on _ _ _ c.loop-i-test.true c.if-i-b.true ∙ c.loop-i.invariant.same

pub returns-then-a-b : goal.returns-then-a-b
returns-then-a-b c = right_goes_on _ _ c.loop-i.i (omega arith) (omega arith) ∙ c.loop-i.invariant.same
