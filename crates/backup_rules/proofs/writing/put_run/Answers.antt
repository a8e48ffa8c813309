-- One more setting behind those that were written.
use Rattle.std.proofs.Common.{◌≡◌, ℕ, ◌+◌, ◌<◌, ◌≤◌, List, length, drop, get_or, sym, ap, ◌∙◌, arith}
use Rattle.std.specs.Int.{w32}
use Rattle.std.proofs.lemmas.List.{get_or-drop, length-drop}
use Rattle.wire_bytes.specs.Layout.{number_bytes}
use Rattle.wire_bytes.specs.ItemLaws.{items_put_more}
use Rattle.backup_rules.proofs.writing.put_run.Goals as goal

inside : (first i count : ℕ) (numbers : List ℕ) → length numbers ≡ 12 → i < count → first + count ≤ 12 → i < length (drop first numbers)
inside first i count numbers counted within few = omega (arith, length-drop first numbers)

pub loop-i-preserved : goal.loop-i-preserved
loop-i-preserved c =
    items_put_more (number_bytes w32) (drop c.args.first c.args.numbers.now) c.loop-i.i _ 0 _ _ _
    (inside c.args.first c.loop-i.i c.args.count c.args.numbers.now c.get.ensures.in_range.counted c.loop-i-test.true c.requires)
    (c.get.ensures.value ∙ ap (λ k. get_or c.args.numbers.now k 0) c.at.ensures.back ∙ sym (get_or-drop c.args.first c.args.numbers.now c.loop-i.i 0)) c.loop-i.invariant c.in_ok-put_u32.ensures.ok
