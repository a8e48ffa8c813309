-- One more number behind those that were written.
use Rattle.std.proofs.Common.{refl}
use Rattle.std.specs.Int.{w32}
use Rattle.wire_bytes.specs.Layout.{number_bytes}
use Rattle.wire_bytes.specs.ItemLaws.{items_put_more}
use Rattle.backup_rules.proofs.writing.put_numbers.Goals as goal

pub loop-number-preserved : goal.loop-number-preserved
loop-number-preserved c = items_put_more (number_bytes w32) c.args.numbers.now c.loop-number.number-index _ 0 _ _ _ c.loop-number-test.true refl c.loop-number.invariant c.in_ok-put_u32.ensures.ok
