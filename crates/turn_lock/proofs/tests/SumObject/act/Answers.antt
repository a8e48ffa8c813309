use Rattle.std.proofs.Common.{refl, ◌+◌, ◌%◌, ◌^◌}
use Rattle.turn_lock.specs.SumLaws.{sums_more}
use Rattle.turn_lock.proofs.tests.SumObject.act.Goals as goal

pub returns : goal.returns
returns c = λ from log by is. sums_more from.value c.args.self.now.value c.args.ask.now
    ((c.args.self.now.value + c.args.ask.now) % 2 ^ 64) by log is refl
