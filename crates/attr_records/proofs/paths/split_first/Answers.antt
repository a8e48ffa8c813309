use Rattle.attr_records.proofs.Prefixes.{with_prefix-nil, prefix-more}
use Rattle.std.proofs.Common.{sym, arith}
use Rattle.std.proofs.lemmas.Bool.Decides.{nat_tests}
use Rattle.attr_records.proofs.paths.split_first.Goals as goal

pub loop-i-init : goal.loop-i-init
loop-i-init c = sym (with_prefix-nil c.args.path.now)

pub loop-i-preserved : goal.loop-i-preserved
loop-i-preserved c = prefix-more c.args.path.now c.loop-i.i c.loop-i-test.true (grind (arith, nat_tests)) c.loop-i.invariant
