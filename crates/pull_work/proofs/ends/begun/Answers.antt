use Rattle.std.proofs.Common.{ap, length, arith}
use Rattle.pull_work.proofs.HostLaws.{short_host}
use Rattle.pull_work.proofs.ends.begun.Goals as goal

pub push-requires-2 : goal.push-requires-2
push-requires-2 c =
    let short = short_host c.args.host.now c.as_slice.ensures.valid in
    let is = ap length c.as_slice.ensures.value in
    let first = c.push.ensures.len in
    let begun = ap length c.new-text.ensures in
    omega (arith, short, is, first, begun)

pub returns-clause-len : goal.returns-clause-len
returns-clause-len c =
    let short = short_host c.args.host.now c.as_slice.ensures.valid in
    let is = ap length c.as_slice.ensures.value in
    let first = c.push.ensures.len in
    let begun = ap length c.new-text.ensures in
    let then = c.push-2.ensures.len in
    omega (arith, short, is, first, begun, then)
