use Rattle.std.proofs.Common.{◌≡◌, ◌≤◌, ap, length, arith}
use Rattle.admin_cli.proofs.HostLaws.{short_host}
use Rattle.admin_cli.proofs.folder_texts.begun.Goals as goal

pub push-requires-2 : goal.push-requires-2
push-requires-2 c =
    let short = short_host c.args.host.now c.as_slice.ensures.valid in
    let is = ap length c.as_slice.ensures.value in
    let first = c.push.ensures.len in
    let begun = ap length c.new-text.ensures in
    omega (arith, short, is, first, begun, c.requires)

pub returns-clause-len : goal.returns-clause-len
returns-clause-len c =
    let short = short_host c.args.host.now c.as_slice.ensures.valid in
    let is = ap length c.as_slice.ensures.value in
    let first = c.push.ensures.len in
    let begun = ap length c.new-text.ensures in
    let then = c.push-2.ensures.len in
    omega (arith, short, is, first, begun, then, c.requires)
