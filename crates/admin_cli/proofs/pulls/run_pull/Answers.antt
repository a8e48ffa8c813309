use Rattle.std.proofs.Common.{inl, inr, refl}
use Rattle.command_line.specs.Line.{Pull}
use Rattle.admin_cli.proofs.RunLaws.{refuses, lacks_memory}
use Rattle.admin_cli.proofs.PullLaws.{same_seen, behind_wire, does_pull}
use Rattle.admin_cli.proofs.pulls.run_pull.Goals as goal

pub returns-in-Err : goal.returns-in-Err
returns-in-Err g c = λ line bytes from asked is.
    inr (record { cause = lacks_memory _ _ c.args.disk line bytes (Pull c.args.host.now from) _ asked refl; untouched = refl; unasked = refl })

pub returns-in-Err-open_store : goal.returns-in-Err-open_store
returns-in-Err-open_store g c = λ line bytes from asked is.
    let refused = c.in-Err-open_store.ensures.refused in
    inr (refuses _ _ c.args.disk c.in-Err-open_store.disk line bytes _ c.args.settings _ _ refused.0 c.in-Err-open_store.note asked is
    refused.1 refused.2)

pub returns : goal.returns
returns g c = λ line bytes from asked is.
    inl (does_pull c.args.disk c.in-Ok-open_store.store c.into_store-store.result c.in-Ok-open_store.ensures.opened
    c.in-Ok-open_store.ensures.counted c.in-Ok-open_store.ensures.listed c.in-Ok-open_store.ensures.ready
    c.args.host.now _ from line bytes c.args.settings _ _ _ _ _ _ _ _ _ _ _ _ _ _ asked is (c.now.ensures.first, c.now.ensures.later)
    c.in-Ok.ensures c.plan_of-plan.ensures c.new-port.ensures c.pull-end.ensures.goes c.pull-end.ensures.counted
    (same_seen _ _ c.new-wire.ensures.left c.new-wire.ensures.written c.new-wire.ensures.sent c.new-wire.ensures.faults)
    (behind_wire _ _ _ _ c.into_link-link.ensures.ahead refl c.into_link-link.ensures.left c.into_link-link.ensures.written
    c.into_link-link.ensures.sent c.into_link-link.ensures.faults)
    c.into_store-store.ensures c.close.ensures c.is_halted-halted.ensures c.note_of_pull.ensures)
