use Rattle.std.proofs.Common.{inl, inr}
use Rattle.admin_cli.proofs.RunLaws.{refuses}
use Rattle.admin_cli.proofs.DemoLaws.{does_demo}
use Rattle.admin_cli.proofs.demos.run_demo.Goals as goal

pub returns-in-Err : goal.returns-in-Err
returns-in-Err g c = λ line bytes read moments asked is.
    let refused = c.in-Err.ensures.refused in
    inr (refuses _ _ c.args.disk c.in-Err.disk line bytes _ read _ moments refused.0 c.in-Err.note asked is refused.1 refused.2)

pub returns : goal.returns
returns g c = λ line bytes read moments asked is.
    inl (does_demo c.args.disk c.in-Ok.store c.into_store-store.result c.in-Ok.ensures.opened c.in-Ok.ensures.counted c.in-Ok.ensures.listed c.in-Ok.ensures.ready
    c.args.number line bytes read _ _ _ _ moments _ _ _ _ _ asked is c.new-port.ensures c.demo-end.ensures
    (rw c.text.ensures at c.say-failed.ensures) c.into_store-store.ensures c.close.ensures c.is_halted-halted.ensures c.note_of_demo.ensures)
