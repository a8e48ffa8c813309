use Rattle.std.proofs.Common.{inl, inr}
use Rattle.admin_cli.proofs.RunLaws.{refuses}
use Rattle.admin_cli.proofs.NightLaws.{does_night}
use Rattle.admin_cli.proofs.nightly.run_night.Goals as goal

pub returns-in-Err : goal.returns-in-Err
returns-in-Err g c = λ line bytes asked is.
    let refused = c.in-Err.ensures.refused in
    inr (refuses _ _ c.args.disk c.in-Err.disk line bytes _ c.args.settings.now _ _ refused.0 c.in-Err.note asked is refused.1 refused.2)

pub returns : goal.returns
returns g c = λ line bytes asked is.
    inl (does_night c.args.disk c.in-Ok.store c.into_store-store.result c.in-Ok.ensures.opened c.in-Ok.ensures.counted c.in-Ok.ensures.listed c.in-Ok.ensures.ready
    c.args.scheduled line bytes c.args.settings.now _ _ _ _ _ _ _ _ _ _ _ asked is c.new-port.ensures
    (rw c.as_slice.ensures.value at c.night-end.ensures)
    (rw c.text.ensures at c.say-failed.ensures) c.into_store-store.ensures c.close.ensures c.is_halted-halted.ensures c.note_of_night.ensures)
