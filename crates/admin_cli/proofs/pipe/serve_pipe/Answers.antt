use Rattle.std.proofs.Common.{inl, inr, refl}
use Rattle.command_line.specs.Line.{Pipe}
use Rattle.admin_cli.proofs.RunLaws.{serves, refuses, lacks_memory}
use Rattle.admin_cli.proofs.pipe.serve_pipe.Goals as goal

pub returns-in-Err : goal.returns-in-Err
returns-in-Err g c = λ line bytes asked is.
    inr (record { cause = lacks_memory _ _ c.args.disk line bytes Pipe _ asked refl; untouched = refl; unasked = refl })

pub returns-in-Err-open_store : goal.returns-in-Err-open_store
returns-in-Err-open_store g c = λ line bytes asked is.
    let refused = c.in-Err-open_store.ensures.refused in
    inr (refuses _ _ c.args.disk c.in-Err-open_store.disk line bytes _ c.args.settings _ _ refused.0 c.in-Err-open_store.note asked is
    refused.1 refused.2)

pub returns : goal.returns
returns g c = λ line bytes asked is.
    inl (serves c.args.disk c.in-Ok-open_store.store c.into_store-store.result c.in-Ok-open_store.ensures.opened c.in-Ok-open_store.ensures.counted c.in-Ok-open_store.ensures.listed c.in-Ok-open_store.ensures.ready
    _ line bytes c.args.settings _ _ _ _ _ _ _ _ _ _ asked is c.in-Ok.ensures c.new-port.ensures c.serve_connection-end.ensures
    c.into_store-store.ensures c.close.ensures c.is_halted-halted.ensures c.note_of.ensures)
