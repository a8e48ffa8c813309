use Rattle.std.proofs.Common.{ap, inl, inr, refl, ◌∙◌}
use Rattle.serve_workers.specs.Stores.{Moves-none}
use Rattle.command_line.specs.Line.{Serve}
use Rattle.admin_cli.proofs.RunLaws.{is_cause, lacks_memory}
use Rattle.admin_cli.proofs.ServerLaws.{serves_doors, serves_nobody}
use Rattle.admin_cli.proofs.servers.serve_store.Goals as goal

pub returns-in-Err : goal.returns-in-Err
returns-in-Err g c = λ line bytes listen connections asked is.
    inr (lacks_memory _ _ c.args.disk line bytes (Serve listen connections) _ asked refl, refl)

pub returns-in-Err-open_store : goal.returns-in-Err-open_store
returns-in-Err-open_store g c = λ line bytes listen connections asked is.
    let refused = c.in-Err-open_store.ensures.refused in
    inr (
      is_cause _ _ c.args.disk c.in-Err-open_store.disk line bytes _ c.args.settings refused.0 c.in-Err-open_store.note asked is refused.1
          refused.2,
      refl,
    )

pub returns-in_default : goal.returns-in_default
returns-in_default g c = λ line bytes listen connections asked is.
    inl (inr (serves_nobody c.args.disk c.in-Ok-open_store.store c.in-Ok-open_store.store c.in-Ok-open_store.ensures.opened c.in-Ok-open_store.ensures.counted c.in-Ok-open_store.ensures.listed c.in-Ok-open_store.ensures.ready
    _ _ _ _ _ line bytes listen connections c.args.settings _ _ _ _ asked is (Moves-none c.in-Ok-open_store.store)
    (ap (λ w. w.items) c.without_memory.ensures.workers)
    c.without_memory.ensures.disk c.without_memory.ensures.note))

pub returns-in-Err-serve_workers : goal.returns-in-Err-serve_workers
returns-in-Err-serve_workers g c = λ line bytes listen connections asked is.
    let back = c.in-Err-serve_workers.ensures.err in
    let none = c.without_memory-in-Err-serve_workers.ensures in
    inl (inr (serves_nobody c.args.disk c.in-Ok-open_store.store c.in-Ok-open_store.store c.in-Ok-open_store.ensures.opened c.in-Ok-open_store.ensures.counted c.in-Ok-open_store.ensures.listed c.in-Ok-open_store.ensures.ready
    _ _ _ _ _ line bytes listen connections c.args.settings _ _ _ _ asked is (Moves-none c.in-Ok-open_store.store)
    (ap (λ w. w.items) (none.workers ∙ back.1))
    (none.disk ∙ ap (λ store. store.parts.journal.disk) back.0) none.note))

pub returns : goal.returns
returns g c = λ line bytes listen connections asked is.
    inl (inl (serves_doors c.args.disk c.in-Ok-open_store.store c.in-Ok-serve_workers.served.store c.in-Ok-open_store.ensures.opened c.in-Ok-open_store.ensures.counted c.in-Ok-open_store.ensures.listed c.in-Ok-open_store.ensures.ready _ _ _ _ _ _ line bytes listen connections c.args.settings _ _ _ _ _ _ _ asked is c.in-Ok.ensures
    c.in-Ok-serve_workers.ensures.ok
    (rw c.as_slice.ensures.value at c.in-Ok-counts_of.ensures)
    (rw (c.as_slice-2.ensures.value, c.as_slice-3.ensures.value) at c.has_risen-failed.ensures)
    c.close.ensures c.is_halted-halted.ensures c.note_of_served.ensures))
