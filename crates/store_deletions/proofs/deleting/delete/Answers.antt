-- The event is judged by the catalog; a deletion behind that.
use Rattle.std.specs.Prelude.{[], ◌∷◌, Ok, Err}
use Rattle.std.proofs.Common.{refl}
use Rattle.office_model.specs.declared.answer.Answer.{Answer}
use Rattle.office_model.specs.declared.answer.Answer.TheVariants.{Done}
use Rattle.office_model.specs.declared.event.Event.TheVariants.{Delete}
use Rattle.office_model.specs.declared.refusal.BrokenRule.TheVariants.{NoHost}
use Rattle.store_parts.specs.RefusalLaws.{runs_broken_by}
use Rattle.store_parts.specs.RefusedLaws.{runs_no_host, runs_broken}
use Rattle.store_deletions.specs.MeaningLaws.{no_host_delete, deleting_broken, deleting}
use Rattle.store_deletions.specs.AfterLaws.{within_there}
use Rattle.store_deletions.proofs.Calling.{said_again, said_broken, said_at, hostless_broken, has_host}
use Rattle.store_deletions.proofs.deleting.delete.Goals as goal

pub returns-in_err-at-clause-runs : goal.returns-in_err-at-clause-runs
returns-in_err-at-clause-runs g c =
    runs_broken_by c.args.parts.now c.args.parts.now (Delete c.args.host.now c.args.number) c.from_residual.result _ NoHost
    c.from_residual.ensures.1 c.in_err-at.ensures.rule
    (runs_no_host c.args.parts.now (Delete c.args.host.now c.args.number) c.args.host.now c.in_err-at.ensures.none
    (λ office names e. no_host_delete c.args.host.now c.args.number office names e))

pub returns-in_err-deletable-clause-runs : goal.returns-in_err-deletable-clause-runs
returns-in_err-deletable-clause-runs g c =
    let index = within_there c.args.parts.now.catalog.hosts c.in_ok-at.at c.in_ok-at.ensures.within in
    runs_broken_by c.args.parts.now c.args.parts.now (Delete c.args.host.now c.args.number) c.from_residual-in_err-deletable.result _ _
    c.from_residual-in_err-deletable.ensures.1 refl
    (runs_broken c.args.parts.now (Delete c.args.host.now c.args.number) _
    (λ office names is.
    deleting_broken c.args.parts.now.catalog c.args.host.now c.in_ok-at.at index.0 c.in_ok-at.ensures.found index.1 c.args.number
    _ (c.in_err-deletable.ensures.broken index.0 index.1) office names is.catalog_is))

pub returns-in-Ok-clause-runs : goal.returns-in-Ok-clause-runs
returns-in-Ok-clause-runs g c =
    let index = within_there c.args.parts.now.catalog.hosts c.in_ok-at.at c.in_ok-at.ensures.within in
    c.in-Ok.ensures.runs (Delete c.args.host.now c.args.number) Done
    (deleting c.args.parts.now.catalog c.args.host.now c.in_ok-at.at index.0 c.in_ok-at.ensures.found index.1 c.args.number
    (c.in_ok-deletable.ensures.fine index.0 index.1))

pub returns-in-Err-clause-runs : goal.returns-in-Err-clause-runs
returns-in-Err-clause-runs g c =
    let index = within_there c.args.parts.now.catalog.hosts c.in_ok-at.at c.in_ok-at.ensures.within in
    c.in-Err.ensures.runs (Delete c.args.host.now c.args.number) Done
    (deleting c.args.parts.now.catalog c.args.host.now c.in_ok-at.at index.0 c.in_ok-at.ensures.found index.1 c.args.number
    (c.in_ok-deletable.ensures.fine index.0 index.1))

pub returns-in_err-at-clause-tables : goal.returns-in_err-at-clause-tables
returns-in_err-at-clause-tables g c = λ place is.
    said_broken c.args.parts.now c.args.parts.now place (c.args.number ∷ []) c.from_residual.result _ c.from_residual.ensures.1

pub returns-in_err-deletable-clause-tables : goal.returns-in_err-deletable-clause-tables
returns-in_err-deletable-clause-tables g c = λ place is.
    said_broken c.args.parts.now c.args.parts.now place (c.args.number ∷ []) c.from_residual-in_err-deletable.result _
    c.from_residual-in_err-deletable.ensures.1

pub returns-in-Ok-clause-tables : goal.returns-in-Ok-clause-tables
returns-in-Ok-clause-tables g c =
    said_at c.args.parts.now c.shorten.new.parts _ c.in_ok-at.at (c.args.number ∷ []) (Ok Done) c.in_ok-at.ensures.found c.in-Ok.ensures.tables

pub returns-in-Err-clause-tables : goal.returns-in-Err-clause-tables
returns-in-Err-clause-tables g c =
    said_at {A = Answer} c.args.parts.now c.shorten.new.parts _ c.in_ok-at.at (c.args.number ∷ []) (Err c.in-Err.refusal) c.in_ok-at.ensures.found
    (said_again (Unit {0}) Answer c.args.parts.now c.shorten.new.parts c.in_ok-at.at (c.args.number ∷ []) c.in-Err.refusal c.in-Err.ensures.tables)

pub returns-in_err-at-clause-host : goal.returns-in_err-at-clause-host
returns-in_err-at-clause-host g c = hostless_broken c.args.parts.now c.args.host.now c.from_residual.result _ c.from_residual.ensures.1

pub returns-in_err-deletable-clause-host : goal.returns-in_err-deletable-clause-host
returns-in_err-deletable-clause-host g c =
    hostless_broken c.args.parts.now c.args.host.now c.from_residual-in_err-deletable.result _ c.from_residual-in_err-deletable.ensures.1

pub returns-in-Ok-clause-host : goal.returns-in-Ok-clause-host
returns-in-Ok-clause-host g c =
    let index = within_there c.args.parts.now.catalog.hosts c.in_ok-at.at c.in_ok-at.ensures.within in
    has_host {A = Answer} c.args.parts.now c.args.host.now c.in_ok-at.at index.0 c.in_ok-at.ensures.found index.1 (Ok Done)

pub returns-in-Err-clause-host : goal.returns-in-Err-clause-host
returns-in-Err-clause-host g c =
    let index = within_there c.args.parts.now.catalog.hosts c.in_ok-at.at c.in_ok-at.ensures.within in
    has_host {A = Answer} c.args.parts.now c.args.host.now c.in_ok-at.at index.0 c.in_ok-at.ensures.found index.1 (Err c.in-Err.refusal)
