-- What is known in memory is the model's.
use Rattle.std.proofs.Common.{sym}
use Rattle.store_parts.specs.RefusalLaws.{runs_broken_by}
use Rattle.store_partials.specs.InfoLaws.{runs_no_host, runs_no_partial, runs_told}
use Rattle.store_partials.proofs.informing.partial_info.Goals as goal

pub returns-in_err-place-clause-runs : goal.returns-in_err-place-clause-runs
returns-in_err-place-clause-runs g c =
    runs_broken_by _ _ _ _ _ _ c.from_residual.ensures.1 c.in_err-place.ensures.rule
    (runs_no_host c.args.parts.now c.args.host.now c.in_err-place.ensures.none)

pub returns-in-Some-clause-runs : goal.returns-in-Some-clause-runs
returns-in-Some-clause-runs g c =
    runs_told c.args.parts.now c.args.host.now c.in_ok-place.place c.in_ok-place.ensures.found c.in-Some.head (sym c.in-Some.ensures)

pub returns-in-None-clause-runs : goal.returns-in-None-clause-runs
returns-in-None-clause-runs g c =
    runs_no_partial c.args.parts.now c.args.host.now c.in_ok-place.place c.in_ok-place.ensures.found (sym c.in-None.ensures)
