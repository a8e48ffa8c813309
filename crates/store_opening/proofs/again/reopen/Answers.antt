use Rattle.store_opening.proofs.Running.{reopen_steps, reopen_crash}
use Rattle.store_opening.proofs.again.reopen.Goals as goal

pub returns-clause-steps : goal.returns-clause-steps
returns-clause-steps g c = λ state at. reopen_steps c.args.parts.now _ _ c.reopen_parts.ensures state at

pub returns-clause-crash : goal.returns-clause-crash
returns-clause-crash g c = λ state at. reopen_crash c.args.parts.now _ c.reopen_parts.result c.reopen_parts.ensures state at
