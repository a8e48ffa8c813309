use Rattle.store_opening.proofs.Telling.{pool_told}
use Rattle.store_opening.proofs.recover.read_pool.Goals as goal

pub returns-in-Err-clause-foreign : goal.returns-in-Err-clause-foreign
returns-in-Err-clause-foreign g c = λ file found e.
    pool_told _ file found (c.in-Err.ensures.foreign file found (c.pool_refusal.ensures.foreign file found e))

pub returns-in-Err-clause-complete : goal.returns-in-Err-clause-complete
returns-in-Err-clause-complete g c = λ all index told tells have file found e.
    c.in-Err.ensures.complete all index told tells have file found (c.pool_refusal.ensures.foreign file found e)
