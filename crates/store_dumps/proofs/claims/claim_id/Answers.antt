use Rattle.pool_changes.specs.Kept.{slots_of}
use Rattle.store_dumps.specs.ClaimLaws.{gains_one}
use Rattle.store_dumps.proofs.claims.claim_id.Goals as goal

pub returns-then-has-clause-gains : goal.returns-then-has-clause-gains
returns-then-has-clause-gains g c = λ given.
    gains_one (slots_of c.args.pool.now.names) (slots_of c.claim.new.self.names) c.args.id given c.claim.ensures.claimed
