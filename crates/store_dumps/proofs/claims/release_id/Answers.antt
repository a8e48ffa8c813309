use Rattle.pool_changes.specs.Kept.{slots_of}
use Rattle.store_dumps.specs.ClaimLaws.{lets_go_one}
use Rattle.store_dumps.proofs.claims.release_id.Goals as goal

pub returns-then-claims-gt0-clause-go : goal.returns-then-claims-gt0-clause-go
returns-then-claims-gt0-clause-go g c = λ some.
    lets_go_one (slots_of c.args.pool.now.names) (slots_of c.release.new.self.names) c.args.id some c.release.ensures.let_go
