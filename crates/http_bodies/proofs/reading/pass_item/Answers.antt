use Rattle.http_bodies.proofs.ReadLemmas.{Reads-item}
use Rattle.http_bodies.proofs.reading.pass_item.Goals as goal

pub returns-in-Ok-clause-reads : goal.returns-in-Ok-clause-reads
returns-in-Ok-clause-reads g c =
    rw c.passed.ensures (Reads-item c.args.body.now _ _ c.in-Ok.size c.in-Ok.ensures.took c.in-Ok.ensures.fits)
