use Rattle.std.proofs.Common.{refl, ap, length}
use Rattle.office_catalog.proofs.Opens.{says_host_back}
use Rattle.office_catalog.proofs.opening.read_next.Goals as goal

pub returns-in-Err-clause-foreign : goal.returns-in-Err-clause-foreign
returns-in-Err-clause-foreign g c = says_host_back _ _ _ _ c.args.name.now c.in-Err.fault refl (ap length c.hosts.ensures.hosts) c.in-Err.ensures.foreign
