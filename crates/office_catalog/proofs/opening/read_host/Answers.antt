use Rattle.office_catalog.proofs.Opens.{says_host_plain}
use Rattle.office_catalog.proofs.opening.read_host.Goals as goal

pub returns-in-Err-clause-foreign : goal.returns-in-Err-clause-foreign
returns-in-Err-clause-foreign g c = says_host_plain _ c.args.host c.args.name.now c.in-Err.fault c.in-Err.ensures.fault
