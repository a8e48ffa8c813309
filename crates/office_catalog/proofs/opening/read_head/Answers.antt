use Rattle.office_catalog.proofs.Opens.{says_plain}
use Rattle.office_catalog.proofs.opening.read_head.Goals as goal

pub returns-in-Err-clause-foreign : goal.returns-in-Err-clause-foreign
returns-in-Err-clause-foreign g c = says_plain _ c.in-Err.fault c.in-Err.ensures.fault
