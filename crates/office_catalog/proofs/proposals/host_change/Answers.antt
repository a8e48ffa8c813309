use Rattle.office_catalog.proofs.Holding.{written}
use Rattle.office_catalog.proofs.proposals.host_change.Goals as goal

pub returns-clause-holds : goal.returns-clause-holds
returns-clause-holds c = written _ _ c.in_ok-bytes.ensures.file c.in_ok-bytes.ensures.fits
