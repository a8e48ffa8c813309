use Rattle.office_catalog.proofs.Holding.{holds_as}
use Rattle.office_catalog.proofs.laws.no_other_file_counts.Goals as goal

pub returns : goal.returns
returns c = holds_as
