use Rattle.office_pool.specs.FitLaws.{fits_stands}
use Rattle.office_pool.proofs.laws.pool_fits_an_opened_office.Goals as goal

pub returns : goal.returns
returns c = fits_stands
