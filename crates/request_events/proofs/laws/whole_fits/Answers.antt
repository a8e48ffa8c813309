use Rattle.request_events.specs.Laws.{whole_fits}
use Rattle.request_events.proofs.laws.whole_fits.Goals as goal

pub returns : goal.returns
returns c = whole_fits
