use Rattle.request_events.specs.Laws.{looks_at_enough}
use Rattle.request_events.proofs.laws.looks_at_enough.Goals as goal

pub returns : goal.returns
returns c = looks_at_enough
