use Rattle.http_bodies.specs.Laws.{bodies_are_one, whole_bodies_do_not_stop, stops_are_one}
use Rattle.http_bodies.proofs.laws.an_input_has_one_reading.Goals as goal

pub returns-clause-whole : goal.returns-clause-whole
returns-clause-whole c = bodies_are_one

pub returns-clause-whole_or_stops : goal.returns-clause-whole_or_stops
returns-clause-whole_or_stops c = whole_bodies_do_not_stop

pub returns-clause-stops : goal.returns-clause-stops
returns-clause-stops c = stops_are_one
