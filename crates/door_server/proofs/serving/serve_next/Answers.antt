use Rattle.door_server.proofs.ServingLemmas.{ServesDoor-one}
use Rattle.door_server.proofs.serving.serve_next.Goals as goal

pub returns-in-Link-clause-serves : goal.returns-in-Link-clause-serves
returns-in-Link-clause-serves g c =
    ServesDoor-one c.args.interface.now.defaults g.P.Port.moves g.D.Link.Faults c.args.port.now c.serve_connection-served.new.port c.in-Link.link
    c.serve_connection-served.result.link (g.D.Door.coming c.args.door.now) (g.D.Door.coming c.next.new.self)
    (g.D.Door.coming c.done.new.self) (g.D.Door.given_back c.args.door.now) (g.D.Door.given_back c.next.new.self)
    (g.D.Door.given_back c.done.new.self) (g.C.Clock.moments c.args.clock.now)
    (g.C.Clock.moments c.serve_connection-served.new.clock) c.serve_connection-served.result.end c.serve_connection-served.ensures
    c.in-Link.ensures.link c.in-Link.ensures.given_back c.done.ensures.coming c.done.ensures.given_back
