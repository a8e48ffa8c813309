use Rattle.turn_lock.specs.History.{own_number}
use Rattle.turn_port.specs.AsksLaws.{Asks-one}
use Rattle.turn_port.specs.Comes.{Stands}
use Rattle.turn_port.specs.ComesLaws.{last_in_kind}
use Rattle.turn_port.proofs.port.TurnPortPort.call.Goals as goal

pub returns-clause-moved : goal.returns-clause-moved
returns-clause-moved g c = (c.call.ensures.own.0, Asks-one Stands _ _ _ _ c.call.ensures.call)

pub returns-clause-in_kind : goal.returns-clause-in_kind
returns-clause-in_kind g c =
    let x = c.call.ensures.call in
    let v = c.args.self.now.pass.seat.me.0 in last_in_kind v.opening v.seen x.0 _ (own_number v.callers) _ _ x.1 x.4
