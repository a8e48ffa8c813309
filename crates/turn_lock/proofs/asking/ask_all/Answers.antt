use Rattle.std.proofs.Common.{◌∷◌, [], arith, length-append, ◌∙◌}
use Rattle.turn_lock.proofs.ManyCalls.{asked_next}
use Rattle.turn_lock.proofs.asking.ask_all.Goals as goal

pub loop-ask-preserved : goal.loop-ask-preserved
loop-ask-preserved g c =
    let i = c.loop-ask.invariant in
    let before = c.args.pass.seat.me.0 in
    let now = c.loop-ask.pass.seat.me.0 in
    let items = c.loop-ask.answers.items in record {
      own = c.call.ensures.own.0 ∙ i.own;
      counted = rw c.push_reserved.ensures.items (omega (arith, length-append items (c.call.result ∷ []), i.counted));
      room = c.push_reserved.ensures.capacity ∙ i.room;
      asked = asked_next g.O.Object.stands before now c.call.new.pass.seat.me.0 c.args.asks.now c.loop-ask.ask-index
          c.ask-item.result items c.push_reserved.new.self.items c.call.result
          c.loop-ask-test.true c.ask-item.is i.counted c.push_reserved.ensures.items i.asked c.call.ensures.call;
    }
