use Rattle.std.proofs.Common.{◌≡◌, ◌++◌, [], arith, ap, ◌∙◌}
use Rattle.turn_lock.specs.Rule.{meets}
use Rattle.turn_lock.proofs.Callers.{live_append}
use Rattle.turn_lock.proofs.Keeps.{joins, learns_from}
use Rattle.turn_lock.proofs.lock.Turn+O.meet.Goals as goal

pub join_seat-requires : goal.join_seat-requires
join_seat-requires g c =
    let from = c.args.self.now.table.shared.key.value in
    let id = c.args.pass.now.seat.id in
    let v = c.args.pass.now.seat.me.0 in
    let w = c.args.other.seat.me.0 in (
      c.requires.own.0,
      c.requires.own.1,
      ap (λ m. m.1) c.args.other.idle.0,
      omega (arith, c.args.self.now.sized.0),
      rw (c.args.pass.now.idle.0, c.args.other.idle.0)
          (joins (g.O.Object.stands from) from id c.args.other.seat.id v.opening w.opening v.seen w.seen v.callers w.callers c.args.pass.now.idle.1),
    )

pub load-requires : goal.load-requires
load-requires g c =
    let table = c.args.self.now.table.shared in
    let id = c.join_seat.new.seat.id in
    let v = c.args.pass.now.seat.me.0 in
    let w = c.args.other.seat.me.0 in
    let live = live_append v.callers w.callers c.args.pass.now.idle.1 in
    let me : c.join_seat.new.seat.me ≡ (meets v.opening v.seen w.seen (v.callers ++ w.callers), []) =
    c.join_seat.ensures.2 ∙ ap (λ m. (meets v.opening v.seen w.seen (v.callers ++ w.callers), m.1)) c.args.pass.now.idle.0 in (
      c.join_seat.ensures.0 ∙ c.requires.own.0,
      omega (arith, c.args.self.now.sized.0),
      rw me (learns_from g.O.Object.stands table.key.value table.table_id.slots id v.opening v.seen w.seen (v.callers ++ w.callers) live),
    )
