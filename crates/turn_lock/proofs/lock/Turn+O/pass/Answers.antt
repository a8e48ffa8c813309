use Rattle.std.proofs.Common.{arith}
use Rattle.turn_lock.proofs.Keeps.{splits}
use Rattle.turn_lock.proofs.lock.Turn+O.pass.Goals as goal

pub split_seat-requires : goal.split_seat-requires
split_seat-requires g c =
    let from = c.args.self.now.table.shared.key.value in
    let seat = c.args.pass.now.seat in
    let v = seat.me.0 in (
      c.requires.own,
      omega (arith, c.args.self.now.sized.0),
      rw c.args.pass.now.idle.0 (splits (g.O.Object.stands from) from seat.id v.opening v.seen v.callers c.args.pass.now.idle.1),
    )
