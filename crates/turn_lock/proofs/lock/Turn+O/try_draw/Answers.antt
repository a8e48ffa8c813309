use Rattle.std.proofs.Common.{arith}
use Rattle.turn_lock.proofs.Keeps.{draws}
use Rattle.turn_lock.proofs.lock.Turn+O.try_draw.Goals as goal

pub compare_exchange-requires : goal.compare_exchange-requires
compare_exchange-requires g c =
    let table = c.args.self.now.table.shared in
    let from = table.key.value in
    let v = c.args.pass.now.me.0 in (
      c.requires.own,
      omega (arith, c.args.self.now.sized.0),
      rw c.requires.idle
          (draws (g.O.Object.stands from) from table.table_id.slots c.args.pass.now.id c.args.ticket v.opening v.seen v.callers c.requires.fits),
    )
