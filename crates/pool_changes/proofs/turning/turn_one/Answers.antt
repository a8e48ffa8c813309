use Rattle.std.proofs.Common.{◌≡◌, None}
use Rattle.pool_changes.specs.Kept.{slots_of}
use Rattle.pool_changes.specs.RelistedLaws.{turn_none}
use Rattle.pool_changes.proofs.turning.turn_one.Goals as goal

pub returns-in-None : goal.returns-in-None
returns-in-None c =
    let none : slots_of c.args.names.now c.args.id.now ≡ None = cc (c.get.ensures, c.in-None.is) in
    turn_none c.args.turn (slots_of c.args.names.now) c.args.id.now none
