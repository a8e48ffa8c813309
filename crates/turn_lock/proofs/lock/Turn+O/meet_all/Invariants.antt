use Rattle.std.proofs.Common.{◌≡◌, ◌++◌, List, All}
use Rattle.turn_lock.specs.declared.object.Entry.{Entry}
use Rattle.turn_lock.specs.History.{StoodIn}
use Rattle.turn_lock.proofs.lock.Turn+O.meet_all.Given as goal

abbrev pub invariant-loop-other : goal.invariant-loop-other
invariant-loop-other g l =
    (l.pass.seat.table_id ≡ l.initial.self.table.shared.table_id)
    × All (λ p. p.seat.table_id ≡ l.initial.self.table.shared.table_id) l.others.items
    × ((done : List _) × (l.initial.others.items ≡ l.others.items ++ done)
    × (l.pass.seat.me.0.opening ≡ l.initial.pass.seat.me.0.opening)
    × ((log : List (Entry g.row.O-Ask.Denot g.row.O-Answer.Denot)) → StoodIn log l.pass.seat.me.0 → StoodIn log l.initial.pass.seat.me.0
    × All (λ p. StoodIn log p.seat.me.0) done))

abbrev pub decreases-loop-other : goal.decreases-loop-other
decreases-loop-other g l = goal.left-loop-other g l
