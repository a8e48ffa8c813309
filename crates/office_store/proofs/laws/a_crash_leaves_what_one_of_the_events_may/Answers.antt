use Rattle.office_store.specs.CrashLaws.{moves_left, moves_next}
use Rattle.office_store.proofs.laws.a_crash_leaves_what_one_of_the_events_may.Goals as goal

pub returns-clause-left : goal.returns-clause-left
returns-clause-left g c = λ calls state moves at sound image left.
    moves_left c.args.old.now c.args.new.now calls moves g.met.D.Disk.only_now state at sound image left

pub returns-clause-next : goal.returns-clause-next
returns-clause-next g c = λ calls state next moves at sound crashed.
    moves_next c.args.old.now c.args.new.now calls moves g.met.D.Disk.only_now state at sound next crashed
