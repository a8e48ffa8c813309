use Rattle.office_store.specs.ServesLaws.{serves_left, serves_next}
use Rattle.office_store.proofs.laws.a_crash_leaves_what_the_event_may.Goals as goal

pub returns-clause-left : goal.returns-clause-left
returns-clause-left g c = λ event reply state serves at image left.
    serves_left c.args.old.now c.args.new.now event reply serves g.met.D.Disk.only_now state at image left

pub returns-clause-next : goal.returns-clause-next
returns-clause-next g c = λ event reply state next serves at crashed.
    serves_next c.args.old.now c.args.new.now event reply serves g.met.D.Disk.only_now state at next crashed
