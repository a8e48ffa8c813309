use Rattle.http_wire.specs.Wires.{seen_of}
use Rattle.peer_exchange.specs.declared.fault.PeerFault.TheVariants as F
use Rattle.pull_work.specs.Compared.{new_lines}
use Rattle.pull_work.specs.Script.{Asking, Comparing, Bringing, Over}
use Rattle.pull_work.proofs.CountLaws.{Counted-calm, Counted-behind, Counted-end, still}
use Rattle.pull_work.proofs.GoesLaws.{joined_by}
use Rattle.pull_work.proofs.PartLaws.{listed_there, unlisted_there}
use Rattle.pull_work.proofs.work.pull.Goals as goal

pub returns-in-Err-clause-goes : goal.returns-in-Err-clause-goes
returns-in-Err-clause-goes g c = c.in-Err.ensures.goes (seen_of c.args.wire.now)

pub returns-in-Err-clause-counted : goal.returns-in-Err-clause-counted
returns-in-Err-clause-counted g c = Counted-calm _ _ c.in-Err.ensures.unfailed

pub returns-in-Err-list_backups-clause-goes : goal.returns-in-Err-list_backups-clause-goes
returns-in-Err-list_backups-clause-goes g c =
    joined_by g.P.Port.moves c.args.plan.now g.met.P.Port.joined c.args.home.now c.own_backups.new.home c.own_backups.new.home (seen_of c.args.wire.now)
    (seen_of c.args.wire.now) (seen_of c.list_backups.new.wire) Asking (Comparing c.in-Ok.own.lines c.in-Ok.own.next) (Over c.end_by.result)
    (c.in-Ok.ensures.goes (seen_of c.args.wire.now))
    (unlisted_there g.P.Port.moves g.met.P.Port.none c.args.plan.now c.own_backups.new.home (seen_of c.args.wire.now) (seen_of c.list_backups.new.wire)
    c.in-Ok.own.lines c.in-Ok.own.next c.in-Err-list_backups.fault c.end_by.result c.end_by.ensures c.in-Err-list_backups.ensures.asked)

pub returns-in-Err-list_backups-clause-counted : goal.returns-in-Err-list_backups-clause-counted
returns-in-Err-list_backups-clause-counted g c =
    Counted-end _ _ c.in-Err-list_backups.fault c.end_by.result c.end_by.ensures c.in-Err-list_backups.ensures.counted

pub returns-clause-goes : goal.returns-clause-goes
returns-clause-goes g c =
    let own = c.in-Ok.own in
    let there = c.in-Ok-list_backups.there in
    let base = c.base_in-base.result in
    joined_by g.P.Port.moves c.args.plan.now g.met.P.Port.joined c.args.home.now c.own_backups.new.home c.bring_all.new.home (seen_of c.args.wire.now)
    (seen_of c.list_backups.new.wire) (seen_of c.bring_all.new.wire) Asking (Bringing base (new_lines own.next c.as_slice-3.result.now) 0)
    (Over c.bring_all.result)
    (joined_by g.P.Port.moves c.args.plan.now g.met.P.Port.joined c.args.home.now c.own_backups.new.home c.own_backups.new.home (seen_of c.args.wire.now)
    (seen_of c.args.wire.now) (seen_of c.list_backups.new.wire) Asking (Comparing own.lines own.next)
    (Bringing base (new_lines own.next c.as_slice-3.result.now) 0) (c.in-Ok.ensures.goes (seen_of c.args.wire.now))
    (listed_there g.P.Port.moves g.met.P.Port.none c.args.plan.now c.own_backups.new.home (seen_of c.args.wire.now) (seen_of c.list_backups.new.wire)
    own.lines own.next there base c.as_slice-3.result.now (cc) c.as_slice-3.ensures c.in-Ok-list_backups.ensures.asked))
    c.bring_all.ensures.goes

pub returns-clause-counted : goal.returns-clause-counted
returns-clause-counted g c = Counted-behind _ _ _ _ (still _ _ _ F.Link c.in-Ok-list_backups.ensures.counted) c.bring_all.ensures.counted
