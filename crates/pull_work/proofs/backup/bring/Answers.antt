use Rattle.std.specs.Prelude.{◌∷◌}
use Rattle.std.proofs.Common.{refl}
use Rattle.http_wire.specs.Wires.{seen_of}
use Rattle.peer_exchange.specs.declared.fault.PeerFault.TheVariants as F
use Rattle.frame_puts.specs.declared.laying.Laying.TheVariants.{Nothing}
use Rattle.pull_work.specs.Script.{Bringing, Opening, Reading, Aborting, Over, intake_of, job_of}
use Rattle.pull_work.specs.Parts.{brought}
use Rattle.pull_work.proofs.CountLaws.{Counted-calm, Counted-behind, Counted-end, Counted-err, still}
use Rattle.pull_work.proofs.GoesLaws.{joined_by}
use Rattle.pull_work.proofs.PartLaws.{opened_there, unopened_there}
use Rattle.pull_work.proofs.backup.bring.Goals as goal

pub returns-in-Err-clause-goes : goal.returns-in-Err-clause-goes
returns-in-Err-clause-goes g c = λ left done.
    unopened_there g.P.Port.moves g.met.P.Port.none c.args.plan.now c.args.home.now (seen_of c.args.wire.now) (seen_of c.open_restore.new.wire) c.args.base
    c.args.line.now left done c.in-Err.fault c.end_by.result c.end_by.ensures c.in-Err.ensures.asked

pub returns-in-Err-clause-counted : goal.returns-in-Err-clause-counted
returns-in-Err-clause-counted g c =
    Counted-err _ _ c.end_by.result (Counted-end _ _ c.in-Err.fault c.end_by.result c.end_by.ensures c.in-Err.ensures.counted)

pub returns-in-Err-open_dump-clause-goes : goal.returns-in-Err-open_dump-clause-goes
returns-in-Err-open_dump-clause-goes g c = λ left done.
    let job = job_of c.args.base c.args.line.now left done in
    joined_by g.P.Port.moves c.args.plan.now g.met.P.Port.joined c.args.home.now c.args.home.now c.open_dump.new.home (seen_of c.args.wire.now)
    (seen_of c.open_restore.new.wire) (seen_of c.open_restore.new.wire) (Bringing c.args.base (c.args.line.now ∷ left) done)
    (Opening job c.in-Ok.restore) (Over c.in-Err-open_dump.end)
    (opened_there g.P.Port.moves g.met.P.Port.none c.args.plan.now c.args.home.now (seen_of c.args.wire.now) (seen_of c.open_restore.new.wire) c.args.base
    c.args.line.now left done c.in-Ok.restore c.in-Ok.ensures.asked)
    (c.in-Err-open_dump.ensures.goes (seen_of c.open_restore.new.wire) job c.in-Ok.restore refl)

pub returns-in-Err-open_dump-clause-counted : goal.returns-in-Err-open_dump-clause-counted
returns-in-Err-open_dump-clause-counted g c =
    Counted-behind _ _ _ _ (still _ _ _ F.Link c.in-Ok.ensures.counted)
    (Counted-err _ _ c.in-Err-open_dump.end (Counted-calm _ _ c.in-Err-open_dump.ensures.unfailed))

pub returns-in-Ok-fill-clause-goes : goal.returns-in-Ok-fill-clause-goes
returns-in-Ok-fill-clause-goes g c = λ left done.
    let job = job_of c.args.base c.args.line.now left done in
    joined_by g.P.Port.moves c.args.plan.now g.met.P.Port.joined c.args.home.now c.open_dump.new.home c.fill.new.home (seen_of c.args.wire.now)
    (seen_of c.open_restore.new.wire) (seen_of c.fill.new.wire) (Bringing c.args.base (c.args.line.now ∷ left) done)
    (Reading (intake_of job c.in-Ok.restore c.in-Ok-open_dump.dump Nothing 0)) (brought job)
    (joined_by g.P.Port.moves c.args.plan.now g.met.P.Port.joined c.args.home.now c.args.home.now c.open_dump.new.home (seen_of c.args.wire.now)
    (seen_of c.open_restore.new.wire) (seen_of c.open_restore.new.wire) (Bringing c.args.base (c.args.line.now ∷ left) done)
    (Opening job c.in-Ok.restore) (Reading (intake_of job c.in-Ok.restore c.in-Ok-open_dump.dump Nothing 0))
    (opened_there g.P.Port.moves g.met.P.Port.none c.args.plan.now c.args.home.now (seen_of c.args.wire.now) (seen_of c.open_restore.new.wire) c.args.base
    c.args.line.now left done c.in-Ok.restore c.in-Ok.ensures.asked)
    (c.in-Ok-open_dump.ensures.goes (seen_of c.open_restore.new.wire) job c.in-Ok.restore refl))
    (c.in-Ok-fill.ensures.goes c.args.plan.now job refl)

pub returns-in-Ok-fill-clause-counted : goal.returns-in-Ok-fill-clause-counted
returns-in-Ok-fill-clause-counted g c = Counted-behind _ _ _ _ (still _ _ _ F.Link c.in-Ok.ensures.counted) c.in-Ok-fill.ensures.counted

pub returns-in-Err-fill-clause-goes : goal.returns-in-Err-fill-clause-goes
returns-in-Err-fill-clause-goes g c = λ left done.
    let job = job_of c.args.base c.args.line.now left done in
    joined_by g.P.Port.moves c.args.plan.now g.met.P.Port.joined c.args.home.now c.fill.new.home c.abort.new.home (seen_of c.args.wire.now)
    (seen_of c.fill.new.wire) (seen_of c.fill.new.wire) (Bringing c.args.base (c.args.line.now ∷ left) done)
    (Aborting c.in-Ok-open_dump.dump c.in-Err-fill.end) (Over c.in-Err-fill.end)
    (joined_by g.P.Port.moves c.args.plan.now g.met.P.Port.joined c.args.home.now c.open_dump.new.home c.fill.new.home (seen_of c.args.wire.now)
    (seen_of c.open_restore.new.wire) (seen_of c.fill.new.wire) (Bringing c.args.base (c.args.line.now ∷ left) done)
    (Reading (intake_of job c.in-Ok.restore c.in-Ok-open_dump.dump Nothing 0)) (Aborting c.in-Ok-open_dump.dump c.in-Err-fill.end)
    (joined_by g.P.Port.moves c.args.plan.now g.met.P.Port.joined c.args.home.now c.args.home.now c.open_dump.new.home (seen_of c.args.wire.now)
    (seen_of c.open_restore.new.wire) (seen_of c.open_restore.new.wire) (Bringing c.args.base (c.args.line.now ∷ left) done)
    (Opening job c.in-Ok.restore) (Reading (intake_of job c.in-Ok.restore c.in-Ok-open_dump.dump Nothing 0))
    (opened_there g.P.Port.moves g.met.P.Port.none c.args.plan.now c.args.home.now (seen_of c.args.wire.now) (seen_of c.open_restore.new.wire) c.args.base
    c.args.line.now left done c.in-Ok.restore c.in-Ok.ensures.asked)
    (c.in-Ok-open_dump.ensures.goes (seen_of c.open_restore.new.wire) job c.in-Ok.restore refl))
    (c.in-Err-fill.ensures.goes c.args.plan.now job refl))
    (c.abort.ensures (seen_of c.fill.new.wire) c.args.plan.now c.in-Err-fill.end)

pub returns-in-Err-fill-clause-counted : goal.returns-in-Err-fill-clause-counted
returns-in-Err-fill-clause-counted g c = Counted-behind _ _ _ _ (still _ _ _ F.Link c.in-Ok.ensures.counted) c.in-Err-fill.ensures.counted
