use Rattle.std.proofs.Common.{sym, ◌∙◌}
use Rattle.pull_work.specs.Script.{Asking, Adding}
use Rattle.pull_work.specs.Parts.{own_phase}
use Rattle.pull_work.proofs.GoesLaws.{joined_by}
use Rattle.pull_work.proofs.PartLaws.{own_listed, own_lacking, own_refused, own_missing}
use Rattle.pull_work.proofs.asking.own_backups.Goals as goal

pub returns-in-Ok-clause-goes : goal.returns-in-Ok-clause-goes
returns-in-Ok-clause-goes g c = λ seen.
    own_listed g.P.Port.moves g.met.P.Port.none c.args.plan.now c.args.home.now c.list_own.new.home seen c.in-Ok.own c.in-Ok.ensures.ok

pub returns-in-Err-Memory-clause-goes : goal.returns-in-Err-Memory-clause-goes
returns-in-Err-Memory-clause-goes g c = λ seen.
    own_lacking g.P.Port.moves g.met.P.Port.none c.args.plan.now c.args.home.now c.list_own.new.home seen c.in-Err-Memory.field-0 c.in-Err-Memory.field-0-is
    c.in-Err-Memory.ensures.err

pub returns-then-is_no_host-clause-goes : goal.returns-then-is_no_host-clause-goes
returns-then-is_no_host-clause-goes g c = λ seen.
    joined_by g.P.Port.moves c.args.plan.now g.met.P.Port.joined c.args.home.now c.list_own.new.home c.added_backups.new.home seen seen seen Asking Adding
    (own_phase c.added_backups.result)
    (own_missing g.P.Port.moves g.met.P.Port.none c.args.plan.now c.args.home.now c.list_own.new.home seen c.in-Err-Refused.field-0 c.in-Err-Refused.refusal
    c.in-Err-Refused.field-0-is (sym c.is_no_host.ensures ∙ c.if-is_no_host.true) c.in-Err-Refused.ensures.err)
    (c.added_backups.ensures.goes seen)

pub returns-else-is_no_host-clause-goes : goal.returns-else-is_no_host-clause-goes
returns-else-is_no_host-clause-goes g c = λ seen.
    own_refused g.P.Port.moves g.met.P.Port.none c.args.plan.now c.args.home.now c.list_own.new.home seen c.in-Err-Refused.field-0 c.in-Err-Refused.refusal
    c.in-Err-Refused.field-0-is (sym c.is_no_host.ensures ∙ c.if-is_no_host.false) c.in-Err-Refused.ensures.err
