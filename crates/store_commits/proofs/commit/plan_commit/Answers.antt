-- What was judged, gathered and built is the plan.
use Rattle.std.proofs.Common.{refl}
use Rattle.std.proofs.lemmas.Option.{slice_get_read}
use Rattle.store_commits.specs.Judged.{IsFree}
use Rattle.store_commits.specs.PlanLaws.{planned_of, gather_refused, gather_heeds, built_heeds, broken_heeds}
use Rattle.store_commits.proofs.commit.plan_commit.Goals as goal

pub returns-in-Err-clause-tables : goal.returns-in-Err-clause-tables
returns-in-Err-clause-tables g c =
    broken_heeds (λ next. IsFree next c.args.line.number) c.args.parts.now c.args.at c.index-dump.result.now
    (slice_get_read _ _ _ _ refl c.requires.within c.index-dump.ensures) (λ index here free. c.in-Err.ensures.broken index here)

pub returns-in-Err-gather-clause-refused : goal.returns-in-Err-gather-clause-refused
returns-in-Err-gather-clause-refused g c =
    gather_refused c.args.parts.now c.gather.new.journal c.args.at c.args.line c.index-dump.result.now
    (slice_get_read _ _ _ _ refl c.requires.within c.index-dump.ensures) c.in-Ok.lines c.in-Ok-tree.rows c.in-Ok.ensures.judged c.in-Ok-tree.ensures
    c.of_host-head.result c.of_host-head.ensures
    c.in-Err-gather.refusal c.in-Err-gather.ensures.kind

pub returns-in-Err-gather-clause-tables : goal.returns-in-Err-gather-clause-tables
returns-in-Err-gather-clause-tables g c =
    gather_heeds c.args.parts.now c.gather.new.journal c.args.at c.args.line c.index-dump.result.now
    (slice_get_read _ _ _ _ refl c.requires.within c.index-dump.ensures) c.in-Ok.lines c.in-Ok-tree.rows c.in-Ok.ensures.judged c.in-Ok-tree.ensures
    c.of_host-head.result c.of_host-head.ensures
    c.in-Err-gather.refusal c.in-Err-gather.ensures.called

pub returns-in-Ok-build-clause-planned : goal.returns-in-Ok-build-clause-planned
returns-in-Ok-build-clause-planned g c =
    planned_of c.args.parts.now c.gather.new.journal c.args.at c.args.line c.index-dump.result.now
    (slice_get_read _ _ _ _ refl c.requires.within c.index-dump.ensures) c.in-Ok.lines c.in-Ok-tree.rows c.in-Ok.ensures.judged c.in-Ok-tree.ensures
    c.of_host-head.result c.of_host-head.ensures
    c.in-Ok-gather.gathered.read.folding c.in-Ok-gather.gathered.read.parked c.in-Ok-gather.gathered.counts c.in-Ok-build.plan
    c.in-Ok-gather.ensures.folded c.in-Ok-gather.ensures.parked c.in-Ok-gather.ensures.counts c.in-Ok-gather.ensures.within c.in-Ok-build.ensures

pub returns-in-Ok-build-clause-tables : goal.returns-in-Ok-build-clause-tables
returns-in-Ok-build-clause-tables g c =
    built_heeds c.args.parts.now c.gather.new.journal c.args.at c.args.line c.index-dump.result.now
    (slice_get_read _ _ _ _ refl c.requires.within c.index-dump.ensures) c.in-Ok.lines c.in-Ok-tree.rows c.in-Ok.ensures.judged c.in-Ok-tree.ensures
    c.of_host-head.result c.of_host-head.ensures
    c.in-Ok-gather.ensures.called
