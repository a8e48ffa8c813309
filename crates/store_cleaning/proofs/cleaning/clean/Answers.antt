use Rattle.std.proofs.Common.{refl}
use Rattle.store_parts.specs.RefusedLaws.{runs_no_memory}
use Rattle.store_cleaning.proofs.Cleans.{beyond, below, all_none, not_none, none_counted, cleaned_by, written_by, cleans_bad, cleans_nothing, cleans_refused, cleans}
use Rattle.store_parts.specs.UndamagedLaws.{undamaged_memory, undamaged_write}
use Rattle.store_cleaning.proofs.cleaning.clean.Goals as goal

pub returns-then-bucket-ge-BUCKETS-clause-runs : goal.returns-then-bucket-ge-BUCKETS-clause-runs
returns-then-bucket-ge-BUCKETS-clause-runs g c = cleans_bad c.args.parts.now c.args.bucket (beyond c.args.bucket c.if-bucket-ge-BUCKETS.true)

pub returns-in_err-cleaning-clause-runs : goal.returns-in_err-cleaning-clause-runs
returns-in_err-cleaning-clause-runs g c = runs_no_memory _ _ _ c.from_residual.ensures.1

pub returns-then-changes_nothing-clause-runs : goal.returns-then-changes_nothing-clause-runs
returns-then-changes_nothing-clause-runs g c =
    cleans_nothing c.args.parts.now c.args.bucket (below c.args.bucket c.if-bucket-ge-BUCKETS.false) c.in_ok-cleaning.cleaning
    (cleaned_by c.args.parts.now c.args.bucket _ c.in_ok-cleaning.cleaning c.as_slice.ensures c.in_ok-cleaning.ensures.cleaned)
    (all_none _ _ _ c.if-changes_nothing.ensures)

pub returns-in-Err-clause-runs : goal.returns-in-Err-clause-runs
returns-in-Err-clause-runs g c =
    cleans_refused c.args.parts.now c.args.bucket (below c.args.bucket c.if-bucket-ge-BUCKETS.false) c.in_ok-cleaning.cleaning
    (cleaned_by c.args.parts.now c.args.bucket _ c.in_ok-cleaning.cleaning c.as_slice.ensures c.in_ok-cleaning.ensures.cleaned)
    (not_none _ _ _ c.if-changes_nothing.ensures) c.in_ok-cleaning.ensures.leads c.write.new.self c.in-Err.refusal
    (written_by c.args.parts.now c.write.new.self _ _ _ c.changes.ensures c.in-Err.ensures)

pub returns-clause-runs : goal.returns-clause-runs
returns-clause-runs g c =
    cleans c.args.parts.now c.args.bucket (below c.args.bucket c.if-bucket-ge-BUCKETS.false) c.in_ok-cleaning.cleaning
    (cleaned_by c.args.parts.now c.args.bucket _ c.in_ok-cleaning.cleaning c.as_slice.ensures c.in_ok-cleaning.ensures.cleaned)
    (not_none _ _ _ c.if-changes_nothing.ensures) c.in_ok-cleaning.ensures.leads c.write.new.self _ c.in-Ok.field-0
    (written_by c.args.parts.now c.write.new.self _ _ _ c.changes.ensures c.in-Ok.ensures)
    c.accept.ensures.after c.accept.ensures.in_buckets refl refl refl refl refl refl refl

pub returns-in_err-cleaning-clause-undamaged : goal.returns-in_err-cleaning-clause-undamaged
returns-in_err-cleaning-clause-undamaged g c = undamaged_memory c.from_residual.result c.from_residual.ensures.1

pub returns-in-Err-clause-undamaged : goal.returns-in-Err-clause-undamaged
returns-in-Err-clause-undamaged g c = undamaged_write c.in-Err.refusal c.in-Err.ensures.kind

pub returns-clause-still : goal.returns-clause-still
returns-clause-still g c = λ is.
    absurd (not_none _ _ _ c.if-changes_nothing.ensures
    (none_counted c.in_ok-cleaning.cleaning.marked c.in_ok-cleaning.cleaning.unmarked c.in_ok-cleaning.cleaning.removed _ refl is))
