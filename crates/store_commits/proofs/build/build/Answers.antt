-- The plan is built of its parts.
use Rattle.std.proofs.Common.{◌∙◌}
use Rattle.store_commits.specs.BuildLaws.{built_of}
use Rattle.store_commits.proofs.build.build.Goals as goal

pub returns : goal.returns
returns g c =
    built_of c.args.parts.now c.args.host c.args.lines c.args.gathered.read.parked c.args.gathered.read.folding c.args.gathered.counts c.args.rows
    c.is_none.result c.in_ok-catalog.catalog c.in_ok-index.index c.take_changes-pooled.new.self c.take_changes-pooled.result c.changes.result.now
    c.in_ok-changes.changes c.in_ok-files.files
    c.is_none.ensures c.in_ok-catalog.ensures.proposes c.in_ok-catalog.ensures.fits c.in_ok-index.ensures.added c.in_ok-index.ensures.leads
    (record {
      changes = c.take_changes-pooled.ensures.changes;
      added = c.take_changes-pooled.ensures.added;
      marked = c.take_changes-pooled.ensures.marked;
      unmarked = c.take_changes-pooled.ensures.unmarked;
      removed = c.take_changes-pooled.ensures.removed;
    })
    c.changes.ensures
    c.in_ok-files.ensures.table c.in_ok-files.ensures.former (c.in_ok-files.ensures.parked ∙ c.is_some.ensures) c.in_ok-files.ensures.counts c.in_ok-changes.ensures
