-- One more change behind those that were written.
use Rattle.intent_journal.proofs.LayoutLaws.{written_more, fits_more}
use Rattle.intent_journal.proofs.intent.put_changes.Goals as goal

pub loop-change-preserved : goal.loop-change-preserved
loop-change-preserved c = record {
  written = written_more c.args.changes.now c.loop-change.change-index c.change-item.result _ _ _ c.loop-change-test.true c.change-item.is
      c.loop-change.invariant.written c.in_ok-put_change.ensures.ok;
  fits = fits_more c.args.changes.now c.loop-change.change-index c.change-item.result c.loop-change-test.true c.change-item.is
      c.loop-change.invariant.fits c.in_ok-put_change.ensures.fits;
}
