-- One line more.
use Rattle.std.proofs.Common.{refl}
use Rattle.wire_bytes.specs.ItemLaws.{items_put_more}
use Rattle.backup_rules.specs.Layout.{line_bytes, IsLine}
use Rattle.backup_index.proofs.ItemWrites.{one_fits}
use Rattle.backup_index.proofs.index_writing.put_lines.Goals as goal

pub loop-line-preserved : goal.loop-line-preserved
loop-line-preserved c = record {
  written = items_put_more line_bytes c.args.lines.now c.loop-line.line-index _ _ _ _ _ c.loop-line-test.true refl c.loop-line.invariant.written c.in_ok-put_line.ensures.ok;
  fits = one_fits IsLine c.args.lines.now c.loop-line.line-index _ _ c.loop-line-test.true refl c.loop-line.invariant.fits c.in_ok-put_line.ensures.fits;
}
