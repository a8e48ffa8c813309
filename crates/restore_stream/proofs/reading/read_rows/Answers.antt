-- One more path, or the end.
use Rattle.std.proofs.Common.{rules, ◌∙◌}
use Rattle.restore_stream.specs.Streams.{rows_layout}
use Rattle.restore_stream.proofs.ReadingLaws.{reads_again}
use Rattle.restore_stream.proofs.RowReading.{one_row_read, rows_stop, rows_read, the_row, the_offset, no_next}
use Rattle.restore_stream.proofs.reading.read_rows.Goals as goal

pub returns-in_err-made-clause-read : goal.returns-in_err-made-clause-read
returns-in_err-made-clause-read g c =
    reads_again rows_layout c.args.start _ _ (λ tree. tree) _ _ c.from_residual.ensures.1
    (rows_stop c.loop-tree.invariant.read c.in_err-made.ensures.read)

pub loop-tree-preserved : goal.loop-tree-preserved
loop-tree-preserved g c = record {
  read = one_row_read c.in-Some.behind _ c.in-Some.made c.loop-tree.invariant.read
      (the_row c.in_ok-made.field-0 c.in-Some.made c.in-Some.behind c.in-Some.is _ c.in_ok-made.ensures.read) (search rules)
      (the_offset c.in_ok-made.field-0 c.in-Some.made c.in-Some.behind c.in-Some.is _ _ c.in_ok-made.ensures.behind);
  written = c.read_next.ensures.written ∙ c.loop-tree.invariant.written;
  sent = c.read_next.ensures.sent ∙ c.loop-tree.invariant.sent;
  same = search rules;
}

pub returns-clause-read : goal.returns-clause-read
returns-clause-read g c = rows_read c.loop-tree.invariant.read (no_next c.in_ok-made.field-0 _ c.in_default.is c.in_ok-made.ensures.read)
