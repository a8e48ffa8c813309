-- The magic, and the paths up to the end.
use Rattle.restore_stream.specs.Streams.{stream_layout}
use Rattle.restore_stream.proofs.ReadingLaws.{reads_again}
use Rattle.restore_stream.proofs.RowReading.{magic_refuses, rows_refuse, stream_read}
use Rattle.restore_stream.proofs.reading.read_parts.Goals as goal

pub returns-in_err-read_magic-clause-read : goal.returns-in_err-read_magic-clause-read
returns-in_err-read_magic-clause-read g c =
    reads_again stream_layout 0 _ _ (λ tree. tree) _ _ c.from_residual.ensures.1 (magic_refuses c.in_err-read_magic.ensures.read)

pub returns-in_err-tree-clause-read : goal.returns-in_err-tree-clause-read
returns-in_err-tree-clause-read g c =
    reads_again stream_layout 0 _ _ (λ tree. tree) _ _ c.from_residual-in_err-tree.ensures.1
    (rows_refuse c.in_ok-read_magic.ensures.read c.in_err-tree.ensures.read)

pub returns-clause-read : goal.returns-clause-read
returns-clause-read g c = stream_read c.in_ok-read_magic.ensures.read c.in_ok-tree.ensures.read
