use Rattle.restore_stream.specs.Streams.{dir_layout}
use Rattle.restore_stream.proofs.ReadingLaws.{reads_again}
use Rattle.restore_stream.proofs.EntryLaws.{dir_refuses, dir_came}
use Rattle.restore_stream.proofs.entries.read_dir.Goals as goal

pub returns-in_err-attr-clause-read : goal.returns-in_err-attr-clause-read
returns-in_err-attr-clause-read g c =
    reads_again dir_layout c.args.start _ _ (λ node. node) _ _ c.from_residual.ensures.1 (dir_refuses _ _ c.in_err-attr.ensures.read)

pub returns-clause-read : goal.returns-clause-read
returns-clause-read g c = dir_came c.in_ok-attr.ensures.read
