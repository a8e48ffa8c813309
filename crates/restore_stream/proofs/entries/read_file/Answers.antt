use Rattle.restore_stream.specs.Streams.{file_layout}
use Rattle.restore_stream.proofs.ReadingLaws.{reads_again}
use Rattle.restore_stream.proofs.EntryLaws.{file_attr_refuses, group_refuses, size_refuses, file_came}
use Rattle.restore_stream.proofs.entries.read_file.Goals as goal

pub returns-in_err-attr-clause-read : goal.returns-in_err-attr-clause-read
returns-in_err-attr-clause-read g c =
    reads_again file_layout c.args.start _ _ (λ node. node) _ _ c.from_residual.ensures.1 (file_attr_refuses _ _ c.in_err-attr.ensures.read)

pub returns-in_err-group-clause-read : goal.returns-in_err-group-clause-read
returns-in_err-group-clause-read g c =
    reads_again file_layout c.args.start _ _ (λ node. node) _ _ c.from_residual-in_err-group.ensures.1
    (group_refuses _ _ c.in_ok-attr.ensures.read c.in_err-group.ensures.read)

pub returns-in_err-size-clause-read : goal.returns-in_err-size-clause-read
returns-in_err-size-clause-read g c =
    reads_again file_layout c.args.start _ _ (λ node. node) _ _ c.from_residual-in_err-size.ensures.1
    (size_refuses _ _ c.in_ok-attr.ensures.read c.in_ok-group.ensures.read c.in_err-size.ensures.read)

pub returns-clause-read : goal.returns-clause-read
returns-clause-read g c = file_came c.in_ok-attr.ensures.read c.in_ok-group.ensures.read c.in_ok-size.ensures.read
