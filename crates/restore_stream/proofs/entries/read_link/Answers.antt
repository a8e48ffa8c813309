use Rattle.restore_stream.specs.Streams.{link_layout}
use Rattle.restore_stream.proofs.ReadingLaws.{reads_again}
use Rattle.restore_stream.proofs.EntryLaws.{link_attr_refuses, target_refuses, link_came}
use Rattle.restore_stream.proofs.entries.read_link.Goals as goal

pub returns-in_err-attr-clause-read : goal.returns-in_err-attr-clause-read
returns-in_err-attr-clause-read g c =
    reads_again link_layout c.args.start _ _ (λ node. node) _ _ c.from_residual.ensures.1 (link_attr_refuses _ _ c.in_err-attr.ensures.read)

pub returns-in_err-target-clause-read : goal.returns-in_err-target-clause-read
returns-in_err-target-clause-read g c =
    reads_again link_layout c.args.start _ _ (λ node. node) _ _ c.from_residual-in_err-target.ensures.1
    (target_refuses _ _ c.in_ok-attr.ensures.read c.in_err-target.ensures.read)

pub returns-clause-read : goal.returns-clause-read
returns-clause-read g c = link_came c.in_ok-attr.ensures.read c.in_ok-target.ensures.read
