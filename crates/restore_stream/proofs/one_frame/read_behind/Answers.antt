use Rattle.std.proofs.Common.{subst, sym}
use Rattle.tree_frames.specs.declared.nodes.Frame.{Frame}
use Rattle.restore_stream.specs.Cuts.{Layout}
use Rattle.restore_stream.specs.Reading.{Reads}
use Rattle.restore_stream.proofs.EntryLaws.{eqb_no}
use Rattle.restore_stream.proofs.OneFrameLaws.{behind_deleted, behind_entry, behind_piece, behind_end}
use Rattle.restore_stream.proofs.one_frame.read_behind.Goals as goal

pub returns-then-tag-eq88-clause-read : goal.returns-then-tag-eq88-clause-read
returns-then-tag-eq88-clause-read g c =
    subst (λ (layout : Layout Frame). Reads layout 0 (λ frame. frame) (g.S.Faults.left c.args.source.now) c.read_deleted.result
    (g.S.Faults.left c.read_deleted.new.source))
    (sym (behind_deleted c.args.tag c.if-tag-eq88.true)) c.read_deleted.ensures.read

pub returns-then-tag-eq69-clause-read : goal.returns-then-tag-eq69-clause-read
returns-then-tag-eq69-clause-read g c =
    subst (λ (layout : Layout Frame). Reads layout 0 (λ frame. frame) (g.S.Faults.left c.args.source.now) c.read_entry.result
    (g.S.Faults.left c.read_entry.new.source))
    (sym (behind_entry c.args.tag c.if-tag-eq69.true)) c.read_entry.ensures.read

pub returns-then-tag-eq68-clause-read : goal.returns-then-tag-eq68-clause-read
returns-then-tag-eq68-clause-read g c =
    subst (λ (layout : Layout Frame). Reads layout 0 (λ frame. frame) (g.S.Faults.left c.args.source.now) c.read_piece.result
    (g.S.Faults.left c.read_piece.new.source))
    (sym (behind_piece c.args.tag c.if-tag-eq68.true)) c.read_piece.ensures.read

pub returns-clause-read : goal.returns-clause-read
returns-clause-read g c =
    subst (λ (layout : Layout Frame). Reads layout 0 (λ frame. frame) (g.S.Faults.left c.args.source.now) c.read_end.result
    (g.S.Faults.left c.read_end.new.source))
    (sym (behind_end c.args.tag (eqb_no _ _ c.if-tag-eq88.false) (eqb_no _ _ c.if-tag-eq69.false) (eqb_no _ _ c.if-tag-eq68.false)))
    c.read_end.ensures.read
