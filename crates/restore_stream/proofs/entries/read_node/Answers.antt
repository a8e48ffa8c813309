use Rattle.std.proofs.Common.{subst, sym}
use Rattle.tree_frames.specs.declared.nodes.Node.{Node}
use Rattle.restore_stream.specs.Cuts.{Layout}
use Rattle.restore_stream.specs.Reading.{Reads}
use Rattle.restore_stream.proofs.EntryLaws.{node_is_file, node_is_dir, node_is_link, eqb_no}
use Rattle.restore_stream.proofs.entries.read_node.Goals as goal

pub returns-then-kind-eq1-clause-read : goal.returns-then-kind-eq1-clause-read
returns-then-kind-eq1-clause-read g c =
    subst (λ (layout : Layout Node). Reads layout c.args.start (λ node. node) (g.S.Faults.left c.args.source.now) c.read_file.result
    (g.S.Faults.left c.read_file.new.source))
    (sym (node_is_file c.args.kind c.if-kind-eq1.true)) c.read_file.ensures.read

pub returns-then-kind-eq2-clause-read : goal.returns-then-kind-eq2-clause-read
returns-then-kind-eq2-clause-read g c =
    subst (λ (layout : Layout Node). Reads layout c.args.start (λ node. node) (g.S.Faults.left c.args.source.now) c.read_dir.result
    (g.S.Faults.left c.read_dir.new.source))
    (sym (node_is_dir c.args.kind c.if-kind-eq2.true)) c.read_dir.ensures.read

pub returns-clause-read : goal.returns-clause-read
returns-clause-read g c =
    subst (λ (layout : Layout Node). Reads layout c.args.start (λ node. node) (g.S.Faults.left c.args.source.now) c.read_link.result
    (g.S.Faults.left c.read_link.new.source))
    (sym (node_is_link c.args.kind (eqb_no _ _ c.if-kind-eq1.false) (eqb_no _ _ c.if-kind-eq2.false))) c.read_link.ensures.read
