-- A node that was put stands in the tree, and elsewhere what is left of the base.
use Rattle.std.proofs.Common.{◌∙◌}
use Rattle.attr_records.specs.TreeLaws.{lookup-node_at}
use Rattle.dump_session.proofs.Sessions.{from_puts, from_base}
use Rattle.dump_session.proofs.edits.found_at.Goals as goal

pub returns-in-Some : goal.returns-in-Some
returns-in-Some c =
    from_puts c.args.base.now c.args.removed.now.entries c.args.puts.now.entries c.args.path.now c.in-Some.node.now _ c.requires.base_order c.requires.puts_order
    (c.in-Some.ensures.value ∙ lookup-node_at c.args.puts.now.entries c.args.path.now) c.as_record.ensures.value c.as_record.ensures.no_mark

pub returns-in-None : goal.returns-in-None
returns-in-None c =
    from_base c.args.base.now c.args.removed.now.entries c.args.puts.now.entries c.args.path.now _ c.requires.base_order c.requires.puts_order
    (c.in-None.ensures.value ∙ lookup-node_at c.args.puts.now.entries c.args.path.now) c.left_at.ensures
