use Rattle.std.proofs.Common.{◌∙◌}
use Rattle.attr_records.specs.TreeLaws.{insert_entry-with_node}
use Rattle.dump_session.proofs.edits.put_node.Goals as goal

pub returns-clause-ok : goal.returns-clause-ok
returns-clause-ok c = c.in_ok-insert.ensures.entries ∙ insert_entry-with_node c.args.puts.now.entries c.args.path c.args.node
