use Rattle.std.proofs.Common.{sym, ap, ◌∙◌}
use Rattle.std.specs.Option.{option_map}
use Rattle.stored_trees.specs.Resolved.{resolved_item}
use Rattle.stored_trees.specs.ResolvedLaws.{node_at-resolved}
use Rattle.stored_trees.proofs.nodes.find.Goals as goal

pub returns-clause-node : goal.returns-clause-node
returns-clause-node c = λ contents.
    ap (option_map (resolved_item contents)) c.find.ensures ∙ sym (node_at-resolved contents c.args.table.now c.args.path.now)
