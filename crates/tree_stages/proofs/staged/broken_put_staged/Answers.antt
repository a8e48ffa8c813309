use Rattle.tree_stages.proofs.PutLaws.{staged_rule}
use Rattle.tree_stages.proofs.staged.broken_put_staged.Goals as goal

pub returns : goal.returns
returns c = rw (← c.tree.ensures) (staged_rule c.tree.result.now.entries c.args.path.now c.args.file.now c.in_ok-rule.rule _ c.in_ok-rule.ensures (rw (← c.len.ensures) c.or_over.ensures))
