use Rattle.folder_walk.proofs.CompareSteps.{gone_more, gone_all, gone_none}
use Rattle.folder_walk.proofs.comparing.push_gone.Goals as goal

pub returns-then-not-there : goal.returns-then-not-there
returns-then-not-there c = λ tree directory is_tree are.
    gone_none tree directory c.args.there c.args.entries.now c.args.gone.now.items c.if-not-there.true

pub loop-entry-preserved : goal.loop-entry-preserved
loop-entry-preserved c = λ tree directory is_tree are.
    gone_more tree directory c.args.entries.now c.loop-entry.entry-index c.entry-item.result c.args.gone.now.items c.loop-entry.gone.items
    c.push_if_gone.new.gone.items c.loop-entry-test.true c.entry-item.is (c.loop-entry.invariant tree directory is_tree are)
    (c.in-Ok.ensures tree directory is_tree are)

pub returns : goal.returns
returns c = λ tree directory is_tree are.
    gone_all tree directory c.args.there c.args.entries.now c.loop-entry.entry-index c.args.gone.now.items c.loop-entry.gone.items c.if-not-there.false
    c.loop-entry-test.false (c.loop-entry.invariant tree directory is_tree (are c.if-not-there.false))
