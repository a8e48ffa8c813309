use Rattle.std.proofs.Common.{◌∙◌, ◌++◌, reverse, sym, ap}
use Rattle.folder_walk.specs.Bases.{knowns_of}
use Rattle.folder_walk.proofs.CompareSteps.{known_more}
use Rattle.folder_walk.proofs.comparing.push_directories.Goals as goal

pub loop-entry-preserved : goal.loop-entry-preserved
loop-entry-preserved c = λ tree directory is_tree are.
    sym (known_more tree directory c.args.there c.pop.new.self.items c.in-Some.entry c.loop-entry.pending.items c.push_if_directory.new.pending.items
    (c.in-Ok.ensures tree directory is_tree are))
    ∙ ap (λ xs. c.loop-entry.pending.items ++ reverse (knowns_of tree directory c.args.there xs)) (sym c.in-Some.ensures.items)
    ∙ c.loop-entry.invariant tree directory is_tree are
