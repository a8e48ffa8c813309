-- std's search by halving, over entries in order.
use Rattle.ordered_lists.proofs.SearchSteps.{searched}
use Rattle.ordered_lists.proofs.searches.search.Goals as goal

pub returns : goal.returns
returns g c = λ key by.
    searched g.E.Entry.order g.met.E.Entry.total g.E.Entry.entry key c.args.entries.now c.binary_search_by.result c.requires.in_order c.binary_search_by.ensures.bound
    (c.binary_search_by.ensures.position (λ e. g.E.Entry.order (g.E.Entry.entry e).0 key) by)
