use Rattle.store_opening.proofs.Proposing.{same_names}
use Rattle.store_opening.proofs.next.accept.Goals as goal

pub returns-clause-names : goal.returns-clause-names
returns-clause-names g c = same_names c.args.next.index _ _ c.requires.index c.accept-2.ensures.after
