use Rattle.std.proofs.Common.{rules}
use Rattle.std.proofs.lemmas.Fn.{always_returns_same}
use Rattle.office_catalog.proofs.named.find.Goals as goal

pub returns : goal.returns
returns c = c.find.ensures c.args.name.now (always_returns_same _ _ _ (λ a r f' t. search rules))
