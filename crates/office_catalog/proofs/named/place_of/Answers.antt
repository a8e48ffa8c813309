use Rattle.std.proofs.Common.{rules, [], sym, ◌∙◌}
use Rattle.std.proofs.lemmas.Fn.{always_returns_same}
use Rattle.std.proofs.lemmas.Option.{none-some}
use Rattle.office_catalog.proofs.named.place_of.Goals as goal

pub unreachable-requires : goal.unreachable-requires
unreachable-requires c =
    let there = c.in-Ok.ensures c.args.name.now (always_returns_same _ _ _ (λ a r f' t. search rules)) in
    none-some _ (sym c.requires.fresh ∙ there.found ([], 0))

pub returns : goal.returns
returns c = c.in-Err.ensures c.args.name.now (always_returns_same _ _ _ (λ a r f' t. search rules))
