-- A search by a closure that compares ids; an item is its own entry.
use Rattle.std.proofs.Common.{rules, ap, ◌∙◌, Option}
use Rattle.std.specs.Prelude.{ℕ}
use Rattle.std.specs.Option.{unwrap_or}
use Rattle.std.specs.FinMap.Entries.{find}
use Rattle.std.proofs.lemmas.Fn.{always_returns_same}
use Rattle.std.proofs.lemmas.List.{map-id}
use Rattle.pool_index.specs.Items.{id_cmp}
use Rattle.ref_counts.proofs.counts.number.Goals as goal

pub returns-in-Some : goal.returns-in-Some
returns-in-Some c =
    c.number.ensures
    ∙ ap (λ (o : Option ℕ). unwrap_or o 0) (c.in-Some.ensures c.args.id (always_returns_same _ _ _ (λ a r f' t. search rules))
    ∙ ap (find id_cmp c.args.id) (map-id _) ∙ ap (find id_cmp c.args.id) c.items.ensures.items)

pub returns-in-None : goal.returns-in-None
returns-in-None c =
    ap (λ (o : Option ℕ). unwrap_or o 0) (c.in-None.ensures c.args.id (always_returns_same _ _ _ (λ a r f' t. search rules))
    ∙ ap (find id_cmp c.args.id) (map-id _) ∙ ap (find id_cmp c.args.id) c.items.ensures.items)
