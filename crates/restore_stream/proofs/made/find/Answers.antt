-- A search by a closure that compares paths; a row is its own entry.
use Rattle.std.proofs.Common.{rules, ap, ◌∙◌, Some}
use Rattle.std.specs.FinMap.Entries.{find}
use Rattle.std.proofs.lemmas.Fn.{always_returns_same}
use Rattle.std.proofs.lemmas.List.{map-id}
use Rattle.attr_records.specs.Paths.{path_cmp}
use Rattle.restore_stream.proofs.made.find.Goals as goal

pub returns-in-Some : goal.returns-in-Some
returns-in-Some c =
    ap Some c.item.ensures
    ∙ c.in-Some.ensures c.args.path.now (always_returns_same _ _ _ (λ a r f' t. search rules))
    ∙ ap (find path_cmp c.args.path.now) (map-id c.args.rows.now)

pub returns-in-None : goal.returns-in-None
returns-in-None c =
    c.in-None.ensures c.args.path.now (always_returns_same _ _ _ (λ a r f' t. search rules))
    ∙ ap (find path_cmp c.args.path.now) (map-id c.args.rows.now)
