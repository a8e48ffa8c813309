-- What the values that are left are stands behind the entries so far.
use Rattle.std.proofs.Common.{◌≡◌, ◌++◌, List, drop}
use Rattle.std.specs.Prelude.{option_map}
use Rattle.office_model.specs.declared.answer.NamedNode.{NamedNode}
use Rattle.serde_json.specs.View.{items_view}
use Rattle.entries_back.specs.Entries.{entries_in}
use Rattle.entries_back.proofs.entries.entries_in.Given as goal

abbrev pub invariant-loop-value : goal.invariant-loop-value
invariant-loop-value l =
    entries_in (items_view l.values)
    ≡ option_map (λ (others : List NamedNode). l.entries ++ others) (entries_in (items_view (drop l.value-index l.values)))
