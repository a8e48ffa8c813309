-- What the values that are left are stands behind the lines so far.
use Rattle.std.proofs.Common.{◌≡◌, ◌++◌, List, drop}
use Rattle.std.specs.Prelude.{option_map}
use Rattle.backup_rules.specs.declared.lines.Line.{Line}
use Rattle.serde_json.specs.View.{items_view}
use Rattle.listing_back.specs.Listings.{lines_in}
use Rattle.listing_back.proofs.lines.lines_in.Given as goal

abbrev pub invariant-loop-value : goal.invariant-loop-value
invariant-loop-value l =
    lines_in (items_view l.values)
    ≡ option_map (λ (others : List Line). l.lines ++ others) (lines_in (items_view (drop l.value-index l.values)))
