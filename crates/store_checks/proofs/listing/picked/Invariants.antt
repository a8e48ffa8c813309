use Rattle.std.proofs.Common.{◌≡◌, ◌++◌, drop}
use Rattle.store_checks.specs.Listing.{items_of_part}
use Rattle.store_checks.proofs.listing.picked.Given as goal

-- what was picked, and what is still to be
abbrev pub invariant-loop-item : goal.invariant-loop-item
invariant-loop-item l =
    l.list ++ items_of_part l.part (drop l.item-index l.items) ≡ items_of_part l.part l.items
