-- The names so far, and those of the items that are left.
use Rattle.std.proofs.Common.{◌≡◌, ◌++◌, drop}
use Rattle.nightly_clean.specs.Cleanings.{is_protected, wanted_ids}
use Rattle.nightly_clean.proofs.cleaning.wanted_ids.Given as goal

abbrev pub invariant-loop-item : goal.invariant-loop-item
invariant-loop-item l =
    l.ids.items ++ wanted_ids l.fate (is_protected l.counts) (drop l.item-index l.items) ≡ wanted_ids l.fate (is_protected l.counts) l.items
