use Rattle.std.proofs.Common.{◌≡◌, drop}
use Rattle.office_catalog.specs.Known.{receipt_named}
use Rattle.office_catalog.proofs.catalog.Catalog.receipt_named.Given as goal

abbrev pub invariant-loop-index : goal.invariant-loop-index
invariant-loop-index l = receipt_named l.index-items l.name ≡ receipt_named (drop l.index-index l.index-items) l.name
