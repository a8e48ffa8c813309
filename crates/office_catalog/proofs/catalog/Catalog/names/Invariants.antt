use Rattle.std.proofs.Common.{◌≡◌, take}
use Rattle.office_catalog.specs.Known.{names_of}
use Rattle.office_catalog.proofs.catalog.Catalog.names.Given as goal

abbrev pub invariant-loop-index : goal.invariant-loop-index
invariant-loop-index l = l.names ≡ names_of (take l.index-index l.index-items)
