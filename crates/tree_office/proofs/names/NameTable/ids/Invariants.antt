use Rattle.std.proofs.Common.{◌≡◌, [], drop}
use Rattle.tree_office.specs.Names.{ids_named}
use Rattle.tree_office.proofs.names.NameTable.ids.Given as goal

-- what was listed, and what is still to be
abbrev pub invariant-loop-name : goal.invariant-loop-name
invariant-loop-name l = ids_named l.ids.entries (drop l.name-index l.name-items) ≡ ids_named [] l.self.names
