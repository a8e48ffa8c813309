-- No names: few enough, and none is another.
use Rattle.std.proofs.Common.{[], sym, subst, arith}
use Rattle.backup_index.specs.Names.{AreNames}
use Rattle.backup_index.specs.NameLaws.{differ_none}
use Rattle.backup_index.proofs.names.NameList.new.Goals as goal

none : AreNames []
none = record { few = omega arith; differ = differ_none }

pub invariant_of-result : goal.invariant_of-result
invariant_of-result c = subst AreNames (sym c.new.ensures.items) none
