use Rattle.office_model.specs.Office.{piece_limit}
use Rattle.tree_office.proofs.Keeping.{part_keeps_readers}
use Rattle.tree_office.proofs.office.MemoryOffice.read_part.Goals as goal

pub read_part-requires : goal.read_part-requires
read_part-requires c = c.self.invariant.now.readers

pub invariant_of-self-2 : goal.invariant_of-self-2
invariant_of-self-2 c = part_keeps_readers _ piece_limit c.args.number _ _ c.self.invariant c.read_part.ensures.ok c.read_part.ensures.same
