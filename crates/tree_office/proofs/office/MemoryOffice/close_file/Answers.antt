use Rattle.office_model.specs.laws.ReaderLaws.{IsSound-without_reader}
use Rattle.tree_office.proofs.Keeping.{readers_keep}
use Rattle.tree_office.proofs.office.MemoryOffice.close_file.Goals as goal

pub invariant_of-self-2 : goal.invariant_of-self-2
invariant_of-self-2 c = readers_keep _ _ _ _ c.self.invariant (λ part e. IsSound-without_reader _ c.args.number part c.self.invariant e) c.drop_reader.ensures
