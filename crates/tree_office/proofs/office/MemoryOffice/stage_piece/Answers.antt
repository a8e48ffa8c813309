use Rattle.office_model.specs.laws.StageEventLaws.{IsSound-with_piece}
use Rattle.tree_office.proofs.Keeping.{stages_keep}
use Rattle.tree_office.proofs.office.MemoryOffice.stage_piece.Goals as goal

pub invariant_of-self-2 : goal.invariant_of-self-2
invariant_of-self-2 c = stages_keep _ _ _ _ c.self.invariant (λ part e. IsSound-with_piece _ c.args.number c.args.bytes.now part c.self.invariant e) c.add_piece.ensures
