use Rattle.office_model.specs.laws.StageEventLaws.{IsSound-without_stage}
use Rattle.tree_office.proofs.Keeping.{stages_keep}
use Rattle.tree_office.proofs.office.MemoryOffice.stage_drop.Goals as goal

pub invariant_of-self-2 : goal.invariant_of-self-2
invariant_of-self-2 c = stages_keep _ _ _ _ c.self.invariant (λ part e. IsSound-without_stage _ c.args.number part c.self.invariant e) c.drop_stage.ensures
