use Rattle.office_model.specs.events.Put.{stage_of}
use Rattle.tree_office.proofs.Turning.{again_sound}
use Rattle.tree_office.proofs.office.MemoryOffice.put_again.Goals as goal

pub invariant_of-self : goal.invariant_of-self
invariant_of-self c = again_sound _ (stage_of c.self.inside.stages.items c.args.session c.in-Staged.file.stage) _ c.self.invariant c.drop_stage_of.ensures
