use Rattle.attr_records.specs.Items.{is_large}
use Rattle.tree_office.proofs.Keeping.{dumps_keep}
use Rattle.office_model.specs.laws.PutLaws.{IsSound-with_put}
use Rattle.tree_office.proofs.office.MemoryOffice.put_whole.Goals as goal

pub invariant_of-self-2 : goal.invariant_of-self-2
invariant_of-self-2 c = dumps_keep _ _ _ _ c.self.invariant (λ part e. IsSound-with_put is_large _ c.args.session c.args.path.now c.args.item.now c.args.full part c.self.invariant e) c.put_item.ensures
