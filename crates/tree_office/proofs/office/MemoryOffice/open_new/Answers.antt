use Rattle.std.proofs.Common.{sym, subst}
use Rattle.office_model.specs.Office.{Office}
use Rattle.office_model.specs.laws.OpenDumpLaws.{IsFresh, IsSound-with_dump}
use Rattle.tree_office.proofs.office.MemoryOffice.open_new.Goals as goal

pub invariant_of-self-2 : goal.invariant_of-self-2
invariant_of-self-2 c = IsSound-with_dump _ c.args.name.now c.args.kind c.args.now c.args.token _ _ c.self.invariant c.deref.ensures.value (subst (λ (o : Office). IsFresh o.hosts c.args.name.now c.args.token) (sym c.self.view_is) c.requires) c.in_ok-push_dump.ensures
