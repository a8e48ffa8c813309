use Rattle.std.proofs.Common.{sym, subst}
use Rattle.office_model.specs.Office.{Office, AreGivenOut}
use Rattle.tree_office.proofs.Keeping.{stage_open_keeps}
use Rattle.tree_office.proofs.office.MemoryOffice.stage_open.Goals as goal

pub invariant_of-self-2 : goal.invariant_of-self-2
invariant_of-self-2 c =
    let given = subst (λ (o : Office). AreGivenOut c.args.numbers.stage c.args.numbers.reader o.volatile) (sym c.self.view_is) c.requires in
    stage_open_keeps _ c.args.session c.args.numbers.stage _ _ _ c.self.invariant given.stages c.deref.ensures.value c.push_stage.ensures
