use Rattle.std.proofs.Common.{sym, subst}
use Rattle.office_model.specs.Office.{Office, AreGivenOut}
use Rattle.tree_office.proofs.Keeping.{opening_keeps}
use Rattle.tree_office.proofs.office.MemoryOffice.open_file.Goals as goal

pub invariant_of-self-2 : goal.invariant_of-self-2
invariant_of-self-2 c =
    let given = subst (λ (o : Office). AreGivenOut c.args.numbers.stage c.args.numbers.reader o.volatile) (sym c.self.view_is) c.requires in
    opening_keeps _ c.args.name.now c.args.number c.args.path.now c.args.numbers.reader _ _ _ c.self.invariant given.readers c.deref.ensures.value c.in_ok-size.ensures.ok
