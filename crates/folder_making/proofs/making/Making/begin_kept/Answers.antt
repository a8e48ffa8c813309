use Rattle.std.proofs.Common.{refl}
use Rattle.folder_making.proofs.MakeSteps.{kept_begun}
use Rattle.folder_making.proofs.making.Making.begin_kept.Goals as goal

pub returns : goal.returns
returns c = λ rows more told h.
    kept_begun rows more told c.args.self.now _ c.args.path c.args.node _ _ refl refl refl refl (cc) refl refl h
