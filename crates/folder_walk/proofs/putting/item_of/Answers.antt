use Rattle.std.proofs.Common.{sym, subst}
use Rattle.folder_walk.specs.Causes.{IsRowCause}
use Rattle.folder_walk.proofs.putting.item_of.Goals as goal

pub returns-in-Err-read_link-clause-cause : goal.returns-in-Err-read_link-clause-cause
returns-in-Err-read_link-clause-cause g c =
    subst (λ node. IsRowCause (g.F.Folder.tree c.args.folder.now) node c.in-Err-read_link.fault) (sym c.in-Link.is)
    (c.in-Err-read_link.ensures.cause (g.F.Folder.tree c.args.folder.now))
