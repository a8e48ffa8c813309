use Rattle.std.proofs.Common.{subst}
use Rattle.folder_trait.specs.Folders.{IsPieceRead}
use Rattle.folder_walk.proofs.PutLaws.{same_file, file_there}
use Rattle.folder_walk.proofs.putting.read_file.Goals as goal

pub returns-in-Some-clause-item : goal.returns-in-Some-clause-item
returns-in-Some-clause-item g c =
    λ tree told there at is. same_file tree c.args.path.now there c.args.file c.in-Some.bytes at is
    (subst (λ found. IsPieceRead tree c.args.path.now 0 c.args.file.size found) c.in-Some.is (c.in-Ok.ensures.found tree told))

pub returns-in-None-clause-item : goal.returns-in-None-clause-item
returns-in-None-clause-item g c =
    λ tree told there at is. file_there tree c.args.path.now there c.args.file at is
    (subst (λ found. IsPieceRead tree c.args.path.now 0 c.args.file.size found) c.in-None.is (c.in-Ok.ensures.found tree told))
