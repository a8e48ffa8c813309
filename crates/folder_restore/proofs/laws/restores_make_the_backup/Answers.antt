use Rattle.folder_restore.specs.ShownLaws.{restored_tree}
use Rattle.folder_restore.proofs.laws.restores_make_the_backup.Goals as goal

pub returns : goal.returns
returns g c = restored_tree g.P.Port.moves
