use Rattle.std.proofs.Common.{refl}
use Rattle.folder_making.proofs.MakeSteps.{holds_first}
use Rattle.folder_making.proofs.making.Making.new.Goals as goal

pub returns : goal.returns
returns c = λ tree told is_tree empty. holds_first _ tree told (cc) refl (cc) is_tree empty
