use Rattle.one_way_layouts.specs.Files.{one_partial}
use Rattle.one_way_layouts.proofs.laws.partial_is_of_one_value.Goals as goal

pub returns : goal.returns
returns c = one_partial
