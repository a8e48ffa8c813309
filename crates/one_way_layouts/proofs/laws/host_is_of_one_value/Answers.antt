use Rattle.one_way_layouts.specs.Files.{one_index}
use Rattle.one_way_layouts.proofs.laws.host_is_of_one_value.Goals as goal

pub returns : goal.returns
returns c = one_index
