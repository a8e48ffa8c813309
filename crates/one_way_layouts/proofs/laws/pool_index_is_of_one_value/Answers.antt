use Rattle.one_way_layouts.specs.Files.{one_pool_index}
use Rattle.one_way_layouts.proofs.laws.pool_index_is_of_one_value.Goals as goal

pub returns : goal.returns
returns c = one_pool_index
