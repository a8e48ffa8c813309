use Rattle.one_way_layouts.specs.Files.{one_table}
use Rattle.one_way_layouts.proofs.laws.table_is_of_one_value.Goals as goal

pub returns : goal.returns
returns c = one_table
