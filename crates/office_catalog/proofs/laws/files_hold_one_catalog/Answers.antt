use Rattle.office_catalog.proofs.Once.{AreTold, catalog_once}
use Rattle.office_catalog.proofs.laws.files_hold_one_catalog.Goals as goal

pub returns : goal.returns
returns c =
    let told : AreTold = record { heads = c.head_is_of_one_value.ensures; indices = c.host_is_of_one_value.ensures } in
    catalog_once told
