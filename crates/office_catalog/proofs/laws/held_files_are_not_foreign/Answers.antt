use Rattle.office_catalog.proofs.Once.{AreTold, not_foreign}
use Rattle.office_catalog.proofs.laws.held_files_are_not_foreign.Goals as goal

pub returns : goal.returns
returns c =
    let told : AreTold = record { heads = c.head_is_of_one_value.ensures; indices = c.host_is_of_one_value.ensures } in
    not_foreign told
