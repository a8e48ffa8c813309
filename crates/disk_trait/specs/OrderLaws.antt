-- Laws of specs/Order.
use Rattle.std.specs.Prelude.{◌≡◌}
use Rattle.std.specs.Cmp.{IsTotalOrder, IsEquivalence}
use Rattle.std.proofs.lemmas.Cmp.{on_total, nat_list_cmp_total, eq_by_cmp_equiv}
use Rattle.disk_trait.specs.declared.ids.FileId.{FileId}
use Rattle.std.proofs.lemmas.Map.Text.{is_eq-slice_cmp}
use Rattle.disk_trait.specs.Names.{file_key, is_same_file}
use Rattle.disk_trait.specs.Order.{file_cmp, file_eq}

pub file_cmp_total : IsTotalOrder file_cmp
file_cmp_total = on_total file_key nat_list_cmp_total

pub file_eq_equiv : IsEquivalence file_eq
file_eq_equiv = eq_by_cmp_equiv file_cmp_total

-- the order doesn't tell files apart where they are the same
pub file_eq_same : (a b : FileId) → file_eq a b ≡ is_same_file a b
unfolding is_same_file
file_eq_same a b = is_eq-slice_cmp (file_key a) (file_key b)
