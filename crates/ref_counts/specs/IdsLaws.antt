-- Laws of the order of ids.
--     same_key      to compare equal is to be the same id
use Rattle.std.specs.Prelude.{◌≡◌, true}
use Rattle.std.specs.declared.cmp.Ordering.{Ordering}
use Rattle.std.specs.declared.cmp.Ordering.TheVariants.{Less, Equal, Greater}
use Rattle.std.specs.Ordering.{is_eq, eq_by_cmp}
use Rattle.std.specs.Cmp.{tied_itself}
use Rattle.std.proofs.Common.{refl, ap, ◌∙◌, subst}
use Rattle.disk_trait.specs.declared.ids.PoolId.{PoolId}
use Rattle.attr_tables.specs.Records.{is_same_id}
use Rattle.attr_tables.specs.RecordLaws.{same_id, id_itself}
use Rattle.pool_index.specs.Items.{id_cmp}
use Rattle.pool_index.specs.ItemLaws.{id_total, id_exact}
use Rattle.stored_trees.specs.NodeLaws.{alike}

equal_from_test : (r : Ordering) → is_eq r ≡ true → r ≡ Equal
equal_from_test Less e = cc
equal_from_test Equal e = refl
equal_from_test Greater e = cc

pub same_key : (q k : PoolId) → eq_by_cmp id_cmp q k ≡ is_same_id k q
same_key q k = alike (eq_by_cmp id_cmp q k) (is_same_id k q)
    (λ e. subst (λ x. is_same_id x q ≡ true) (id_exact q k (equal_from_test (id_cmp q k) e)) (id_itself q))
    (λ e. ap is_eq (ap (id_cmp q) (same_id k q e) ∙ tied_itself id_total q))
