-- The last item is the one at the length less one.
use Rattle.std.proofs.Common.{◌≡◌, ℕ, ◌-◌, ◌≤◌, [], ◌∷◌, length, get_or, Bool, sym, ap, ◌∙◌, suc, arith}
use Rattle.std.specs.declared.cmp.Ordering.{Ordering}
use Rattle.std.specs.Ordering.{is_lt}
use Rattle.disk_trait.specs.declared.ids.PoolId.{PoolId}
use Rattle.ordered_lists.specs.Order.{is_after}
use Rattle.ordered_lists.specs.OrderLaws.{is_after-last}
use Rattle.pool_index.specs.Items.{id_cmp}
use Rattle.ref_counts.specs.Numbers.{Items}
use Rattle.ref_counts.proofs.item.is_after.Goals as goal

last_tells : (items : Items) (asked id : PoolId) (item : PoolId × ℕ) (r : Ordering) (b : Bool) → 1 ≤ length items → item ≡ get_or items (length items - 1) item
    → id ≡ item.0 → r ≡ id_cmp id asked → b ≡ is_lt r → b ≡ is_after id_cmp items asked
last_tells [] asked id item r b some is id_is compared tested = absurd (omega arith)
last_tells (e ∷ items) asked id item r b some is id_is compared tested =
    let place : suc (length items) - 1 ≡ length items = omega arith in
    tested ∙ ap is_lt (compared ∙ ap (λ i. id_cmp i asked) id_is)
    ∙ ap (λ (x : PoolId × ℕ). is_lt (id_cmp x.0 asked)) (is ∙ ap (λ n. get_or (e ∷ items) n item) place)
    ∙ sym (is_after-last id_cmp asked e items item)

pub returns-in-len1-up : goal.returns-in-len1-up
returns-in-len1-up c =
    last_tells c.args.items.now c.args.id c.id.result c.last-item.result _ _ c.in-len1-up.len_at_least c.last-item.is c.id.ensures c.cmp.ensures c.is_lt.ensures
