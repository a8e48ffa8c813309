-- The last row is the one at the length less one.
use Rattle.std.proofs.Common.{◌≡◌, ℕ, ◌-◌, ◌≤◌, List, [], ◌∷◌, length, get_or, Bool, sym, ap, ◌∙◌, suc, arith}
use Rattle.std.specs.declared.cmp.Ordering.{Ordering}
use Rattle.std.specs.Ordering.{is_lt}
use Rattle.attr_records.specs.Paths.{path_cmp}
use Rattle.attr_records.specs.declared.nodes.Item.{Item}
use Rattle.ordered_lists.specs.Order.{is_after}
use Rattle.ordered_lists.specs.OrderLaws.{is_after-last}
use Rattle.restore_stream.proofs.made.is_after.Goals as goal

last_tells : (rows : List (List ℕ × Item)) (asked path : List ℕ) (row : List ℕ × Item) (r : Ordering) (b : Bool) → 1 ≤ length rows
    → row ≡ get_or rows (length rows - 1) row → path ≡ row.0 → r ≡ path_cmp path asked → b ≡ is_lt r → b ≡ is_after path_cmp rows asked
last_tells [] asked path row r b some is path_is compared tested = absurd (omega arith)
last_tells (e ∷ rows) asked path row r b some is path_is compared tested =
    let place : suc (length rows) - 1 ≡ length rows = omega arith in
    tested ∙ ap is_lt (compared ∙ ap (λ p. path_cmp p asked) path_is)
    ∙ ap (λ x. is_lt (path_cmp x.0 asked)) (is ∙ ap (λ n. get_or (e ∷ rows) n row) place)
    ∙ sym (is_after-last path_cmp asked e rows row)

pub returns-in-len1-up : goal.returns-in-len1-up
returns-in-len1-up c =
    last_tells c.args.rows.now c.args.path.now _ c.last-item.result _ _ c.in-len1-up.len_at_least c.last-item.is
    (c.as_slice.ensures.value ∙ c.path.ensures.value) c.compare.ensures c.is_lt.ensures
