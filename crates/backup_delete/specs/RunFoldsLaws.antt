-- Laws of specs/RunFolds.
--     trimmed-view_through      how they make up the trimmed entries of a tree viewed through the table
use Rattle.std.specs.Prelude.{◌≡◌, [], ◌∷◌, Option, Some, None, if◌then◌else◌}
use Rattle.std.proofs.Common.{refl, sym, ap, ◌∙◌}
use Rattle.ordered_lists.specs.Order.{IsInOrder}
use Rattle.ordered_lists.specs.MergeLaws.{find-merge, IsInOrder-merge}
use Rattle.attr_records.specs.Paths.{path_cmp}
use Rattle.attr_records.specs.PathLaws.{path_cmp_total}
use Rattle.attr_records.specs.Trees.{node_at}
use Rattle.attr_records.specs.TreeLaws.{same_tree}
use Rattle.attr_tables.specs.Records.{is_same_record}
use Rattle.attr_tables.specs.declared.records.Record.{Record}
use Rattle.attr_tables.specs.declared.records.Record.TheVariants.{File, Dir, Link, Deleted}
use Rattle.merge_view.specs.Views.{Rows, laid, upper, needed, view, stacked, trimmed}
use Rattle.merge_view.specs.ViewLaws.{IsInOrder-view, IsInOrder-stacked, IsInOrder-trimmed, node_at-view, node_at-stacked, node_at-trimmed}
use Rattle.merge_view.specs.TableLaws.{stacked-assoc}
use Rattle.backup_delete.specs.RunFolds.{differing, elsewhere, remaining, resolved}

upper-nothing : (entry : Option Record) → upper entry None ≡ entry
upper-nothing None = refl
upper-nothing (Some entry) = refl

needed_over : (entry table : Record) (base : Option Record)
    → needed (Some entry) (laid (Some table) base) ≡ (if is_same_record entry table then None else Some entry)
needed_over Deleted Deleted base = refl
needed_over Deleted (File table) base = refl
needed_over Deleted (Dir table) base = refl
needed_over Deleted (Link table) base = refl
needed_over (File file) Deleted base = refl
needed_over (File file) (File table) base = refl
needed_over (File file) (Dir table) base = refl
needed_over (File file) (Link table) base = refl
needed_over (Dir dir) Deleted base = refl
needed_over (Dir dir) (File table) base = refl
needed_over (Dir dir) (Dir table) base = refl
needed_over (Dir dir) (Link table) base = refl
needed_over (Link link) Deleted base = refl
needed_over (Link link) (File table) base = refl
needed_over (Link link) (Dir table) base = refl
needed_over (Link link) (Link table) base = refl

needed_split : (entry table base : Option Record)
    → needed entry (laid table base) ≡ upper (differing entry table) (needed (elsewhere entry table) base)
needed_split None None base = refl
needed_split None (Some table) base = refl
needed_split (Some entry) None base = refl
needed_split (Some entry) (Some table) base =
    needed_over entry table base ∙ sym (upper-nothing (if is_same_record entry table then None else Some entry))

pub resolved_in_order : (entries table : Rows) → IsInOrder path_cmp entries → IsInOrder path_cmp table
    → IsInOrder path_cmp (resolved entries table)
resolved_in_order entries table g h = IsInOrder-merge path_cmp differing path_cmp_total entries table g h

pub remaining_in_order : (entries table : Rows) → IsInOrder path_cmp entries → IsInOrder path_cmp table
    → IsInOrder path_cmp (remaining entries table)
remaining_in_order entries table g h = IsInOrder-merge path_cmp elsewhere path_cmp_total entries table g h

pub trimmed-view_through : (tree table entries : Rows) → IsInOrder path_cmp tree → IsInOrder path_cmp table → IsInOrder path_cmp entries
    → trimmed (view tree table) entries ≡ stacked (resolved entries table) (trimmed tree (remaining entries table))
trimmed-view_through tree table entries f g h =
    let seen = IsInOrder-view tree table f g in
    let here = resolved_in_order entries table h g in
    let rest = remaining_in_order entries table h g in
    let later = IsInOrder-trimmed tree (remaining entries table) f rest in
    same_tree (trimmed (view tree table) entries) (stacked (resolved entries table) (trimmed tree (remaining entries table)))
    (IsInOrder-trimmed (view tree table) entries seen h)
    (IsInOrder-stacked (resolved entries table) (trimmed tree (remaining entries table)) here later) (λ path.
    node_at-trimmed (view tree table) entries seen h path
    ∙ ap (needed (node_at entries path)) (node_at-view tree table f g path)
    ∙ needed_split (node_at entries path) (node_at table path) (node_at tree path)
    ∙ (λ i. upper (sym (find-merge path_cmp differing path_cmp_total refl path entries table h g) i)
    (needed (sym (find-merge path_cmp elsewhere path_cmp_total refl path entries table h g) i) (node_at tree path)))
    ∙ ap (upper (node_at (resolved entries table) path)) (sym (node_at-trimmed tree (remaining entries table) f rest path))
    ∙ sym (node_at-stacked (resolved entries table) (trimmed tree (remaining entries table)) here later path))

-- nothing is left of no entries
pub trimmed-none : (tree : Rows) → trimmed tree [] ≡ []
trimmed-none [] = refl
trimmed-none (row ∷ rows) = trimmed-none rows

-- one table more
pub trimmed-further : (whole tree table done rest : Rows) → IsInOrder path_cmp tree → IsInOrder path_cmp table → IsInOrder path_cmp done
    → IsInOrder path_cmp rest → whole ≡ stacked done (trimmed (view tree table) rest)
    → whole ≡ stacked (stacked done (resolved rest table)) (trimmed tree (remaining rest table))
trimmed-further whole tree table done rest t g d r is =
    let left = remaining_in_order rest table r g in
    is ∙ ap (stacked done) (trimmed-view_through tree table rest t g r)
    ∙ sym (stacked-assoc done (resolved rest table) (trimmed tree (remaining rest table)) d (resolved_in_order rest table r g)
    (IsInOrder-trimmed tree (remaining rest table) t left))
