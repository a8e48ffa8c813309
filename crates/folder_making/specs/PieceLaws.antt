-- Laws of a file whose pieces are put at its end in the folder.
--     put_twice      of two nodes at one path the last one stays
--     appended_made      a file that was made and got more bytes is as if it were made with them
use Rattle.std.specs.Prelude.{◌≡◌, ℕ, List, [], ◌∷◌, Option, Some, None, cond}
use Rattle.std.specs.declared.cmp.Ordering.{Ordering}
use Rattle.std.specs.declared.cmp.Ordering.TheVariants.{Less, Equal, Greater}
use Rattle.std.specs.Ordering.{is_eq}
use Rattle.std.specs.FinMap.Entries.{by_order}
use Rattle.std.proofs.Common.{refl, ap, ◌∙◌}
use Rattle.attr_records.specs.declared.nodes.Item.{Item}
use Rattle.attr_records.specs.declared.nodes.Item.TheVariants as I
use Rattle.attr_records.specs.declared.nodes.File.{File}
use Rattle.attr_records.specs.Items.{Tree}
use Rattle.attr_records.specs.Paths.{path_cmp, parent}
use Rattle.attr_records.specs.Trees.{node_at, with_node}
use Rattle.attr_records.specs.TreeLaws.{node_at-with_node}
use Rattle.folder_trait.specs.Folders.{longer, appended, with_appended, touched, with_made}
use Rattle.folder_making.specs.RowLaws.{path_level}

pub put_twice : (path : List ℕ) (x y : Item) (tree : Tree) → with_node (with_node tree path x) path y ≡ with_node tree path y
put_twice path x y [] = ap (λ o. by_order o ((path, y) ∷ (path, x) ∷ []) ((path, y) ∷ []) ((path, x) ∷ (path, y) ∷ [])) (path_level path)
put_twice path x y (row ∷ tree) = step (path_cmp path row.0) refl (put_twice path x y tree)
  where
    step : (r : Ordering) → path_cmp path row.0 ≡ r → with_node (with_node tree path x) path y ≡ with_node tree path y
        → with_node (by_order r ((path, x) ∷ row ∷ tree) ((row.0, x) ∷ tree) (row ∷ with_node tree path x)) path y
        ≡ by_order r ((path, y) ∷ row ∷ tree) ((row.0, y) ∷ tree) (row ∷ with_node tree path y)
    step Less is rest =
        ap (λ o. by_order o ((path, y) ∷ (path, x) ∷ row ∷ tree) ((path, y) ∷ row ∷ tree) ((path, x) ∷ with_node (row ∷ tree) path y)) (path_level path)
    step Equal is rest =
        ap (λ o. by_order o ((path, y) ∷ (row.0, x) ∷ tree) ((row.0, y) ∷ tree) ((row.0, x) ∷ with_node tree path y)) is
    step Greater is rest =
        ap (λ o. by_order o ((path, y) ∷ row ∷ with_node tree path x) ((row.0, y) ∷ with_node tree path x)
        (row ∷ with_node (with_node tree path x) path y)) is
        ∙ ap (λ t. row ∷ t) rest

pub appended_made : (told : Option Tree) (path : List ℕ) (file : File) (more : List ℕ)
    → with_appended (with_made told path (I.File file)) path more ≡ with_made told path (I.File (longer file more))
appended_made None path file more = refl
appended_made (Some tree) path file more =
    let around : Tree = touched tree (parent path) in
    let there : Tree = with_node around path (I.File file) in
    let found : node_at there path ≡ Some (I.File file) =
    node_at-with_node around path (I.File file) path ∙ ap (λ r. cond (is_eq r) (Some (I.File file)) (node_at around path)) (path_level path) in
    ap (λ node. Some (appended there path more node)) found ∙ ap Some (put_twice path (I.File file) (I.File (longer file more)) around)
