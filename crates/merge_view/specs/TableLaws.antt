-- Laws of several tables.
--     whole-reverses      the stored entries of trees show the oldest
--     view-stack, whole-stack      a view through all entries at once
use Rattle.std.specs.Prelude.{◌≡◌, ℕ, false, List, [], ◌∷◌, ◌++◌, Option, Some, None, if◌then◌else◌}
use Rattle.std.specs.List.{AllByRecursion}
use Rattle.std.proofs.Common.{refl, sym, ap, ◌∙◌}
use Rattle.attr_records.specs.Paths.{path_cmp}
use Rattle.ordered_lists.specs.Order.{IsInOrder}
use Rattle.attr_records.specs.Trees.{node_at}
use Rattle.attr_records.specs.TreeLaws.{same_tree}
use Rattle.attr_tables.specs.declared.records.Record.{Record}
use Rattle.attr_tables.specs.declared.records.Record.TheVariants.{File, Dir, Link, Deleted}
use Rattle.ordered_lists.specs.Merge.{entry_then}
use Rattle.merge_view.specs.Views.{Rows, laid, upper, view, stacked, IsWhole, is_mark, is_marked, without_marks}
use Rattle.merge_view.specs.ViewLaws.{IsWhole-view, IsInOrder-view, IsInOrder-stacked, node_at-view, node_at-stacked, view-reverse, view-stacked, unmarked, unmarked-laid}
use Rattle.merge_view.specs.Tables.{AllInOrder, viewed, whole, told, reverses, oldest, stack}

pub IsWhole-nil : IsWhole []
IsWhole-nil = record { in_order = tt; no_marks = tt }

-- a view of a whole tree through tables is a whole tree
pub IsWhole-viewed : (tree : Rows) (tables : List Rows) → IsWhole tree → AllInOrder tables → IsWhole (viewed tree tables)
IsWhole-viewed tree [] w h = w
IsWhole-viewed tree (table ∷ tables) w h = IsWhole-viewed (view tree table) tables (IsWhole-view tree table w h.0) h.1

pub IsWhole-whole : (tables : List Rows) → AllInOrder tables → IsWhole (whole tables)
IsWhole-whole tables h = IsWhole-viewed [] tables IsWhole-nil h

-- tables in order behind tables in order
pub AllInOrder-append : (front back : List Rows) → AllInOrder front → AllInOrder back → AllInOrder (front ++ back)
AllInOrder-append [] back g h = h
AllInOrder-append (table ∷ front) back g h = (g.0, AllInOrder-append front back g.1 h)

pub IsInOrder-viewed : (tree : Rows) (tables : List Rows) → IsInOrder path_cmp tree → AllInOrder tables
    → IsInOrder path_cmp (viewed tree tables)
IsInOrder-viewed tree [] g h = g
IsInOrder-viewed tree (table ∷ tables) g h = IsInOrder-viewed (view tree table) tables (IsInOrder-view tree table g h.0) h.1

-- the view at a path is what the tables say of it
pub node_at-viewed : (tree : Rows) (tables : List Rows) → IsInOrder path_cmp tree → AllInOrder tables → (path : List ℕ)
    → node_at (viewed tree tables) path ≡ told tables path (node_at tree path)
node_at-viewed tree [] g h path = refl
node_at-viewed tree (table ∷ tables) g h path =
    node_at-viewed (view tree table) tables (IsInOrder-view tree table g h.0) h.1 path
    ∙ ap (told tables path) (node_at-view tree table g h.0 path)

pub node_at-whole : (tables : List Rows) → AllInOrder tables → (path : List ℕ) → node_at (whole tables) path ≡ told tables path None
node_at-whole tables h path = node_at-viewed [] tables tt h path

-- the tables never say that a mark is at a path
pub unmarked-told : (tables : List Rows) (path : List ℕ) (base : Option Record) → is_marked base ≡ false
    → is_marked (told tables path base) ≡ false
unmarked-told [] path base clean = clean
unmarked-told (table ∷ tables) path base clean =
    unmarked-told tables path (laid (node_at table path) base) (unmarked-laid (node_at table path) base clean)

-- the newest tree, viewed through the stored entries of older ones, is the oldest
pub viewed-reverses : (newer : Rows) (trees : List Rows) → IsWhole newer → AllByRecursion IsWhole trees
    → viewed newer (reverses newer trees) ≡ oldest newer trees
viewed-reverses newer [] g h = refl
viewed-reverses newer (older ∷ trees) g h =
    ap (λ tree. viewed tree (reverses older trees)) (view-reverse older newer h.0 g.in_order)
    ∙ viewed-reverses older trees h.0 h.1

kept : (node : Option Record) → is_marked node ≡ false → laid node None ≡ node
kept None clean = refl
kept (Some Deleted) clean = cc
kept (Some (File file)) clean = refl
kept (Some (Dir dir)) clean = refl
kept (Some (Link link)) clean = refl

-- nothing viewed through a whole tree is that tree
pub view-nil : (tree : Rows) → IsWhole tree → view [] tree ≡ tree
view-nil tree w = same_tree (view [] tree) tree (IsInOrder-view [] tree tt w.in_order) w.in_order (λ path.
    node_at-view [] tree tt w.in_order path ∙ kept (node_at tree path) (unmarked tree w.no_marks path))

-- the stored entries of trees, the newest filled, show the oldest
pub whole-reverses : (filled : Rows) (trees : List Rows) → IsWhole filled → AllByRecursion IsWhole trees
    → whole (filled ∷ reverses filled trees) ≡ oldest filled trees
whole-reverses filled trees g h =
    ap (λ tree. viewed tree (reverses filled trees)) (view-nil filled g)
    ∙ viewed-reverses filled trees g h

-- ---- all entries at once

upper-none : (entry : Option Record) → upper entry None ≡ entry
upper-none None = refl
upper-none (Some entry) = refl

upper-assoc : (a b c : Option Record) → upper (upper a b) c ≡ upper a (upper b c)
upper-assoc None b c = refl
upper-assoc (Some a) b c = refl

pub stacked-none : (older : Rows) → IsInOrder path_cmp older → stacked older [] ≡ older
stacked-none older h = same_tree (stacked older []) older (IsInOrder-stacked older [] h tt) h (λ path.
    node_at-stacked older [] h tt path ∙ upper-none (node_at older path))

pub none-stacked : (newer : Rows) → IsInOrder path_cmp newer → stacked [] newer ≡ newer
none-stacked newer h = same_tree (stacked [] newer) newer (IsInOrder-stacked [] newer tt h) h (λ path. node_at-stacked [] newer tt h path)

pub stacked-assoc : (a b c : Rows) → IsInOrder path_cmp a → IsInOrder path_cmp b → IsInOrder path_cmp c
    → stacked (stacked a b) c ≡ stacked a (stacked b c)
stacked-assoc a b c f g h =
    let ab = IsInOrder-stacked a b f g in
    let bc = IsInOrder-stacked b c g h in
    same_tree (stacked (stacked a b) c) (stacked a (stacked b c)) (IsInOrder-stacked (stacked a b) c ab h) (IsInOrder-stacked a (stacked b c) f bc) (λ path.
    node_at-stacked (stacked a b) c ab h path
    ∙ ap (λ entry. upper entry (node_at c path)) (node_at-stacked a b f g path)
    ∙ upper-assoc (node_at a path) (node_at b path) (node_at c path)
    ∙ ap (upper (node_at a path)) (sym (node_at-stacked b c g h path))
    ∙ sym (node_at-stacked a (stacked b c) f bc path))

pub IsInOrder-stack : (tables : List Rows) → AllInOrder tables → IsInOrder path_cmp (stack tables)
IsInOrder-stack [] h = tt
IsInOrder-stack (table ∷ tables) h = IsInOrder-stacked (stack tables) table (IsInOrder-stack tables h.1) h.0

-- one table is its own stack
pub stack-one : (table : Rows) → IsInOrder path_cmp table → stack (table ∷ []) ≡ table
stack-one table h = none-stacked table h

-- the stack of two parts is the stacks of both laid over each other
pub stack-append : (front back : List Rows) → AllInOrder front → AllInOrder back
    → stack (front ++ back) ≡ stacked (stack back) (stack front)
stack-append [] back g h = sym (stacked-none (stack back) (IsInOrder-stack back h))
stack-append (table ∷ front) back g h =
    ap (λ entries. stacked entries table) (stack-append front back g.1 h)
    ∙ stacked-assoc (stack back) (stack front) table (IsInOrder-stack back h) (IsInOrder-stack front g.1) g.0

-- a tree viewed through a stack is viewed through one table after the other
pub view-stack : (tree : Rows) (tables : List Rows) → IsInOrder path_cmp tree → AllInOrder tables
    → view tree (stack tables) ≡ viewed tree tables
view-stack tree [] g h = same_tree (view tree []) tree (IsInOrder-view tree [] g tt) g (λ path. node_at-view tree [] g tt path)
view-stack tree (table ∷ tables) g h =
    view-stacked tree (stack tables) table g (IsInOrder-stack tables h.1) h.0
    ∙ view-stack (view tree table) tables (IsInOrder-view tree table g h.0) h.1

-- what an entry shows over nothing
entry-none : (path : List ℕ) (entry : Record) (rest : Rows)
    → entry_then path (laid (Some entry) None) rest ≡ (if is_mark entry then rest else ((path, entry) ∷ rest))
entry-none path Deleted rest = refl
entry-none path (File file) rest = refl
entry-none path (Dir dir) rest = refl
entry-none path (Link link) rest = refl

-- entries over nothing show those that are no deletion marks
view-none : (entries : Rows) → view [] entries ≡ without_marks entries
view-none [] = refl
view-none (entry ∷ entries) =
    entry-none entry.0 entry.1 (view [] entries)
    ∙ ap (λ (rest : Rows). if is_mark entry.1 then rest else (entry ∷ rest)) (view-none entries)

-- the whole of tables is what is no deletion mark of all entries laid over each other
pub whole-stack : (tables : List Rows) → AllInOrder tables → without_marks (stack tables) ≡ whole tables
whole-stack tables h = sym (view-none (stack tables)) ∙ view-stack [] tables tt h
