-- Each tree in range has a stream.
use Rattle.std.specs.Prelude.{◌≡◌, ℕ, zero, suc, ◌+◌, ◌-◌, ◌<◌, ◌≤◌, nat_lt, min, Bool, true, false, ◌&&◌, cond, List, [], ◌∷◌, ◌++◌, length, take, drop, Option, Some, None, is_some}
use Rattle.std.specs.List.{AllByRecursion, concat}
use Rattle.std.specs.declared.cmp.Ordering.TheVariants.{Less, Greater}
use Rattle.std.specs.Ordering.{ordering_reverse, ordering_then, is_eq}
use Rattle.std.specs.Cmp.{tied_itself}
use Rattle.std.specs.FinMap.Entries.{find}
use Rattle.std.proofs.Common.{refl, sym, ap, subst, ◌∙◌, append_assoc, length-append, inl, inr, arith}
use Rattle.std.proofs.lemmas.Bool.Decides.{nat_tests}
use Rattle.std.proofs.lemmas.List.{append-nil, length-take, length-drop}
use Rattle.ordered_lists.specs.Order.{IsBelowAll, IsInOrder, is_after}
use Rattle.ordered_lists.specs.OrderLaws.{not_rising, below_through, find_below}
use Rattle.attr_records.specs.declared.nodes.Item.{Item}
use Rattle.attr_records.specs.declared.nodes.Item.TheVariants as I
use Rattle.attr_records.specs.Items.{Tree, is_dir}
use Rattle.attr_records.specs.Attributes.{Attributes}
use Rattle.tree_frames.specs.declared.nodes.Node.{Node}
use Rattle.tree_frames.specs.declared.nodes.Node.TheVariants as N
use Rattle.attr_records.specs.Paths.{path_cmp, parent}
use Rattle.attr_records.specs.PathLaws.{byte_cmp_total, path_cmp_total, parent-parts}
use Rattle.attr_records.specs.PathRuleLaws.{short_path}
use Rattle.attr_records.specs.NameLaws.{short_target}
use Rattle.attr_records.specs.Trees.{node_at, is_dir_found, is_dir_at, is_parent_in, IsTree}
use Rattle.restore_stream.specs.Trees.{IsMadeTree, IsAttr, IsItem, IsInRange, may_follow}
use Rattle.tree_frames.specs.Frames.{node_of, bytes_of, pieces_of, pieces}
use Rattle.restore_stream.specs.Cuts.{Layout, field, nothing, followed_by, seen_as}
use Rattle.restore_stream.specs.Sequences.{AreAll, sequence}
use Rattle.restore_stream.specs.Streams.{limited, attr_layout, node_layout, entry_of, entry_layout, piece_layout, piece_step, pieces_layout, size_of, row_layout, row_step, end_layout, rows_layout, stream_layout}
use Rattle.restore_stream.specs.Layouts.{kind_of}
use Rattle.restore_stream.proofs.PieceReading.{step_more, step_done, concat-snoc}
use Rattle.restore_stream.proofs.PrintLaws.{size_is, fewer, sums, some}

-- ---- paths in order

before_below : (directory rest : List ℕ) → path_cmp directory (directory ++ 47 ∷ rest) ≡ Less
before_below [] rest = refl
before_below (byte ∷ directory) rest =
    ap (λ r. ordering_then r (path_cmp directory (directory ++ 47 ∷ rest))) (tied_itself byte_cmp_total byte) ∙ before_below directory rest

module _ {X : Type 0} where
  order_behind : (front tail : List (List ℕ × X)) → IsInOrder path_cmp (front ++ tail) → IsInOrder path_cmp tail
  order_behind [] tail h = h
  order_behind (e ∷ front) tail h = order_behind front tail h.1

  below_row : (k : List ℕ) (front : List (List ℕ × X)) (row : List ℕ × X) (more : List (List ℕ × X))
      → IsBelowAll path_cmp k (front ++ row ∷ more)
      → path_cmp k row.0 ≡ Less
  below_row k [] row more h = h.0
  below_row k (e ∷ front) row more h = below_row k front row more h.1

  found_here : (front : List (List ℕ × X)) (row : List ℕ × X) (more : List (List ℕ × X)) → IsInOrder path_cmp (front ++ row ∷ more)
      → find path_cmp row.0 (front ++ row ∷ more) ≡ Some row.1
  found_here [] row more h = ap (λ r. cond (is_eq r) (Some row.1) (find path_cmp row.0 more)) (tied_itself path_cmp_total row.0)
  found_here (e ∷ front) row more h =
      let greater : path_cmp row.0 e.0 ≡ Greater =
      path_cmp_total.antisymm row.0 e.0 ∙ ap ordering_reverse (below_row e.0 front row more h.0) in
      ap (λ r. cond (is_eq r) (Some e.1) (find path_cmp row.0 (front ++ row ∷ more))) greater ∙ found_here front row more h.1

  found_in_front : (q : List ℕ) (front tail : List (List ℕ × X)) → IsBelowAll path_cmp q tail
      → find path_cmp q (front ++ tail) ≡ find path_cmp q front
  found_in_front q [] tail below = find_below path_cmp path_cmp_total q tail below
  found_in_front q (e ∷ front) tail below = ap (λ o. cond (is_eq (path_cmp q e.0)) (Some e.1) o) (found_in_front q front tail below)

parent_there : (front : Tree) (row : List ℕ × Item) (more : Tree) → IsTree is_dir (front ++ row ∷ more) → (o : Option (List ℕ))
    → parent row.0 ≡ o
    → is_parent_in is_dir front o ≡ true
parent_there front row more is None e = refl
parent_there front row more is (Some directory) e =
    let parts = parent-parts row.0 directory e in
    let here : node_at (front ++ row ∷ more) (directory ++ 47 ∷ parts.0) ≡ Some row.1 =
    ap (node_at (front ++ row ∷ more)) (sym parts.1) ∙ found_here front row more is.in_order in
    let whole : is_dir_at is_dir (front ++ row ∷ more) directory ≡ true = is.parents directory parts.0 (ap is_some here) in
    let less : path_cmp directory row.0 ≡ Less = ap (path_cmp directory) parts.1 ∙ before_below directory parts.0 in
    let behind = order_behind front (row ∷ more) is.in_order in
    let below : IsBelowAll path_cmp directory (row ∷ more) =
    (less, below_through path_cmp path_cmp_total directory row.0 more less behind.0) in
    ap (is_dir_found is_dir) (sym (found_in_front directory front (row ∷ more) below)) ∙ whole

after_there : (front : Tree) (row : List ℕ × Item) (more : Tree) → IsInOrder path_cmp (front ++ row ∷ more)
    → is_after path_cmp front row.0 ≡ true
after_there front row more order = step (is_after path_cmp front row.0) refl
  where
    step : (b : Bool) → is_after path_cmp front row.0 ≡ b → is_after path_cmp front row.0 ≡ true
    step true e = e
    step false e = absurd (not_rising path_cmp front row more e order)

follows_there : (front : Tree) (row : List ℕ × Item) (more : Tree) → IsMadeTree (front ++ row ∷ more) → may_follow front row.0 ≡ true
unfolding may_follow
follows_there front row more is =
    let n : length (front ++ row ∷ more) ≡ length front + suc (length more) = length-append front (row ∷ more) in
    let f = is.few in
    let room : nat_lt (length front) 1048576 ≡ true = less (length front) (length more) (omega (arith, n, f)) in
    (λ i. after_there front row more is.is_tree.in_order i && (parent_there front row more is.is_tree (parent row.0) refl i && room i))
  where
    less : (m n : ℕ) → m + suc n ≤ 1048576 → nat_lt m 1048576 ≡ true
    less m n h = grind (arith, nat_tests)

-- ---- ranges

pub attr_fits : (attr : Attributes) → IsAttr attr → attr_layout.Fits attr
unfolding attr_layout seen_as followed_by limited field
attr_fits attr is = (
  (omega (arith, is.mode), is.mode),
  ((is.uid, tt), ((is.gid, tt), ((is.mtime, tt), (omega (arith, is.nanos), is.nanos)))),
)

node_fits : (item : Item) → IsItem item → (node_layout (kind_of (node_of item))).Fits (node_of item)
unfolding node_layout seen_as followed_by limited field
node_fits (I.File file) is = (attr_fits file.attr is.0, ((is.1, tt), (is.2, tt)))
node_fits (I.Dir dir) is = attr_fits dir.attr is
node_fits (I.Link link) is =
    let n : length link.target ≤ 4096 = short_target link.target is.1 in (attr_fits link.attr is.0, (omega (arith, n), is.1))

entry_fits : (front : Tree) (row : List ℕ × Item) → IsInRange row → may_follow front row.0 ≡ true
    → (entry_layout front).Fits (row.0, node_of row.1)
unfolding entry_of seen_as followed_by limited field
entry_fits front row is may =
    let n : length row.0 ≤ 4096 = short_path row.0 is.path in
    (kind (node_of row.1), ((omega (arith, n), (is.path, may)), node_fits row.1 is.item))
  where
    kind : (node : Node) → (kind_of node < 256) × ((1 ≤ kind_of node) × (kind_of node ≤ 3))
    kind (N.File file) = (omega arith, (omega arith, omega arith))
    kind (N.Dir dir) = (omega arith, (omega arith, omega arith))
    kind (N.Link link) = (omega arith, (omega arith, omega arith))

none_fits : (size : ℕ) (done : List (List ℕ)) → size ≤ length (concat done) → (piece_step size done).Fits None
unfolding nothing
none_fits size done all = subst (λ (l : Layout (Option (List ℕ))). l.Fits None) (sym (step_done size done all)) refl

piece_fits : (size : ℕ) (done : List (List ℕ)) (piece : List ℕ) → length (concat done) + 1 ≤ size
    → length piece ≡ min 65536 (size - length (concat done)) → (piece_step size done).Fits (Some piece)
unfolding piece_layout seen_as followed_by limited field
piece_fits size done piece some len =
    subst (λ (l : Layout (Option (List ℕ))). l.Fits (Some piece))
    (sym (step_more size (min 65536 (size - length (concat done))) done (omega (arith, some)) refl))
    ((omega arith, refl), ((omega (arith, len), len), (refl, tt)))

left_len : (p l d size : ℕ) → p ≡ min 65536 (suc l) → d + suc l ≡ size → p ≡ min 65536 (size - d)
left_len p l d size is sum = omega (arith, is, sum)

pieces_fit_of : (n size : ℕ) (done : List (List ℕ)) (bytes : List ℕ) → length bytes ≤ n → length (concat done) + length bytes ≡ size
    → AreAll (piece_step size) done (pieces_of n bytes)
unfolding pieces_of
pieces_fit_of zero size done [] h sum = none_fits size done (omega (arith, sum))
pieces_fit_of zero size done (b ∷ bs) h sum = absurd (omega arith)
pieces_fit_of (suc n) size done [] h sum = none_fits size done (omega (arith, sum))
pieces_fit_of (suc n) size done (b ∷ bs) h sum =
    let c : length (concat (done ++ take 65536 (b ∷ bs) ∷ [])) ≡ length (concat done) + length (take 65536 (b ∷ bs)) =
    ap length (concat-snoc done (take 65536 (b ∷ bs))) ∙ length-append (concat done) (take 65536 (b ∷ bs)) in (
      piece_fits size done (take 65536 (b ∷ bs)) (some (length (concat done)) (length bs) size sum)
          (left_len _ (length bs) (length (concat done)) size (length-take 65536 (b ∷ bs)) sum),
      pieces_fit_of n size (done ++ take 65536 (b ∷ bs) ∷ []) (drop 65536 (b ∷ bs)) (fewer _ n (length bs) (length-drop 65536 (b ∷ bs)) h)
          (sums _ _ _ _ (length bs) size c (length-take 65536 (b ∷ bs)) (length-drop 65536 (b ∷ bs)) sum),
    )

pieces_fit : (item : Item) → (pieces_layout (size_of (node_of item))).Fits (pieces (bytes_of item))
unfolding pieces_layout sequence
pieces_fit item =
    subst (λ n. AreAll (piece_step n) [] (pieces (bytes_of item))) (sym (size_is item))
    (pieces_fit_of (length (bytes_of item)) (length (bytes_of item)) [] (bytes_of item) (omega arith) (omega arith))

row_fits : (front : Tree) (row : List ℕ × Item) → IsInRange row → may_follow front row.0 ≡ true → (row_step front).Fits (Some row)
unfolding row_step row_layout seen_as followed_by limited field
row_fits front row is may = ((omega arith, inl refl), (entry_fits front row is may, pieces_fit row.1))

end_fits : (front : Tree) → length front ≤ 1048576 → (row_step front).Fits None
unfolding row_step end_layout seen_as followed_by limited field
end_fits front few = ((omega arith, inr refl), (omega (arith, few), refl))

rows_fit : (front rows : Tree) → IsMadeTree (front ++ rows) → AllByRecursion IsInRange rows → AreAll row_step front rows
rows_fit front [] is each = end_fits front (subst (λ (t : Tree). length t ≤ 1048576) (append-nil front) is.few)
rows_fit front (row ∷ rows) is each = (
  row_fits front row each.0 (follows_there front row rows is),
  rows_fit (front ++ row ∷ []) rows (subst IsMadeTree (sym (append_assoc front (row ∷ []) rows)) is) each.1,
)

-- a tree fits the layout
pub tree_fits : (tree : Tree) → IsMadeTree tree → stream_layout.Fits tree
unfolding stream_layout rows_layout sequence seen_as followed_by limited field
tree_fits tree is = ((refl, refl), rows_fit [] tree is is.each)
