-- Reading the paths of a tree.
use Rattle.std.specs.Prelude.{◌≡◌, ◌≢◌, ℕ, ◌+◌, List, [], ◌∷◌, ◌++◌, length, Option, Some, None, IfSome, ◌⊎◌}
use Rattle.std.specs.Option.{option_map}
use Rattle.std.specs.Int.{w8, w16, w32, w64}
use Rattle.std.proofs.Common.{refl, sym, ap, subst, ◌∙◌, length-append, inl, inr, arith}
use Rattle.wire_bytes.specs.Layout.{number_bytes, signed_bytes, text_bytes}
use Rattle.wire_bytes.proofs.Numbers.{length-number_bytes}
use Rattle.wire_bytes.proofs.Texts.{length-text_bytes}
use Rattle.std.specs.Int.{cast_unsigned}
use Rattle.attr_records.specs.Attributes.{Attributes}
use Rattle.attr_records.specs.declared.nodes.Item.{Item}
use Rattle.attr_records.specs.Items.{Tree}
use Rattle.restore_stream.specs.declared.faults.ReadStreamFault.{ReadStreamFault}
use Rattle.tree_frames.specs.declared.nodes.Node.{Node}
use Rattle.tree_frames.specs.declared.nodes.Node.TheVariants as N
use Rattle.tree_frames.specs.Frames.{node_of, bytes_of, pieces}
use Rattle.restore_stream.specs.Layouts.{attr_bytes, kind_of, node_bytes, entry_bytes, tail_length, magic}
use Rattle.restore_stream.specs.Cuts.{Layout, field, followed_by, seen_as}
use Rattle.restore_stream.specs.Sequences.{items_print}
use Rattle.restore_stream.specs.Streams.{u8_field, u32_field, bytes_field_of, limited, attr_layout, node_layout, entry_of, entry_layout, pieces_layout, IsNextPath, size_of, item_of, row_layout, one_more, behind_tag, end_layout, row_step, rows_layout, stream_layout}
use Rattle.restore_stream.specs.Reading.{Finds, Refuses, ReadSoFar}
use Rattle.restore_stream.proofs.ReadingLaws.{limited_fits, first_refuses, then_refuses, then_finds, seen_refuses, seen_finds}
use Rattle.restore_stream.proofs.SequenceLaws.{none_read, more_read, all_read, stop_refuses, print-snoc}
use Rattle.restore_stream.proofs.EntryLaws.{same_start}

-- ---- how long they are

attr_length : (attr : Attributes) → length (attr_bytes attr) ≡ 24
unfolding attr_bytes
attr_length attr =
    let mode = number_bytes w32 attr.mode in
    let uid = number_bytes w32 attr.uid in
    let gid = number_bytes w32 attr.gid in
    let mtime = signed_bytes w64 attr.mtime in
    let nanos = number_bytes w32 attr.nanos in
    omega (
      arith,
      length-number_bytes w32 tt attr.mode,
      length-number_bytes w32 tt attr.uid,
      length-number_bytes w32 tt attr.gid,
      length-number_bytes w64 tt (cast_unsigned w64 attr.mtime),
      length-number_bytes w32 tt attr.nanos,
      length-append mode (uid ++ (gid ++ (mtime ++ nanos))),
      length-append uid (gid ++ (mtime ++ nanos)),
      length-append gid (mtime ++ nanos),
      length-append mtime nanos,
    )

node_length : (node : Node) → length (node_bytes node) ≡ 24 + tail_length node
node_length (N.File file) =
    let group = number_bytes w32 file.group in
    let size = number_bytes w64 file.size in
    omega (
      arith,
      attr_length file.attr,
      length-number_bytes w32 tt file.group,
      length-number_bytes w64 tt file.size,
      length-append (attr_bytes file.attr) (group ++ size),
      length-append group size,
    )
node_length (N.Dir dir) = attr_length dir.attr
node_length (N.Link link) = omega (
  arith,
  attr_length link.attr,
  length-text_bytes w16 tt link.target,
  length-append (attr_bytes link.attr) (text_bytes w16 link.target),
)

pub entry_length : (path : List ℕ) (node : Node) → length (entry_bytes (path, node)) + 1 ≡ 28 + length path + tail_length node
unfolding entry_bytes
entry_length path node = omega (
  arith,
  node_length node,
  length-text_bytes w16 tt path,
  length-number_bytes w8 tt (kind_of node),
  length-append (number_bytes w8 (kind_of node)) (text_bytes w16 path ++ node_bytes node),
  length-append (text_bytes w16 path) (node_bytes node),
)

-- the print of an entry by the layout
pub print_of_entry : (P : List ℕ → Type 0) (path : List ℕ) (node : Node) → (entry_of P).print (path, node) ≡ entry_bytes (path, node)
unfolding entry_of node_layout attr_layout seen_as followed_by limited field entry_bytes attr_bytes
print_of_entry P path (N.File file) = refl
print_of_entry P path (N.Dir dir) = refl
print_of_entry P path (N.Link link) = refl

pub entry_print : (tree : Tree) (path : List ℕ) (node : Node) → (entry_layout tree).print (path, node) ≡ entry_bytes (path, node)
entry_print tree = print_of_entry (IsNextPath tree)

-- ---- a path with what stands at it

no_bytes : (bytes : List ℕ) → length bytes ≡ 0 → bytes ≡ []
no_bytes [] h = refl
no_bytes (byte ∷ bytes) h = absurd (omega (arith, h))

node_back : (node : Node) (bytes : List ℕ) → length bytes ≡ size_of node → node_of (item_of node bytes) ≡ node
node_back (N.File file) bytes len = ap (λ n. N.File (record { attr = file.attr; group = file.group; size = n })) len
node_back (N.Dir dir) bytes len = refl
node_back (N.Link link) bytes len = refl

bytes_back : (node : Node) (bytes : List ℕ) → length bytes ≡ size_of node → bytes_of (item_of node bytes) ≡ bytes
bytes_back (N.File file) bytes len = refl
bytes_back (N.Dir dir) bytes len = sym (no_bytes bytes len)
bytes_back (N.Link link) bytes len = sym (no_bytes bytes len)

pub row_came : {old a new : Option (List ℕ)} {path : List ℕ} {node : Node} (bytes : List ℕ) (tree : Tree) (row : List ℕ × Item)
    (item : Item)
    → row ≡ (path, item) → item ≡ item_of node bytes → length bytes ≡ size_of node → Finds (entry_layout tree) old (path, node) a
    → Finds (pieces_layout (size_of node)) a (pieces bytes) new → Finds (row_layout tree) old row new
unfolding row_layout
row_came {old} {a} {new} {path} {node} bytes tree row item row_is item_is len f p =
    let is_node : node_of item ≡ node = ap node_of item_is ∙ node_back node bytes len in
    let are_bytes : bytes_of item ≡ bytes = ap bytes_of item_is ∙ bytes_back node bytes len in
    subst (λ (r : List ℕ × Item). Finds (row_layout tree) old r new) (sym row_is)
    (seen_finds _ _ _ (path, item) (λ i. Some ((path, is_node i), pieces (are_bytes i))) (then_finds _ _ f p))

pub entry_refuses : {start : ℕ} {old : Option (List ℕ)} {fault : ReadStreamFault} (tree : Tree)
    → Refuses (entry_layout tree) start old fault
    → Refuses (row_layout tree) start old fault
unfolding row_layout
entry_refuses tree r = seen_refuses _ _ _ (first_refuses _ _ r)

pub pieces_refuse : {start at : ℕ} {old a : Option (List ℕ)} {path : List ℕ} {node : Node} {fault : ReadStreamFault} (tree : Tree)
    → Finds (entry_layout tree) old (path, node) a → at ≡ start + (length (entry_bytes (path, node)) + 1)
    → Refuses (pieces_layout (size_of node)) at a fault → Refuses (row_layout tree) start old fault
unfolding row_layout
pieces_refuse tree f here r = seen_refuses _ _ _ (then_refuses _ _ f here r)

pub row_behind : {path : List ℕ} (node : Node) (bytes : List ℕ) (tree : Tree) (row : List ℕ × Item) (item : Item) (start first behind : ℕ)
    → row ≡ (path, item) → item ≡ item_of node bytes → length bytes ≡ size_of node → first ≡ start + (length (entry_bytes (path, node)) + 1)
    → behind ≡ first + length ((pieces_layout (size_of node)).print (pieces bytes))
    → behind ≡ start + (length ((row_layout tree).print row) + 1)
unfolding row_layout seen_as followed_by
row_behind {path} node bytes tree row item start first behind row_is item_is len first_is behind_is =
    let is_node : node_of item ≡ node = ap node_of item_is ∙ node_back node bytes len in
    let are_bytes : bytes_of item ≡ bytes = ap bytes_of item_is ∙ bytes_back node bytes len in
    let print : (row_layout tree).print row ≡ (entry_layout tree).print (path, node) ++ (pieces_layout (size_of node)).print
    (pieces bytes) =
    ap (row_layout tree).print row_is
    ∙ (λ i. (entry_layout tree).print (path, is_node i) ++ (pieces_layout (size_of (is_node i))).print (pieces (are_bytes i))) in
    let n = ap length print
    ∙ length-append ((entry_layout tree).print (path, node)) ((pieces_layout (size_of node)).print (pieces bytes)) in
    let m : length ((entry_layout tree).print (path, node)) ≡ length (entry_bytes (path, node)) = ap length (entry_print tree path node) in
    omega (arith, n, m, first_is, behind_is)

pub first_at : {first : ℕ} (start len entry : ℕ) → first ≡ start + len → len ≡ entry → first ≡ start + entry
first_at start len entry first_is len_is = first_is ∙ ap (λ n. start + n) len_is

pub sized : {old new : Option (List ℕ)} {m n : ℕ} (items : List (List ℕ)) → m ≡ n → Finds (pieces_layout m) old items new
    → Finds (pieces_layout n) old items new
sized {old} {new} items e f = subst (λ k. Finds (pieces_layout k) old items new) e f

pub sized_refuses : {old : Option (List ℕ)} {m n start : ℕ} (fault : ReadStreamFault) → m ≡ n → Refuses (pieces_layout m) start old fault
    → Refuses (pieces_layout n) start old fault
sized_refuses {old} {m} {n} {start} fault e r = subst (λ k. Refuses (pieces_layout k) start old fault) e r

-- ---- what comes next

abbrev IsTag : ℕ → Type 0
IsTag tag = (tag ≡ 69) ⊎ (tag ≡ 90)

is_row : (tree : Tree) (tag : ℕ) → tag ≡ 69 → behind_tag tree tag ≡ one_more (row_layout tree)
is_row tree tag e = ap (λ t. behind_tag tree t) e

is_end : (tree : Tree) (tag : ℕ) → tag ≡ 90 → behind_tag tree tag ≡ end_layout tree
is_end tree tag e = ap (λ t. behind_tag tree t) e

the_end : (tag : ℕ) → IsTag tag → tag ≢ 69 → tag ≡ 90
the_end tag (inl e) other = absurd (other e)
the_end tag (inr e) other = e

pub first_tag_refuses : {start : ℕ} {old : Option (List ℕ)} {fault : ReadStreamFault} (tree : Tree)
    → Refuses (u8_field IsTag) start old fault
    → Refuses (row_step tree) start old fault
unfolding row_step
first_tag_refuses tree r = seen_refuses _ _ _ (first_refuses _ _ r)

pub row_next : {old a new : Option (List ℕ)} {tag : ℕ} (tree : Tree) (row : List ℕ × Item) → tag ≡ 69 → Finds (u8_field IsTag) old tag a
    → Finds (row_layout tree) a row new → Finds (row_step tree) old (Some row) new
unfolding row_step
row_next {old} {a} {new} {tag} tree row is t r =
    seen_finds _ _ _ (Some row) (λ i. Some (sym is i, Some row)) (then_finds _ (behind_tag tree) t
    (subst (λ (l : Layout (Option (List ℕ × Item))). Finds l a (Some row) new) (sym (is_row tree tag is))
    (seen_finds _ _ _ (Some row) refl r)))

pub row_refuses : {start : ℕ} {old a : Option (List ℕ)} {tag : ℕ} {fault : ReadStreamFault} (tree : Tree) → tag ≡ 69
    → Finds (u8_field IsTag) old tag a → Refuses (row_layout tree) start a fault → Refuses (row_step tree) start old fault
unfolding row_step
row_refuses {start} {old} {a} {tag} {fault} tree is t r =
    seen_refuses _ _ _ (then_refuses _ (behind_tag tree) t (same_start start)
    (subst (λ (l : Layout (Option (List ℕ × Item))). Refuses l start a fault) (sym (is_row tree tag is)) (seen_refuses _ _ _ r)))

pub end_next : {old a new : Option (List ℕ)} {tag n : ℕ} (tree : Tree) (count : ℕ) → count ≡ length tree → tag ≢ 69
    → Finds (u8_field IsTag) old tag a → Finds (u32_field (λ m. m ≡ count)) a n new → Finds (row_step tree) old None new
unfolding row_step end_layout
end_next {old} {a} {new} {tag} {n} tree count count_is other t c =
    let is = the_end tag (limited_fits _ _ _ _ t).1 other in
    let c' : Finds (u32_field (λ m. m ≡ length tree)) a n new = subst (λ k. Finds (u32_field (λ m. m ≡ k)) a n new) count_is c in
    seen_finds _ _ _ None (λ i. Some (sym is i, None)) (then_finds _ (behind_tag tree) t
    (subst (λ (l : Layout (Option (List ℕ × Item))). Finds l a None new) (sym (is_end tree tag is))
    (seen_finds _ _ _ None (λ i. Some (sym (limited_fits _ _ _ _ c').1 i)) c')))

pub end_refuses : {start : ℕ} {old a : Option (List ℕ)} {tag : ℕ} {fault : ReadStreamFault} (tree : Tree) (count : ℕ) → count ≡ length tree
    → tag ≢ 69 → Finds (u8_field IsTag) old tag a → Refuses (u32_field (λ m. m ≡ count)) start a fault
    → Refuses (row_step tree) start old fault
unfolding row_step end_layout
end_refuses {start} {old} {a} {tag} {fault} tree count count_is other t r =
    let is = the_end tag (limited_fits _ _ _ _ t).1 other in
    let r' : Refuses (u32_field (λ m. m ≡ length tree)) start a fault = subst
    (λ k. Refuses (u32_field (λ m. m ≡ k)) start a fault) count_is r in
    seen_refuses _ _ _ (then_refuses _ (behind_tag tree) t (same_start start)
    (subst (λ (l : Layout (Option (List ℕ × Item))). Refuses l start a fault) (sym (is_end tree tag is)) (seen_refuses _ _ _ r')))

pub next_behind : (tree : Tree) (row : List ℕ × Item) (start behind : ℕ) → behind ≡ start + (length ((row_layout tree).print row) + 1)
    → behind ≡ start + length ((row_step tree).print (Some row))
unfolding row_step seen_as followed_by limited field
next_behind tree row start behind is =
    let n = length-append (number_bytes w8 69) ((row_layout tree).print row) in
    let m = length-number_bytes w8 tt 69 in
    omega (arith, n, m, is)

-- ---- all paths

-- the paths that were read so far, and where the next one begins
pub record RowsRead (start offset : ℕ) (old now : Option (List ℕ)) (tree : Tree) : Type 0 where
  pub so_far : ReadSoFar row_step old now tree
  pub place : offset ≡ start + length (items_print row_step [] tree)

pub no_row_read : (start : ℕ) (told : Option (List ℕ)) (tree : Tree) → tree ≡ [] → RowsRead start start told told tree
no_row_read start told tree none =
    subst (λ t. RowsRead start start told told t) (sym none) (record { so_far = none_read row_step told; place = omega arith })

pub one_row_read : {start offset : ℕ} {old now new : Option (List ℕ)} {tree : Tree} (offset' : ℕ) (tree' : Tree) (row : List ℕ × Item)
    → RowsRead start offset old now tree → Finds (row_step tree) now (Some row) new → tree' ≡ tree ++ row ∷ []
    → offset' ≡ offset + length ((row_step tree).print (Some row)) → RowsRead start offset' old new tree'
one_row_read {start} {offset} {old} {now} {new} {tree} offset' tree' row read f is here =
    let r = ap length (print-snoc row_step [] tree row) ∙ length-append (items_print row_step [] tree) ((row_step tree).print (Some row)) in
    let place : offset' ≡ start + length (items_print row_step [] (tree ++ row ∷ [])) = omega (arith, here, read.place, r) in
    subst (λ t. RowsRead start offset' old new t) (sym is) (record { so_far = more_read row_step tree row read.so_far f; place = place })

pub rows_stop : {start offset : ℕ} {old now : Option (List ℕ)} {tree : Tree} {fault : ReadStreamFault} → RowsRead start offset old now tree
    → Refuses (row_step tree) offset now fault → Refuses rows_layout start old fault
unfolding rows_layout
rows_stop {tree = tree} read r = stop_refuses row_step tree read.so_far read.place r

pub rows_read : {start offset : ℕ} {old now new : Option (List ℕ)} {tree : Tree} → RowsRead start offset old now tree
    → Finds (row_step tree) now None new → Finds rows_layout old tree new
unfolding rows_layout
rows_read {tree = tree} read f = all_read row_step tree read.so_far f

module _ (next : Option ((List ℕ × Item) × ℕ)) (row : List ℕ × Item) (behind : ℕ) (is : next ≡ Some (row, behind)) where
  pub the_row : {old new : Option (List ℕ)} (tree : Tree)
      → Finds (row_step tree) old (option_map (λ (m : (List ℕ × Item) × ℕ). m.0) next) new
      → Finds (row_step tree) old (Some row) new
  the_row {old} {new} tree f = subst (λ n. Finds (row_step tree) old (option_map (λ (m : (List ℕ × Item) × ℕ). m.0) n) new) is f

  pub the_offset : (tree : Tree) (start : ℕ) → IfSome next (λ m. m.1 ≡ start + length ((row_step tree).print (Some m.0)))
      → behind ≡ start + length ((row_step tree).print (Some row))
  the_offset tree start told = subst (λ n. IfSome n (λ m. m.1 ≡ start + length ((row_step tree).print (Some m.0)))) is told

pub no_next : {old new : Option (List ℕ)} (next : Option ((List ℕ × Item) × ℕ)) (tree : Tree) → next ≡ None
    → Finds (row_step tree) old (option_map (λ (m : (List ℕ × Item) × ℕ). m.0) next) new → Finds (row_step tree) old None new
no_next {old} {new} next tree is f = subst (λ n. Finds (row_step tree) old (option_map (λ (m : (List ℕ × Item) × ℕ). m.0) n) new) is f

-- ---- the stream

pub magic_refuses : {old : Option (List ℕ)} {fault : ReadStreamFault} → Refuses (bytes_field_of 4 (λ front. front ≡ magic)) 0 old fault
    → Refuses stream_layout 0 old fault
unfolding stream_layout
magic_refuses r = seen_refuses _ _ _ (first_refuses _ _ r)

pub rows_refuse : {old a : Option (List ℕ)} {fault : ReadStreamFault} → Finds (bytes_field_of 4 (λ front. front ≡ magic)) old magic a
    → Refuses rows_layout 4 a fault → Refuses stream_layout 0 old fault
unfolding stream_layout
rows_refuse f r = seen_refuses _ _ _ (then_refuses _ _ f (omega arith) r)

pub stream_read : {old a new : Option (List ℕ)} {tree : Tree} → Finds (bytes_field_of 4 (λ front. front ≡ magic)) old magic a
    → Finds rows_layout a tree new → Finds stream_layout old tree new
unfolding stream_layout
stream_read {tree = tree} f r = seen_finds _ _ _ tree refl (then_finds _ _ f r)
