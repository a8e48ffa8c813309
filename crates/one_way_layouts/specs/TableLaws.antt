-- Tables are read in one way.
use Rattle.std.specs.Prelude.{⊤, ◌≡◌, ℕ, ◌==◌, ◌≤◌, List, ◌++◌, length, slice_index, Option, Some, None, if◌then◌else◌}
use Rattle.std.specs.Int.{w8, w16, w32, w64}
use Rattle.std.proofs.Common.{refl, sym, ap, ◌∙◌, arith}
use Rattle.wire_bytes.specs.Layout.{IsNumber, IsText}
use Rattle.wire_bytes.specs.Kind.{IsReadOneWay}
use Rattle.wire_bytes.specs.Grammar.{field, followed_by}
use Rattle.disk_trait.specs.declared.ids.PoolId.{PoolId}
use Rattle.attr_records.specs.PathRuleLaws.{short_path}
use Rattle.attr_records.specs.NameLaws.{short_target}
use Rattle.attr_records.specs.Attributes.{Attributes}
use Rattle.attr_records.specs.declared.nodes.Link.{Link as LinkNode}
use Rattle.attr_tables.specs.declared.records.StoredFile.{StoredFile}
use Rattle.attr_tables.specs.declared.records.Record.{Record}
use Rattle.attr_tables.specs.declared.records.Record.TheVariants.{File, Dir, Link, Deleted}
use Rattle.attr_tables.specs.declared.layouts.TableLayout.{TableLayout}
use Rattle.attr_tables.specs.declared.layouts.TableLayout.TheVariants.{First, Second}
use Rattle.attr_tables.specs.declared.file.TableFile.{TableFile}
use Rattle.attr_tables.specs.Layout.{nanos_bytes, group_bytes, attr_bytes, content_bytes, kind_of, node_bytes, row_bytes, IsNanos, IsGroup, IsAttr, IsContent, IsPath, IsTarget, IsNode, IsRow, IsNext, IsTable, magic_of}
use Rattle.attr_tables.specs.Tables.{rows_grammar, table_grammar}
use Rattle.attr_tables.specs.TableLaws.{sees_table}
use Rattle.one_way_layouts.specs.OneWay.{IsOneWay}
use Rattle.one_way_layouts.specs.OneWayLaws.{narrow_once, field_once, then_once, seen_once, counted_once, peel}
use Rattle.one_way_layouts.specs.Fields.{number_once, number_in_once, signed_once, text_once, bytes_once, id_once}

-- ---- attributes

nanos_once : (layout : TableLayout) → IsReadOneWay (IsNanos layout) (nanos_bytes layout)
nanos_once First = λ a b x y is_a is_b same. (is_a ∙ sym is_b, same)
nanos_once Second = narrow_once _ (λ n is. omega (arith, is)) (number_once w32 tt)

group_once : (layout : TableLayout) → IsReadOneWay (IsGroup layout) (group_bytes layout)
group_once First = λ a b x y is_a is_b same. (is_a ∙ sym is_b, same)
group_once Second = number_once w32 tt

small_mode : (n : ℕ) → n ≤ 4095 → IsNumber w32 n
small_mode n is = omega (arith, is)

attr_once : (layout : TableLayout) → IsReadOneWay (IsAttr layout) (attr_bytes layout)
unfolding attr_bytes
attr_once layout = λ a b x y is_a is_b same.
    let mode = peel _ (number_once w32 tt) a.mode b.mode _ _ x y (small_mode a.mode is_a.mode) (small_mode b.mode is_b.mode) same in
    let uid = peel _ (number_once w32 tt) a.uid b.uid _ _ x y is_a.uid is_b.uid mode.1 in
    let gid = peel _ (number_once w32 tt) a.gid b.gid _ _ x y is_a.gid is_b.gid uid.1 in
    let mtime = peel _ (signed_once w64 tt) a.mtime b.mtime _ _ x y is_a.mtime is_b.mtime gid.1 in
    let nanos = nanos_once layout a.nanos b.nanos x y is_a.nanos is_b.nanos mtime.1 in
    ((λ i. record { mode = mode.0 i; uid = uid.0 i; gid = gid.0 i; mtime = mtime.0 i; nanos = nanos.0 i }), nanos.1)

-- ---- nodes

-- a content of one size
content_once : (m n : ℕ) (c d : Option PoolId) (x y : List ℕ) → m ≡ n → IsContent m c → IsContent n d
    → content_bytes c ++ x ≡ content_bytes d ++ y
    → (c ≡ d) × (x ≡ y)
content_once m n None None x y size is_c is_d same = (refl, same)
content_once m n None (Some d) x y size is_c is_d same = absurd (omega (arith, size, is_c, is_d.0))
content_once m n (Some c) None x y size is_c is_d same = absurd (omega (arith, size, is_c.0, is_d))
content_once m n (Some c) (Some d) x y size is_c is_d same =
    let id = id_once c d x y is_c.1.digest is_d.1.digest is_c.1.extension is_d.1.extension same in (ap (λ (e : PoolId). Some e) id.0, id.1)

file_once : (layout : TableLayout) (a b : StoredFile) (x y : List ℕ) → IsNode layout (File a) → IsNode layout (File b)
    → node_bytes layout (File a) ++ x ≡ node_bytes layout (File b) ++ y → (a ≡ b) × (x ≡ y)
file_once layout a b x y is_a is_b same =
    let attr = peel _ (attr_once layout) a.attr b.attr _ _ x y is_a.0 is_b.0 same in
    let group = peel _ (group_once layout) a.group b.group _ _ x y is_a.1 is_b.1 attr.1 in
    let size = peel _ (number_once w64 tt) a.size b.size _ _ x y is_a.2 is_b.2 group.1 in
    let content = content_once a.size b.size a.content b.content x y size.0 is_a.3 is_b.3 size.1 in
    ((λ i. record { attr = attr.0 i; group = group.0 i; size = size.0 i; content = content.0 i }), content.1)

counted_target : (target : List ℕ) → IsTarget target → IsText w16 target
counted_target target kept = let n : length target ≤ 4096 = short_target target kept in omega arith

link_once : (layout : TableLayout) (a b : LinkNode) (x y : List ℕ) → IsNode layout (Link a) → IsNode layout (Link b)
    → node_bytes layout (Link a) ++ x ≡ node_bytes layout (Link b) ++ y → (a ≡ b) × (x ≡ y)
link_once layout a b x y is_a is_b same =
    let attr = peel _ (attr_once layout) a.attr b.attr _ _ x y is_a.0 is_b.0 same in
    let target = text_once w16 tt a.target b.target x y (counted_target a.target is_a.1) (counted_target b.target is_b.1) attr.1 in
    ((λ i. record { attr = attr.0 i; target = target.0 i }), target.1)

-- a node of one kind
node_once : (layout : TableLayout) (a b : Record) (x y : List ℕ) → kind_of a ≡ kind_of b → IsNode layout a → IsNode layout b
    → node_bytes layout a ++ x ≡ node_bytes layout b ++ y → (a ≡ b) × (x ≡ y)
node_once layout (File a) (File b) x y kind is_a is_b same =
    let r = file_once layout a b x y is_a is_b same in (ap (λ (f : StoredFile). File f) r.0, r.1)
node_once layout (Dir a) (Dir b) x y kind is_a is_b same =
    let r = attr_once layout a.attr b.attr x y is_a is_b same in (ap (λ (attr : Attributes). Dir (record { attr = attr })) r.0, r.1)
node_once layout (Link a) (Link b) x y kind is_a is_b same =
    let r = link_once layout a b x y is_a is_b same in (ap (λ (l : LinkNode). Link l) r.0, r.1)
node_once layout Deleted Deleted x y kind is_a is_b same = (refl, same)
node_once layout (File a) (Dir b) x y kind is_a is_b same = absurd (omega (arith, kind))
node_once layout (File a) (Link b) x y kind is_a is_b same = absurd (omega (arith, kind))
node_once layout (File a) Deleted x y kind is_a is_b same = absurd (omega (arith, kind))
node_once layout (Dir a) (File b) x y kind is_a is_b same = absurd (omega (arith, kind))
node_once layout (Dir a) (Link b) x y kind is_a is_b same = absurd (omega (arith, kind))
node_once layout (Dir a) Deleted x y kind is_a is_b same = absurd (omega (arith, kind))
node_once layout (Link a) (File b) x y kind is_a is_b same = absurd (omega (arith, kind))
node_once layout (Link a) (Dir b) x y kind is_a is_b same = absurd (omega (arith, kind))
node_once layout (Link a) Deleted x y kind is_a is_b same = absurd (omega (arith, kind))
node_once layout Deleted (File b) x y kind is_a is_b same = absurd (omega (arith, kind))
node_once layout Deleted (Dir b) x y kind is_a is_b same = absurd (omega (arith, kind))
node_once layout Deleted (Link b) x y kind is_a is_b same = absurd (omega (arith, kind))

-- ---- rows

counted_path : (path : List ℕ) → IsPath path → IsText w16 path
counted_path path kept = let n : length path ≤ 4096 = short_path path kept in omega arith

small_kind : (node : Record) → IsNumber w8 (kind_of node)
small_kind (File file) = omega arith
small_kind (Dir dir) = omega arith
small_kind (Link link) = omega arith
small_kind Deleted = omega arith

pub row_once : (layout : TableLayout) → IsReadOneWay (IsRow layout) (row_bytes layout)
unfolding row_bytes
row_once layout = λ a b x y is_a is_b same.
    let kind = peel _ (number_once w8 tt) (kind_of a.1) (kind_of b.1) _ _ x y (small_kind a.1) (small_kind b.1) same in
    let path = peel _ (text_once w16 tt) a.0 b.0 _ _ x y (counted_path a.0 is_a.path) (counted_path b.0 is_b.path) kind.1 in
    let node = node_once layout a.1 b.1 x y kind.0 is_a.node is_b.node path.1 in
    ((λ i. (path.0 i, node.0 i)), node.1)

rows_once : (layout : TableLayout) → IsOneWay (rows_grammar layout)
rows_once layout = counted_once (IsNext layout) (row_bytes layout) (λ before. narrow_once _ (λ row is. is.0) (row_once layout)) w32 (IsNumber w32)
    (number_in_once w32 (IsNumber w32) tt (λ n is. is))

-- ---- tables

layout_at : List ℕ → TableLayout
layout_at bytes = if slice_index bytes 3 == 49 then First else Second

layout_back : (layout : TableLayout) → layout ≡ layout_at (magic_of layout)
unfolding layout_at
layout_back First = refl
layout_back Second = refl

four_bytes : (layout : TableLayout) → length (magic_of layout) ≡ 4
four_bytes First = refl
four_bytes Second = refl

magic_layout_once : IsReadOneWay (λ _. ⊤) magic_of
magic_layout_once = λ a b x y is_a is_b same.
    let bytes = bytes_once 4 (magic_of a) (magic_of b) x y (four_bytes a) (four_bytes b) same in
    (layout_back a ∙ ap layout_at bytes.0 ∙ sym (layout_back b), bytes.1)

pub table_once : IsOneWay table_grammar
table_once = seen_once (followed_by (field (λ _. ⊤) magic_of) rows_grammar) (λ (file : TableFile). IsTable file.layout file.table)
    (λ file. (file.layout, file.table)) (λ p. record { layout = p.0; table = p.1 }) sees_table
    (then_once (field (λ _. ⊤) magic_of) rows_grammar (field_once (λ _. ⊤) magic_of magic_layout_once) (λ layout fits. rows_once layout))
