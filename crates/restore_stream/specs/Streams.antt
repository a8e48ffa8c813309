-- The layouts of a stream's parts.
--     attr_layout, node_layout, entry_layout, piece_layout      parts of frames
--     pieces_layout, row_layout      the pieces of a file; a path with what stands at it
--     stream_layout      RST2, the paths, and the end
use Rattle.std.specs.Prelude.{⊤, ◌≡◌, ℕ, ◌+◌, ◌-◌, ◌≤◌, ◌==◌, nat_le, min, true, ℤ, List, length, Option, Some, None, FitsSigned, ◌⊎◌}
use Rattle.std.specs.List.{concat}
use Rattle.std.specs.Int.{Width, w8, w16, w32, w64}
use Rattle.std.proofs.Common.{refl, sym, ap, ◌∙◌}
use Rattle.wire_bytes.specs.Layout.{IsFieldWidth, number_bytes, signed_bytes, text_bytes, IsNumber, IsText, HasLength}
use Rattle.wire_bytes.specs.Kind.{IsReadOneWay}
use Rattle.wire_bytes.proofs.Field.{read_one_way, bytes_field}
use Rattle.wire_bytes.proofs.Numbers.{number_field}
use Rattle.wire_bytes.proofs.Signed.{signed_field}
use Rattle.wire_bytes.proofs.Texts.{text_field}
use Rattle.attr_records.specs.Attributes.{Attributes}
use Rattle.attr_records.specs.declared.nodes.Item.{Item}
use Rattle.attr_records.specs.declared.nodes.Item.TheVariants as I
use Rattle.attr_records.specs.Items.{Tree}
use Rattle.attr_records.specs.PathRules.{broken_path_rule}
use Rattle.attr_records.specs.Names.{is_link_target}
use Rattle.tree_frames.specs.declared.nodes.Node.{Node}
use Rattle.tree_frames.specs.declared.nodes.Node.TheVariants as N
use Rattle.tree_frames.specs.Frames.{node_of, bytes_of, pieces}
use Rattle.tree_frames.specs.PieceLaws.{concat-pieces}
use Rattle.restore_stream.specs.Layouts.{kind_of, entry_bytes, magic}
use Rattle.restore_stream.specs.Trees.{may_follow}
use Rattle.restore_stream.specs.Cuts.{Layout, field, nothing, chosen, followed_by, seen_as}
use Rattle.restore_stream.specs.Sequences.{sequence}

-- ---- fields

pub number_once : (w : Width) → IsFieldWidth w → IsReadOneWay (IsNumber w) (number_bytes w)
number_once w is = read_one_way (number_field w is).reads

pub signed_once : (w : Width) → IsFieldWidth w → IsReadOneWay (FitsSigned w) (signed_bytes w)
signed_once w is = read_one_way (signed_field w is).reads

pub text_once : (w : Width) → IsFieldWidth w → IsReadOneWay (IsText w) (text_bytes w)
text_once w is = read_one_way (text_field w is).reads

pub bytes_once : (count : ℕ) → IsReadOneWay (HasLength count) (λ bytes. bytes)
bytes_once count = read_one_way (bytes_field count).reads

-- a field of a width, of which those fit of which P holds
unfoldable pub limited : {V : Type 0} (Is : V → Type 0) (print : V → List ℕ) → IsReadOneWay Is print → (V → Type 0) → Layout V
limited Is print one P = field Is (λ value. Is value × P value) print one (λ value fits. fits.0)

abbrev pub u8_field : (ℕ → Type 0) → Layout ℕ
u8_field P = limited (IsNumber w8) (number_bytes w8) (number_once w8 tt) P

abbrev pub u16_field : (ℕ → Type 0) → Layout ℕ
u16_field P = limited (IsNumber w16) (number_bytes w16) (number_once w16 tt) P

abbrev pub u32_field : (ℕ → Type 0) → Layout ℕ
u32_field P = limited (IsNumber w32) (number_bytes w32) (number_once w32 tt) P

abbrev pub u64_field : (ℕ → Type 0) → Layout ℕ
u64_field P = limited (IsNumber w64) (number_bytes w64) (number_once w64 tt) P

abbrev pub i64_field : (ℤ → Type 0) → Layout ℤ
i64_field P = limited (FitsSigned w64) (signed_bytes w64) (signed_once w64 tt) P

abbrev pub text_field16 : (List ℕ → Type 0) → Layout (List ℕ)
text_field16 P = limited (IsText w16) (text_bytes w16) (text_once w16 tt) P

abbrev pub bytes_field_of : ℕ → (List ℕ → Type 0) → Layout (List ℕ)
bytes_field_of count P = limited (HasLength count) (λ bytes. bytes) (bytes_once count) P

-- one field behind another in a frame, whose faults are told at the frame's first byte
abbrev pub then_ : {A B : Type 0} → Layout A → (A → Layout B) → Layout (A × B)
then_ {A} {B} first next = followed_by (λ (a : A). 0) first next

pub inside : {A : Type 0} (a b : A) → Some a ≡ Some b → a ≡ b
inside a b e = cc

-- ---- entries

abbrev pub Five : Type 0
Five = ℕ × (ℕ × (ℕ × (ℤ × ℕ)))

abbrev pub attr_of : Five → Attributes
attr_of p = record { mode = p.0; uid = p.1.0; gid = p.1.1.0; mtime = p.1.1.1.0; nanos = p.1.1.1.1 }

abbrev pub attr_fields : Layout Five
attr_fields =
    then_ (u32_field (λ mode. mode ≤ 4095)) (λ _. then_ (u32_field (λ _. ⊤)) (λ _. then_ (u32_field (λ _. ⊤)) (λ _.
    then_ (i64_field (λ _. ⊤)) (λ _. u32_field (λ nanos. nanos ≤ 999999999)))))

-- mode, uid, gid, mtime, nanos
unfoldable pub attr_layout : Layout Attributes
attr_layout =
    seen_as attr_fields (λ attr. Some (attr.mode, (attr.uid, (attr.gid, (attr.mtime, attr.nanos))))) attr_of
    (λ attr p e. ap attr_of (inside _ _ e))

abbrev pub file_part : Node → Option (Attributes × (ℕ × ℕ))
file_part (N.File file) = Some (file.attr, (file.group, file.size))
file_part (N.Dir dir) = None
file_part (N.Link link) = None

abbrev pub dir_part : Node → Option Attributes
dir_part (N.File file) = None
dir_part (N.Dir dir) = Some dir.attr
dir_part (N.Link link) = None

abbrev pub link_part : Node → Option (Attributes × List ℕ)
link_part (N.File file) = None
link_part (N.Dir dir) = None
link_part (N.Link link) = Some (link.attr, link.target)

abbrev pub file_made : Attributes × (ℕ × ℕ) → Node
file_made p = N.File (record { attr = p.0; group = p.1.0; size = p.1.1 })

abbrev pub dir_made : Attributes → Node
dir_made attr = N.Dir (record { attr = attr })

abbrev pub link_made : Attributes × List ℕ → Node
link_made p = N.Link (record { attr = p.0; target = p.1 })

pub file_is : (node : Node) (p : Attributes × (ℕ × ℕ)) → file_part node ≡ Some p → node ≡ file_made p
file_is (N.File file) p e = ap file_made (inside _ _ e)
file_is (N.Dir dir) p e = cc
file_is (N.Link link) p e = cc

pub dir_is : (node : Node) (p : Attributes) → dir_part node ≡ Some p → node ≡ dir_made p
dir_is (N.File file) p e = cc
dir_is (N.Dir dir) p e = ap dir_made (inside _ _ e)
dir_is (N.Link link) p e = cc

pub link_is : (node : Node) (p : Attributes × List ℕ) → link_part node ≡ Some p → node ≡ link_made p
link_is (N.File file) p e = cc
link_is (N.Dir dir) p e = cc
link_is (N.Link link) p e = ap link_made (inside _ _ e)

abbrev pub IsTarget : List ℕ → Type 0
IsTarget target = is_link_target target ≡ true

abbrev pub file_layout : Layout Node
file_layout = seen_as (then_ attr_layout (λ _. then_ (u32_field (λ _. ⊤)) (λ _. u64_field (λ _. ⊤)))) file_part file_made file_is

abbrev pub dir_layout : Layout Node
dir_layout = seen_as attr_layout dir_part dir_made dir_is

abbrev pub link_layout : Layout Node
link_layout = seen_as (then_ attr_layout (λ _. text_field16 IsTarget)) link_part link_made link_is

-- what stands behind the path, by kind: 1 File, 2 Dir, 3 Link
unfoldable pub node_layout : ℕ → Layout Node
node_layout kind = chosen (kind == 1) file_layout (chosen (kind == 2) dir_layout link_layout)

abbrev pub IsKind : ℕ → Type 0
IsKind kind = (1 ≤ kind) × (kind ≤ 3)

-- a path that breaks no rule, and may follow those of a tree
abbrev pub IsNextPath : Tree → List ℕ → Type 0
IsNextPath tree path = (broken_path_rule path ≡ None) × (may_follow tree path ≡ true)

-- kind, path of which P holds, and what stands behind it
unfoldable pub entry_of : (List ℕ → Type 0) → Layout (List ℕ × Node)
entry_of P =
    seen_as (then_ (u8_field IsKind) (λ kind. then_ (text_field16 P) (λ _. node_layout kind)))
    (λ entry. Some (kind_of entry.1, (entry.0, entry.1))) (λ p. p.1) (λ entry p e. ap (λ q. q.1) (inside _ _ e))

-- the same of a path that may follow those of a tree
abbrev pub entry_layout : Tree → Layout (List ℕ × Node)
entry_layout tree = entry_of (IsNextPath tree)

-- ---- pieces

-- a piece of this many bytes
unfoldable pub piece_layout : ℕ → Layout (List ℕ)
piece_layout count =
    seen_as (then_ (u8_field (λ tag. tag ≡ 68)) (λ _. then_ (u32_field (λ n. n ≡ count)) (λ n. bytes_field_of n (λ _. ⊤))))
    (λ bytes. Some (68, (length bytes, bytes))) (λ p. p.1.1) (λ bytes p e. ap (λ q. q.1.1) (inside _ _ e))

-- one more item
abbrev pub one_more : {A : Type 0} → Layout A → Layout (Option A)
one_more {A} layout = seen_as layout (λ (next : Option A). next) Some (λ next a e. e)

-- as many bytes as are left of a file, up to 65,536
abbrev pub piece_size : ℕ → List (List ℕ) → ℕ
piece_size size done = min 65536 (size - length (concat done))

unfoldable pub piece_step : ℕ → List (List ℕ) → Layout (Option (List ℕ))
piece_step size done = chosen (nat_le size (length (concat done))) (nothing None) (one_more (piece_layout (piece_size size done)))

-- the pieces of a file of a size
unfoldable pub pieces_layout : ℕ → Layout (List (List ℕ))
pieces_layout size = sequence (piece_step size)

-- ---- paths

abbrev pub size_of : Node → ℕ
size_of (N.File file) = file.size
size_of (N.Dir dir) = 0
size_of (N.Link link) = 0

abbrev pub item_of : Node → List ℕ → Item
item_of (N.File file) bytes = I.File (record { attr = file.attr; group = file.group; bytes = bytes })
item_of (N.Dir dir) bytes = I.Dir dir
item_of (N.Link link) bytes = I.Link link

abbrev pub row_of : (List ℕ × Node) × List (List ℕ) → List ℕ × Item
row_of p = (p.0.0, item_of p.0.1 (concat p.1))

-- an item is its node and its bytes
pub item_is : (item : Item) → item ≡ item_of (node_of item) (concat (pieces (bytes_of item)))
item_is (I.File file) = ap (λ (bytes : List ℕ). I.File (record { attr = file.attr; group = file.group; bytes = bytes }))
    (sym (concat-pieces file.bytes))
item_is (I.Dir dir) = refl
item_is (I.Link link) = refl

-- an entry behind its first byte, and the pieces of its file
unfoldable pub row_layout : Tree → Layout (List ℕ × Item)
row_layout tree =
    seen_as (followed_by (λ entry. length (entry_bytes entry) + 1) (entry_layout tree) (λ entry. pieces_layout (size_of entry.1)))
    (λ row. Some ((row.0, node_of row.1), pieces (bytes_of row.1))) row_of
    (λ row p e. ap (λ item. (row.0, item)) (item_is row.1) ∙ ap row_of (inside _ _ e))

abbrev pub Next : Type 0
Next = Option (List ℕ × Item)

-- an entry begins with E, and the end is a Z
abbrev pub tag_of : Next → ℕ
tag_of None = 90
tag_of (Some row) = 69

abbrev pub end_part : Tree → Next → Option ℕ
end_part tree None = Some (length tree)
end_part tree (Some row) = None

abbrev pub no_row : ℕ → Next
no_row count = None

pub end_is : (tree : Tree) (next : Next) (count : ℕ) → end_part tree next ≡ Some count → next ≡ no_row count
end_is tree None count e = refl
end_is tree (Some row) count e = cc

-- how many paths the tree has
unfoldable pub end_layout : Tree → Layout Next
end_layout tree = seen_as (u32_field (λ count. count ≡ length tree)) (end_part tree) no_row (end_is tree)

abbrev pub behind_tag : Tree → ℕ → Layout Next
behind_tag tree tag = chosen (tag == 69) (one_more (row_layout tree)) (end_layout tree)

-- a path that comes next, or the end
unfoldable pub row_step : Tree → Layout Next
row_step tree =
    seen_as (then_ (u8_field (λ tag. (tag ≡ 69) ⊎ (tag ≡ 90))) (behind_tag tree)) (λ next. Some (tag_of next, next)) (λ p. p.1)
    (λ next p e. ap (λ q. q.1) (inside _ _ e))

unfoldable pub rows_layout : Layout Tree
rows_layout = sequence row_step

-- RST2, the paths, and the end
unfoldable pub stream_layout : Layout Tree
stream_layout =
    seen_as (followed_by (λ (front : List ℕ). 4) (bytes_field_of 4 (λ front. front ≡ magic)) (λ _. rows_layout))
    (λ tree. Some (magic, tree)) (λ p. p.1)
    (λ tree p e. ap (λ q. q.1) (inside _ _ e))
