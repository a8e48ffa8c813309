-- The test decides whether two nodes are one.
use Rattle.std.specs.Prelude.{◌≡◌, ◌==◌, true, ◌&&◌, bytes_eq}
use Rattle.std.specs.Ordering.{int_eq}
use Rattle.std.specs.Cmp.{first_so, second_so}
use Rattle.std.specs.Cmp.Lexicographic.{bytes_decides}
use Rattle.std.proofs.Common.{refl, ap}
use Rattle.std.proofs.lemmas.Bool.Decides.{Decides-int_eq}
use borrow.Author.Tests.{eqb-true, eq-eqb}
use Rattle.attr_records.specs.Attributes.{Attributes}
use Rattle.attr_records.specs.declared.nodes.File.{File as FileItem}
use Rattle.attr_records.specs.declared.nodes.Dir.{Dir as DirItem}
use Rattle.attr_records.specs.declared.nodes.Link.{Link as LinkItem}
use Rattle.attr_records.specs.declared.nodes.Item.{Item}
use Rattle.attr_records.specs.declared.nodes.Item.TheVariants.{File, Dir, Link}
use Rattle.change_laws.specs.SameItems.{is_same_attr, is_same_item}

same_attr : (a b : Attributes) → is_same_attr a b ≡ true → a ≡ b
same_attr a b e =
    let mode = eqb-true a.mode b.mode (first_so _ _ e) in
    let behind_mode = second_so (a.mode == b.mode) ((a.uid == b.uid) &&
    ((a.gid == b.gid) && (int_eq a.mtime b.mtime && (a.nanos == b.nanos)))) e in
    let uid = eqb-true a.uid b.uid (first_so _ _ behind_mode) in
    let behind_uid = second_so (a.uid == b.uid) ((a.gid == b.gid) && (int_eq a.mtime b.mtime && (a.nanos == b.nanos))) behind_mode in
    let gid = eqb-true a.gid b.gid (first_so _ _ behind_uid) in
    let behind_gid = second_so (a.gid == b.gid) (int_eq a.mtime b.mtime && (a.nanos == b.nanos)) behind_uid in
    let mtime = (Decides-int_eq a.mtime b.mtime).0 (first_so _ _ behind_gid) in
    let nanos = eqb-true a.nanos b.nanos (second_so (int_eq a.mtime b.mtime) (a.nanos == b.nanos) behind_gid) in
    λ i. record { mode = mode i; uid = uid i; gid = gid i; mtime = mtime i; nanos = nanos i }

attr_itself : (a : Attributes) → is_same_attr a a ≡ true
attr_itself a = λ i. eq-eqb a.mode a.mode refl i && (eq-eqb a.uid a.uid refl i &&
    (eq-eqb a.gid a.gid refl i && ((Decides-int_eq a.mtime a.mtime).1 refl i && eq-eqb a.nanos a.nanos refl i)))

same_file : (a b : FileItem) → (is_same_attr a.attr b.attr && ((a.group == b.group) && bytes_eq a.bytes b.bytes)) ≡ true → a ≡ b
same_file a b e =
    let attr = same_attr a.attr b.attr (first_so _ _ e) in
    let rest = second_so (is_same_attr a.attr b.attr) ((a.group == b.group) && bytes_eq a.bytes b.bytes) e in
    let group = eqb-true a.group b.group (first_so _ _ rest) in
    let bytes = (bytes_decides a.bytes b.bytes).0 (second_so (a.group == b.group) (bytes_eq a.bytes b.bytes) rest) in
    λ i. record { attr = attr i; group = group i; bytes = bytes i }

same_dir : (a b : DirItem) → is_same_attr a.attr b.attr ≡ true → a ≡ b
same_dir a b e = let attr = same_attr a.attr b.attr e in λ i. record { attr = attr i }

same_link : (a b : LinkItem) → (is_same_attr a.attr b.attr && bytes_eq a.target b.target) ≡ true → a ≡ b
same_link a b e =
    let attr = same_attr a.attr b.attr (first_so _ _ e) in
    let target = (bytes_decides a.target b.target).0 (second_so (is_same_attr a.attr b.attr) (bytes_eq a.target b.target) e) in
    λ i. record { attr = attr i; target = target i }

-- nodes that the test takes for one are one
pub same_item : (a b : Item) → is_same_item a b ≡ true → a ≡ b
same_item (File a) (File b) e = ap File (same_file a b e)
same_item (Dir a) (Dir b) e = ap Dir (same_dir a b e)
same_item (Link a) (Link b) e = ap Link (same_link a b e)
same_item (File a) (Dir b) e = cc
same_item (File a) (Link b) e = cc
same_item (Dir a) (File b) e = cc
same_item (Dir a) (Link b) e = cc
same_item (Link a) (File b) e = cc
same_item (Link a) (Dir b) e = cc

-- a node is itself by the test
pub item_itself : (a : Item) → is_same_item a a ≡ true
item_itself (File a) = λ i. attr_itself a.attr i && (eq-eqb a.group a.group refl i && (bytes_decides a.bytes a.bytes).1 refl i)
item_itself (Dir a) = attr_itself a.attr
item_itself (Link a) = λ i. attr_itself a.attr i && (bytes_decides a.target a.target).1 refl i
