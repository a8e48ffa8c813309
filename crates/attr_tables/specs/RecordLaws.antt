-- The test decides whether two records are one.
use Rattle.std.specs.Prelude.{◌≡◌, ◌==◌, true, ◌&&◌, Option, Some, None}
use Rattle.std.specs.Ordering.{int_eq}
use Rattle.std.specs.Option.{option_eq}
use Rattle.std.specs.Cmp.{first_so, second_so}
use Rattle.std.proofs.Common.{refl, ap}
use Rattle.std.proofs.lemmas.Bool.Decides.{Decides-int_eq}
use Rattle.std.specs.Cmp.Lexicographic.{bytes_decides}
use borrow.Author.Tests.{eqb-true, eq-eqb}
use Rattle.disk_trait.specs.declared.ids.PoolId.{PoolId}
use Rattle.attr_records.specs.Attributes.{Attributes}
use Rattle.attr_records.specs.declared.nodes.Link.{Link as LinkNode}
use Rattle.attr_tables.specs.declared.records.StoredFile.{StoredFile}
use Rattle.attr_tables.specs.declared.records.Record.{Record}
use Rattle.attr_tables.specs.declared.records.Record.TheVariants.{File, Dir, Link, Deleted}
use Rattle.attr_tables.specs.Records.{is_same_attr, is_same_id, is_same_file, is_same_link, is_same_record}

pub same_attr : (a b : Attributes) → is_same_attr a b ≡ true → a ≡ b
same_attr a b e =
    let mode = eqb-true a.mode b.mode (first_so _ _ e) in
    let behind_mode = second_so (a.mode == b.mode) ((a.uid == b.uid) &&
    ((a.gid == b.gid) && (int_eq a.mtime b.mtime && (a.nanos == b.nanos)))) e in
    let uid = eqb-true a.uid b.uid (first_so _ _ behind_mode) in
    let behind_uid = second_so (a.uid == b.uid) ((a.gid == b.gid) && (int_eq a.mtime b.mtime && (a.nanos == b.nanos))) behind_mode in
    let gid = eqb-true a.gid b.gid (first_so _ _ behind_uid) in
    let behind_gid = second_so (a.gid == b.gid) (int_eq a.mtime b.mtime && (a.nanos == b.nanos)) behind_uid in
    let mtime = (Decides-int_eq a.mtime b.mtime).0 (first_so _ _ behind_gid) in
    let nanos = eqb-true a.nanos b.nanos (second_so (int_eq a.mtime b.mtime) (a.nanos == b.nanos) behind_gid) in
    λ i. record { mode = mode i; uid = uid i; gid = gid i; mtime = mtime i; nanos = nanos i }

pub attr_itself : (a : Attributes) → is_same_attr a a ≡ true
attr_itself a = λ i. eq-eqb a.mode a.mode refl i && (eq-eqb a.uid a.uid refl i &&
    (eq-eqb a.gid a.gid refl i && ((Decides-int_eq a.mtime a.mtime).1 refl i && eq-eqb a.nanos a.nanos refl i)))

pub same_id : (a b : PoolId) → is_same_id a b ≡ true → a ≡ b
same_id a b e =
    let digest = (bytes_decides a.digest b.digest).0 (first_so _ _ e) in
    let extension = eqb-true a.extension b.extension (second_so _ _ e) in
    λ i. record { digest = digest i; extension = extension i }

pub id_itself : (a : PoolId) → is_same_id a a ≡ true
id_itself a = λ i. (bytes_decides a.digest a.digest).1 refl i && eq-eqb a.extension a.extension refl i

same_content : (a b : Option PoolId) → option_eq is_same_id a b ≡ true → a ≡ b
same_content None None e = refl
same_content None (Some b) e = cc
same_content (Some a) None e = cc
same_content (Some a) (Some b) e = ap Some (same_id a b e)

content_itself : (a : Option PoolId) → option_eq is_same_id a a ≡ true
content_itself None = refl
content_itself (Some a) = id_itself a

pub same_file : (a b : StoredFile) → is_same_file a b ≡ true → a ≡ b
same_file a b e =
    let attr = same_attr a.attr b.attr (first_so _ _ e) in
    let behind_attr = second_so (is_same_attr a.attr b.attr)
    ((a.group == b.group) && ((a.size == b.size) && option_eq is_same_id a.content b.content)) e in
    let group = eqb-true a.group b.group (first_so _ _ behind_attr) in
    let behind_group = second_so (a.group == b.group) ((a.size == b.size) && option_eq is_same_id a.content b.content) behind_attr in
    let size = eqb-true a.size b.size (first_so _ _ behind_group) in
    let content = same_content a.content b.content (second_so (a.size == b.size) (option_eq is_same_id a.content b.content) behind_group) in
    λ i. record { attr = attr i; group = group i; size = size i; content = content i }

pub file_itself : (a : StoredFile) → is_same_file a a ≡ true
file_itself a = λ i. attr_itself a.attr i && (eq-eqb a.group a.group refl i && (eq-eqb a.size a.size refl i && content_itself a.content i))

pub same_link : (a b : LinkNode) → is_same_link a b ≡ true → a ≡ b
same_link a b e =
    let attr = same_attr a.attr b.attr (first_so _ _ e) in
    let target = (bytes_decides a.target b.target).0 (second_so _ _ e) in
    λ i. record { attr = attr i; target = target i }

-- records that the test takes for one are one
pub same_record : (a b : Record) → is_same_record a b ≡ true → a ≡ b
same_record (File a) (File b) e = ap File (same_file a b e)
same_record (Dir a) (Dir b) e = let attr = same_attr a.attr b.attr e in λ i. Dir (record { attr = attr i })
same_record (Link a) (Link b) e = ap Link (same_link a b e)
same_record Deleted Deleted e = refl
same_record (File a) (Dir b) e = cc
same_record (File a) (Link b) e = cc
same_record (File a) Deleted e = cc
same_record (Dir a) (File b) e = cc
same_record (Dir a) (Link b) e = cc
same_record (Dir a) Deleted e = cc
same_record (Link a) (File b) e = cc
same_record (Link a) (Dir b) e = cc
same_record (Link a) Deleted e = cc
same_record Deleted (File b) e = cc
same_record Deleted (Dir b) e = cc
same_record Deleted (Link b) e = cc

-- a record is itself by the test
pub record_itself : (a : Record) → is_same_record a a ≡ true
record_itself (File a) = file_itself a
record_itself (Dir a) = attr_itself a.attr
record_itself (Link a) = λ i. attr_itself a.attr i && (bytes_decides a.target a.target).1 refl i
record_itself Deleted = refl
