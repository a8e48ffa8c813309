-- A directory's listing is read back.
use Rattle.std.proofs.Common.{◌≡◌, ℕ, ℤ, pos, negsuc, ◌+◌, ◌-◌, ◌*◌, ◌/◌, ◌%◌, ◌≤◌, ◌<◌, ◌^◌, true, false, Bool, not, ◌&&◌, nat_le, nat_lt, if◌then◌else◌, List, [], ◌∷◌, map, length, Option, Some, None, option_map, option_and_then, IsUtf8, codes, refl, sym, ap, ◌∙◌, arith}
use Rattle.std.specs.List.{AllByRecursion}
use Rattle.std.proofs.lemmas.Bool.Decides.{nat_tests}
use Rattle.std.proofs.lemmas.Str.{IsUtf8-from_is_utf8}
use Rattle.json.proofs.Printed.Utf8.{are_ascii, IsUtf8-are_ascii}
use Rattle.attr_records.specs.Attributes.{Attributes}
use Rattle.attr_records.specs.Names.{is_link_target}
use Rattle.attr_records.specs.PathRules.{broken_path_rule}
use Rattle.attr_records.specs.PathRuleLaws.{rules_kept}
use Rattle.tree_frames.specs.declared.nodes.FileNode.{FileNode}
use Rattle.attr_records.specs.declared.nodes.Dir.{Dir as DirRecord}
use Rattle.attr_records.specs.declared.nodes.Link.{Link as LinkRecord}
use Rattle.tree_frames.specs.declared.nodes.Node.{Node}
use Rattle.tree_frames.specs.declared.nodes.Node.TheVariants.{File, Dir, Link}
use Rattle.http_query.specs.Numbers.{mode_of, octal_value, is_octal_digit}
use Rattle.office_model.specs.declared.answer.NamedNode.{NamedNode}
use Rattle.reply_bodies.specs.Objects.{json_text, json_integer}
use Rattle.reply_bodies.specs.Replies.{octal, node_data, entry_data, entries_data}
use Rattle.reply_bodies.proofs.Names.{octal_is_text, target_is_text}
use Rattle.serde_json.specs.Data.{depth, items_depth}
use Rattle.serde_json.specs.Find.{of_integer, as_i64}
use Rattle.serde_json.specs.View.{items_of}
use Rattle.json_back.specs.Canonical.{IsCanonical, AreCanonical, HasTexts, ItemsHaveTexts}
use Rattle.json_back.proofs.BackLaws.{bytes-read}
use Rattle.listing_back.specs.Members.{if_small}
use Rattle.entries_back.specs.Entries.{if_second, target_of, node_in, path_if, path_of, entry_in, entries_in, listed_in}
use Rattle.entries_back.specs.Laws.{IsLong, AreAttributes, IsNode, IsEntry, EntriesReadBack}

-- ---- values

digits-back : (a b c d : ℕ) → a < 8 → b < 8 → c < 8 → d < 8
    → mode_of ((48 + a) ∷ (48 + b) ∷ (48 + c) ∷ (48 + d) ∷ []) ≡ Some (a * 512 + (b * 64 + (c * 8 + d)))
unfolding mode_of
digits-back a b c d p q r s =
    ap (λ (all : Bool). if all then Some value else None) (λ i. eight a p i && (eight b q i && (eight c r i && (eight d s i && true)))) ∙ ap Some (sum a b c d)
  where
    value : ℕ
    value = octal_value ((48 + a) ∷ (48 + b) ∷ (48 + c) ∷ (48 + d) ∷ [])

    eight : (n : ℕ) → n < 8 → is_octal_digit (48 + n) ≡ true
    eight n h = grind (arith, nat_tests)

    sum : (a b c d : ℕ) → (48 + a - 48) * 512 + ((48 + b - 48) * 64 + ((48 + c - 48) * 8 + ((48 + d - 48) * 1 + 0))) ≡ a * 512 + (b * 64 + (c * 8 + d))
    sum a b c d = omega arith

digit-below : (n : ℕ) → n % 8 < 8
digit-below n = omega arith

mode-back : (mode : ℕ) → mode ≤ 4095 → mode_of (octal mode) ≡ Some mode
mode-back mode small =
    digits-back (mode / 512 % 8) (mode / 64 % 8) (mode / 8 % 8) (mode % 8) (digit-below (mode / 512)) (digit-below (mode / 64)) (digit-below (mode / 8)) (digit-below mode)
    ∙ ap Some (whole mode small)
  where
    whole : (n : ℕ) → n ≤ 4095 → n / 512 % 8 * 512 + (n / 64 % 8 * 64 + (n / 8 % 8 * 8 + n % 8)) ≡ n
    whole n h = omega arith

below : (a b : ℕ) → a < b → nat_lt a b ≡ true
below a b h = grind (arith, nat_tests)

small-back : (n : ℕ) → n < 2 ^ 32 → if_small n ≡ Some n
small-back n small = ap (λ b. if b then Some n else None) (below n (2 ^ 32) small)

second-back : (n : ℕ) → n ≤ 999999999 → option_and_then if_second (if_small n) ≡ Some n
second-back n small =
    ap (option_and_then if_second) (small-back n (omega (arith, small))) ∙ ap (λ b. if b then Some n else None) (within n small)
  where
    within : (n : ℕ) → n ≤ 999999999 → nat_le n 999999999 ≡ true
    within n h = grind (arith, nat_tests)

time-back : (z : ℤ) → IsLong z → as_i64 (of_integer z) ≡ Some z
time-back (pos n) h = ap (λ b. if b then Some (pos n) else None) (below n (2 ^ 63) h)
time-back (negsuc n) h = refl

path-back : (path : List ℕ) → broken_path_rule path ≡ None → path_of path ≡ Some path
path-back path e = ap (path_if path) e

target-back : (target : List ℕ) → is_link_target target ≡ true → target_of target ≡ Some target
target-back target e = ap (λ b. if b then Some target else None) e

-- the attributes that these values make
abbrev made : Option ℕ → Option ℕ → Option ℕ → Option ℤ → Option ℕ → Option Attributes
made mode uid gid mtime nanos =
    option_and_then (λ m. option_and_then (λ u. option_and_then (λ g. option_and_then (λ t. option_map
    (λ n. record { mode = m; uid = u; gid = g; mtime = t; nanos = n }) nanos) mtime) gid) uid) mode

attributes-made : (attr : Attributes) → AreAttributes attr
    → made (mode_of (octal attr.mode)) (if_small attr.uid) (if_small attr.gid) (as_i64 (of_integer attr.mtime)) (option_and_then if_second (if_small attr.nanos)) ≡ Some attr
attributes-made attr h = λ i. made (mode-back attr.mode h.mode i) (small-back attr.uid h.uid i) (small-back attr.gid h.gid i) (time-back attr.mtime h.mtime i) (second-back attr.nanos h.nanos i)

-- ---- entries

node-back : (name : List ℕ) (node : Node) → IsNode node → node_in (node_data (Some name) node) ≡ Some node
node-back name (File file) h =
    λ i. option_and_then (λ attr. option_and_then (λ g. Some (File (record { attr = attr; group = g; size = file.size }))) (small-back file.group h.1 i)) (attributes-made file.attr h.0 i)
node-back name (Dir dir) h = λ i. option_map (λ attr. Dir (record { attr = attr })) (attributes-made dir.attr h i)
node-back name (Link link) h =
    λ i. option_and_then (λ attr. option_map (λ target. Link (record { attr = attr; target = target })) (target-back link.target h.1 i)) (attributes-made link.attr h.0 i)

-- a name and the node that it names
abbrev named_node : Option (List ℕ) → Option Node → Option NamedNode
named_node name node = option_and_then (λ n. option_map (λ x. record { name = n; node = x }) node) name

entry-with : (name : List ℕ) (node : Node) → entry_in (node_data (Some name) node) ≡ named_node (path_of name) (node_in (node_data (Some name) node))
entry-with name (File file) = refl
entry-with name (Dir dir) = refl
entry-with name (Link link) = refl

entry-back : (entry : NamedNode) → IsEntry entry → entry_in (entry_data entry) ≡ Some entry
entry-back entry h =
    entry-with entry.name entry.node ∙ (λ i. named_node (path-back entry.name h.0 i) (node-back entry.name entry.node h.1 i))

all-back : (entries : List NamedNode) → AllByRecursion IsEntry entries → entries_in (items_of (map entry_data entries)) ≡ Some entries
all-back [] h = refl
all-back (entry ∷ entries) h =
    ap (option_and_then (λ e. option_map (λ es. e ∷ es) (entries_in (items_of (map entry_data entries))))) (entry-back entry h.0)
    ∙ ap (option_map (λ es. entry ∷ es)) (all-back entries h.1)

-- ---- what is written is canonical, of UTF-8 and not deep

time-canonical : (z : ℤ) → IsLong z → IsCanonical (json_integer z)
time-canonical (pos n) h = omega (arith, h)
time-canonical (negsuc n) h = h

file-canonical : (name : List ℕ) (file : FileNode) → AreAttributes file.attr → file.group < 2 ^ 32 → file.size < 2 ^ 64
    → IsCanonical (node_data (Some name) (File file))
file-canonical name file h group size = (tt, omega (arith, h.gid), ((refl, tt), omega (arith, group), ((refl, (refl, tt)), tt, ((refl, (refl, (refl, tt))), tt, ((refl, (refl, (refl, (refl, tt)))), time-canonical file.attr.mtime h.mtime, ((refl, (refl, (refl, (refl, (refl, tt))))), tt, ((refl, (refl, (refl, (refl, (refl, (refl, tt)))))), omega (arith, h.nanos), ((refl, (refl, (refl, (refl, (refl, (refl, (refl, tt))))))), size, ((refl, (refl, (refl, (refl, (refl, (refl, (refl, (refl, tt)))))))), omega (arith, h.uid), tt)))))))))

dir-canonical : (name : List ℕ) (dir : DirRecord) → AreAttributes dir.attr → IsCanonical (node_data (Some name) (Dir dir))
dir-canonical name dir h = (tt, omega (arith, h.gid), ((refl, tt), tt, ((refl, (refl, tt)), tt, ((refl, (refl, (refl, tt))), time-canonical dir.attr.mtime h.mtime, ((refl, (refl, (refl, (refl, tt)))), tt, ((refl, (refl, (refl, (refl, (refl, tt))))), omega (arith, h.nanos), ((refl, (refl, (refl, (refl, (refl, (refl, tt)))))), omega (arith, h.uid), tt)))))))

link-canonical : (name : List ℕ) (link : LinkRecord) → AreAttributes link.attr → IsCanonical (node_data (Some name) (Link link))
link-canonical name link h = (tt, omega (arith, h.gid), ((refl, tt), tt, ((refl, (refl, tt)), tt, ((refl, (refl, (refl, tt))), time-canonical link.attr.mtime h.mtime, ((refl, (refl, (refl, (refl, tt)))), tt, ((refl, (refl, (refl, (refl, (refl, tt))))), omega (arith, h.nanos), ((refl, (refl, (refl, (refl, (refl, (refl, tt)))))), tt, ((refl, (refl, (refl, (refl, (refl, (refl, (refl, tt))))))), omega (arith, h.uid), tt))))))))

node-canonical : (name : List ℕ) (node : Node) → IsNode node → IsCanonical (node_data (Some name) node)
node-canonical name (File file) h = file-canonical name file h.0 h.1 h.2
node-canonical name (Dir dir) h = dir-canonical name dir h
node-canonical name (Link link) h = link-canonical name link h.0

all-canonical : (entries : List NamedNode) → AllByRecursion IsEntry entries → AreCanonical (items_of (map entry_data entries))
all-canonical [] h = tt
all-canonical (entry ∷ entries) h = (node-canonical entry.name entry.node h.0.1, all-canonical entries h.1)

key : (text : List ℕ) → are_ascii text ≡ true → IsUtf8 text
key = IsUtf8-are_ascii

octal-utf8 : (mode : ℕ) → IsUtf8 (octal mode)
octal-utf8 mode = IsUtf8-from_is_utf8 (octal mode) (octal_is_text mode)

path-utf8 : (path : List ℕ) → broken_path_rule path ≡ None → IsUtf8 path
path-utf8 path e = IsUtf8-from_is_utf8 path (rules_kept path e).text

file-texts : (name : List ℕ) (file : FileNode) → IsUtf8 name → HasTexts (node_data (Some name) (File file))
file-texts name file named = (key (codes "gid") refl, tt, (key (codes "group") refl, tt, (key (codes "kind") refl, key (codes "file") refl, (key (codes "mode") refl, octal-utf8 file.attr.mode, (key (codes "mtime") refl, tt, (key (codes "name") refl, named, (key (codes "nanos") refl, tt, (key (codes "size") refl, tt, (key (codes "uid") refl, tt, tt)))))))))

dir-texts : (name : List ℕ) (dir : DirRecord) → IsUtf8 name → HasTexts (node_data (Some name) (Dir dir))
dir-texts name dir named = (key (codes "gid") refl, tt, (key (codes "kind") refl, key (codes "dir") refl, (key (codes "mode") refl, octal-utf8 dir.attr.mode, (key (codes "mtime") refl, tt, (key (codes "name") refl, named, (key (codes "nanos") refl, tt, (key (codes "uid") refl, tt, tt)))))))

link-texts : (name : List ℕ) (link : LinkRecord) → IsUtf8 name → IsUtf8 link.target → HasTexts (node_data (Some name) (Link link))
link-texts name link named aimed = (key (codes "gid") refl, tt, (key (codes "kind") refl, key (codes "link") refl, (key (codes "mode") refl, octal-utf8 link.attr.mode, (key (codes "mtime") refl, tt, (key (codes "name") refl, named, (key (codes "nanos") refl, tt, (key (codes "target") refl, aimed, (key (codes "uid") refl, tt, tt))))))))

node-texts : (name : List ℕ) (node : Node) → IsUtf8 name → IsNode node → HasTexts (node_data (Some name) node)
node-texts name (File file) named h = file-texts name file named
node-texts name (Dir dir) named h = dir-texts name dir named
node-texts name (Link link) named h = link-texts name link named (IsUtf8-from_is_utf8 link.target (target_is_text link.target h.1))

all-texts : (entries : List NamedNode) → AllByRecursion IsEntry entries → ItemsHaveTexts (items_of (map entry_data entries))
all-texts [] h = tt
all-texts (entry ∷ entries) h = (node-texts entry.name entry.node (path-utf8 entry.name h.0.0) h.0.1, all-texts entries h.1)

node-shallow : (name : List ℕ) (node : Node) → depth (node_data (Some name) node) ≤ 1
node-shallow name (File file) = omega arith
node-shallow name (Dir dir) = omega arith
node-shallow name (Link link) = omega arith

all-shallow : (entries : List NamedNode) → items_depth (items_of (map entry_data entries)) ≤ 1
all-shallow [] = omega arith
all-shallow (entry ∷ entries) = omega (arith, node-shallow entry.name entry.node, all-shallow entries)

-- ---- the law

pub entries-back : EntriesReadBack
unfolding json_text
entries-back entries h =
    ap (option_and_then listed_in)
    (bytes-read (entries_data entries) (tt, all-canonical entries h, tt) (key (codes "entries") refl, all-texts entries h, tt) (omega (arith, all-shallow entries)))
    ∙ all-back entries h
