-- A directory's listing, as the body of the answer says it.
--     entries_of      the entries that bytes list as JSON
use Rattle.std.specs.Prelude.{ℕ, ℤ, nat_le, List, [], ◌∷◌, Option, Some, None, option_map, option_and_then, bytes_eq, codes, if◌then◌else◌}
use Rattle.attr_records.specs.Attributes.{Attributes}
use Rattle.attr_records.specs.Names.{is_link_target}
use Rattle.attr_records.specs.PathRules.{broken_path_rule}
use Rattle.attr_records.specs.declared.paths.BadPath.{BadPath}
use Rattle.tree_frames.specs.declared.nodes.Node.{Node}
use Rattle.tree_frames.specs.declared.nodes.Node.TheVariants.{File, Dir, Link}
use Rattle.http_query.specs.Numbers.{mode_of}
use Rattle.office_model.specs.declared.answer.NamedNode.{NamedNode}
use Rattle.serde_json.specs.Data.{Data, Items, no_items, item}
use Rattle.serde_json.specs.Find.{get, as_number, as_i64, as_array}
use Rattle.json_back.specs.Reading.{data_of}
use Rattle.listing_back.specs.Members.{count_at, number_at, text_at}

-- ---- members

-- an integer of 64 bits
abbrev pub integer_at : List ℕ → Data → Option ℤ
integer_at key value = option_and_then as_i64 (option_and_then as_number (get key value))

abbrev pub mode_at : Data → Option ℕ
mode_at value = option_and_then mode_of (text_at (codes "mode") value)

abbrev pub if_second : ℕ → Option ℕ
if_second n = if nat_le n 999999999 then Some n else None

abbrev pub nanos_at : Data → Option ℕ
nanos_at value = option_and_then if_second (number_at (codes "nanos") value)

-- ---- nodes

abbrev pub attributes_in : Data → Option Attributes
attributes_in value =
    option_and_then (λ mode. option_and_then (λ uid. option_and_then (λ gid. option_and_then (λ mtime. option_map
    (λ nanos. record { mode = mode; uid = uid; gid = gid; mtime = mtime; nanos = nanos })
    (nanos_at value)) (integer_at (codes "mtime") value)) (number_at (codes "gid") value)) (number_at (codes "uid") value)) (mode_at value)

abbrev pub file_in : Data → Option Node
file_in value =
    option_and_then (λ attr. option_and_then (λ group. option_map (λ size. File (record { attr = attr; group = group; size = size }))
    (count_at (codes "size") value)) (number_at (codes "group") value)) (attributes_in value)

abbrev pub dir_in : Data → Option Node
dir_in value = option_map (λ attr. Dir (record { attr = attr })) (attributes_in value)

abbrev pub target_of : List ℕ → Option (List ℕ)
target_of text = if is_link_target text then Some text else None

abbrev pub link_in : Data → Option Node
link_in value =
    option_and_then (λ attr. option_map (λ target. Link (record { attr = attr; target = target }))
    (option_and_then target_of (text_at (codes "target") value))) (attributes_in value)

-- the node of a kind
abbrev pub node_of_kind : Data → List ℕ → Option Node
node_of_kind value kind =
    if bytes_eq kind (codes "file") then file_in value
    else if bytes_eq kind (codes "dir") then dir_in value
    else if bytes_eq kind (codes "link") then link_in value
    else None

abbrev pub node_in : Data → Option Node
node_in value = option_and_then (node_of_kind value) (text_at (codes "kind") value)

-- ---- entries

abbrev pub path_if : List ℕ → Option BadPath → Option (List ℕ)
path_if text None = Some text
path_if text (Some rule) = None

-- the path that a text is
abbrev pub path_of : List ℕ → Option (List ℕ)
path_of text = path_if text (broken_path_rule text)

abbrev pub entry_in : Data → Option NamedNode
entry_in value =
    option_and_then (λ name. option_map (λ node. record { name = name; node = node }) (node_in value))
    (option_and_then path_of (text_at (codes "name") value))

-- each item as an entry
abbrev pub entries_in : Items → Option (List NamedNode)
entries_in no_items = Some []
entries_in (item value values) = option_and_then (λ entry. option_map (λ entries. entry ∷ entries) (entries_in values)) (entry_in value)

abbrev pub listed_in : Data → Option (List NamedNode)
listed_in value = option_and_then entries_in (option_and_then as_array (get (codes "entries") value))

-- the entries that bytes list as JSON
abbrev pub entries_of : List ℕ → Option (List NamedNode)
entries_of bytes = option_and_then listed_in (data_of bytes)
