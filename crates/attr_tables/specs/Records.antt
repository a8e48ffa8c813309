-- Records: what a table says of a path.
--     IsSound      a File has a content exactly where its size isn't 0
--     is_same_record      whether two records are one;  RecordLaws say that it decides this
--     is_dir, is_large      as of a tree's nodes
use Rattle.std.specs.Prelude.{◌≡◌, ℕ, ◌<◌, ◌==◌, nat_lt, Bool, true, false, ◌&&◌, Option, Some, None, bytes_eq}
use Rattle.std.specs.Ordering.{int_eq}
use Rattle.std.specs.Option.{option_eq}
use Rattle.disk_trait.specs.declared.ids.PoolId.{PoolId}
use Rattle.attr_records.specs.Attributes.{Attributes}
use Rattle.attr_records.specs.declared.nodes.Link.{Link as LinkNode}
use Rattle.attr_tables.specs.declared.records.StoredFile.{StoredFile}
use Rattle.attr_tables.specs.declared.records.Record.{Record}
use Rattle.attr_tables.specs.declared.records.Record.TheVariants.{File, Dir, Link, Deleted}

-- a content exactly where the size isn't 0
abbrev pub IsContentOf : ℕ → Option PoolId → Type 0
IsContentOf size None = size ≡ 0
IsContentOf size (Some id) = 0 < size

-- a File has a content exactly where its size isn't 0
abbrev pub IsSound : Record → Type 0
IsSound (File file) = IsContentOf file.size file.content
IsSound (Dir dir) = Unit {0}
IsSound (Link link) = Unit {0}
IsSound Deleted = Unit {0}

abbrev pub is_dir : Record → Bool
is_dir (File file) = false
is_dir (Dir dir) = true
is_dir (Link link) = false
is_dir Deleted = false

-- a File of more than 67,108,864 bytes
abbrev pub is_large : Record → Bool
is_large (File file) = nat_lt 67108864 file.size
is_large (Dir dir) = false
is_large (Link link) = false
is_large Deleted = false

abbrev pub is_same_attr : Attributes → Attributes → Bool
is_same_attr a b = (a.mode == b.mode) && ((a.uid == b.uid) && ((a.gid == b.gid) && (int_eq a.mtime b.mtime && (a.nanos == b.nanos))))

abbrev pub is_same_id : PoolId → PoolId → Bool
is_same_id a b = bytes_eq a.digest b.digest && (a.extension == b.extension)

abbrev pub is_same_file : StoredFile → StoredFile → Bool
is_same_file a b = is_same_attr a.attr b.attr && ((a.group == b.group) && ((a.size == b.size) && option_eq is_same_id a.content b.content))

abbrev pub is_same_link : LinkNode → LinkNode → Bool
is_same_link a b = is_same_attr a.attr b.attr && bytes_eq a.target b.target

-- whether two records are one
abbrev pub is_same_record : Record → Record → Bool
is_same_record (File a) (File b) = is_same_file a b
is_same_record (Dir a) (Dir b) = is_same_attr a.attr b.attr
is_same_record (Link a) (Link b) = is_same_link a b
is_same_record Deleted Deleted = true
is_same_record _ _ = false
