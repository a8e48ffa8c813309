-- Whether two nodes of a tree are one: attributes to the nanosecond, kind, and the group and the bytes of a File or the target of a Link.
use Rattle.std.specs.Prelude.{◌==◌, Bool, false, ◌&&◌, bytes_eq}
use Rattle.std.specs.Ordering.{int_eq}
use Rattle.attr_records.specs.Attributes.{Attributes}
use Rattle.attr_records.specs.declared.nodes.Item.{Item}
use Rattle.attr_records.specs.declared.nodes.Item.TheVariants.{File, Dir, Link}

abbrev pub is_same_attr : Attributes → Attributes → Bool
is_same_attr a b = (a.mode == b.mode) && ((a.uid == b.uid) && ((a.gid == b.gid) && (int_eq a.mtime b.mtime && (a.nanos == b.nanos))))

abbrev pub is_same_item : Item → Item → Bool
is_same_item (File a) (File b) = is_same_attr a.attr b.attr && ((a.group == b.group) && bytes_eq a.bytes b.bytes)
is_same_item (Dir a) (Dir b) = is_same_attr a.attr b.attr
is_same_item (Link a) (Link b) = is_same_attr a.attr b.attr && bytes_eq a.target b.target
is_same_item _ _ = false
