-- The pairs of a push's queries, as keys and values before they are escaped.
--     put_pairs      those of the put of an item
--     path_pairs, kind_pairs      those that name a path, and a dump's kind
use Rattle.std.specs.Prelude.{ℕ, ◌/◌, ◌%◌, List, [], ◌∷◌, ◌++◌, codes, decimal}
use Rattle.std.specs.Fmt.{signed_decimal}
use Rattle.attr_records.specs.Attributes.{Attributes}
use Rattle.attr_records.specs.declared.nodes.Item.{Item}
use Rattle.attr_records.specs.declared.nodes.Item.TheVariants.{File, Dir, Link}
use Rattle.backup_rules.specs.declared.lines.Kind.{Kind}
use Rattle.backup_rules.specs.declared.lines.Kind.TheVariants.{Full, Incr}
use Rattle.http_query.specs.Query.{Pair}

-- a mode in four octal digits
abbrev pub mode_text : ℕ → List ℕ
mode_text mode = decimal (mode / 512 % 8) ++ (decimal (mode / 64 % 8) ++ (decimal (mode / 8 % 8) ++ decimal (mode % 8)))

abbrev pub attribute_pairs : Attributes → List Pair
attribute_pairs attr =
    (codes "mode", mode_text attr.mode) ∷ (codes "uid", decimal attr.uid) ∷ (codes "gid", decimal attr.gid)
    ∷ (codes "mtime", signed_decimal attr.mtime) ∷ (codes "nanos", decimal attr.nanos) ∷ []

-- what is said of an item
abbrev pub item_pairs : Item → List Pair
item_pairs (File file) = (codes "kind", codes "file") ∷ (codes "group", decimal file.group) ∷ attribute_pairs file.attr
item_pairs (Dir dir) = (codes "kind", codes "dir") ∷ attribute_pairs dir.attr
item_pairs (Link link) = (codes "kind", codes "link") ∷ attribute_pairs link.attr

abbrev pub put_pairs : List ℕ → Item → List Pair
put_pairs path item = (codes "path", path) ∷ item_pairs item

abbrev pub path_pairs : List ℕ → List Pair
path_pairs path = (codes "path", path) ∷ []

abbrev pub kind_text : Kind → List ℕ
kind_text Full = codes "full"
kind_text Incr = codes "incr"

abbrev pub kind_pairs : Kind → List Pair
kind_pairs kind = (codes "kind", kind_text kind) ∷ []
