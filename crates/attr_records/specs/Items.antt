-- The nodes of a tree, with the bytes of its files.
use Rattle.std.specs.Prelude.{ℕ, nat_lt, Bool, true, false, List, [], ◌∷◌, length, Option, Some, None}
use Rattle.std.specs.List.{filter_map}
use Rattle.attr_records.specs.declared.nodes.Item.{Item}
use Rattle.attr_records.specs.declared.nodes.Item.TheVariants.{File, Dir, Link}

-- the paths of a tree with their nodes, in the order of the paths
abbrev pub Tree : Type 0
Tree = List (List ℕ × Item)

abbrev pub is_dir : Item → Bool
is_dir (File file) = false
is_dir (Dir dir) = true
is_dir (Link link) = false

-- a File of more than 67,108,864 bytes
abbrev pub is_large : Item → Bool
is_large (File file) = nat_lt 67108864 (length file.bytes)
is_large (Dir dir) = false
is_large (Link link) = false

-- bytes, if there are some
abbrev pub some_bytes : List ℕ → Option (List ℕ)
some_bytes [] = None
some_bytes (byte ∷ bytes) = Some (byte ∷ bytes)

-- the bytes of a File that has some
abbrev pub content_of : Item → Option (List ℕ)
content_of (File file) = some_bytes file.bytes
content_of (Dir dir) = None
content_of (Link link) = None

-- the contents of a tree: the bytes of its Files that have some
abbrev pub contents : Tree → List (List ℕ)
contents tree = filter_map (λ row. content_of row.1) tree
