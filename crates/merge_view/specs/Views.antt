-- Entries over a tree: what an older backup stores relative to a newer one, and how it is viewed.
--     view tree entries      the tree with the entries' nodes put in and their marked paths taken out
--     reverse older newer      the paths where two trees differ, with the older's node or a deletion mark
--     stacked older newer      the entries of an older backup over those of a newer one
--     trimmed tree entries      the entries that change the tree
--     view-reverse, view-stacked, trimmed-view      how they go together
use Rattle.std.specs.Prelude.{◌≡◌, ℕ, Bool, true, false, List, [], ◌∷◌, Option, Some, None, if◌then◌else◌}
use Rattle.attr_records.specs.Paths.{path_cmp}
use Rattle.ordered_lists.specs.Order.{IsInOrder}
use Rattle.attr_tables.specs.Records.{is_same_record}
use Rattle.attr_tables.specs.declared.records.Record.{Record}
use Rattle.attr_tables.specs.declared.records.Record.TheVariants.{File, Dir, Link, Deleted}
use Rattle.ordered_lists.specs.Merge.{merge}

-- records with their paths: a whole tree, or entries over one
abbrev pub Rows : Type 0
Rows = List (List ℕ × Record)

-- the record is a deletion mark
abbrev pub is_mark : Record → Bool
is_mark (File file) = false
is_mark (Dir dir) = false
is_mark (Link link) = false
is_mark Deleted = true

-- a deletion mark is there
abbrev pub is_marked : Option Record → Bool
is_marked None = false
is_marked (Some entry) = is_mark entry

-- no row is a deletion mark
abbrev pub HasNoMarks : Rows → Type 0
HasNoMarks [] = Unit {0}
HasNoMarks (row ∷ rows) = (is_mark row.1 ≡ false) × HasNoMarks rows

-- the rows that are no deletion marks
abbrev pub without_marks : Rows → Rows
without_marks [] = []
without_marks (row ∷ rows) = if is_mark row.1 then without_marks rows else row ∷ without_marks rows

-- rows that are a whole tree: in order, and without deletion marks
pub record IsWhole (rows : Rows) : Type 0 where
  pub in_order : IsInOrder path_cmp rows
  pub no_marks : HasNoMarks rows

-- ---- what is at a path

-- an entry over what is there without it
abbrev pub laid : Option Record → Option Record → Option Record
laid None base = base
laid (Some Deleted) base = None
laid (Some (File file)) base = Some (File file)
laid (Some (Dir dir)) base = Some (Dir dir)
laid (Some (Link link)) base = Some (Link link)

-- what the older tree has where the newer has something else
abbrev pub difference : Option Record → Option Record → Option Record
difference None None = None
difference None (Some newer) = Some Deleted
difference (Some older) None = Some older
difference (Some older) (Some newer) = if is_same_record older newer then None else Some older

-- the entry of the older backup, else that of the newer
abbrev pub upper : Option Record → Option Record → Option Record
upper None newer = newer
upper (Some older) newer = Some older

-- an entry, where it changes what is there without it
abbrev pub needed : Option Record → Option Record → Option Record
needed None base = None
needed (Some Deleted) None = None
needed (Some Deleted) (Some base) = Some Deleted
needed (Some (File file)) base = difference (Some (File file)) base
needed (Some (Dir dir)) base = difference (Some (Dir dir)) base
needed (Some (Link link)) base = difference (Some (Link link)) base

-- ---- the rows of all paths

-- the tree with the nodes of the entries put in and their marked paths taken out
abbrev pub view : Rows → Rows → Rows
view tree entries = merge path_cmp laid entries tree

-- exactly the paths where the two trees differ, with the older's node, or a deletion mark where it has none
abbrev pub reverse : Rows → Rows → Rows
reverse older newer = merge path_cmp difference older newer

-- the entries of an older backup over those of a newer one
abbrev pub stacked : Rows → Rows → Rows
stacked older newer = merge path_cmp upper older newer

-- the entries that change the tree, and no others
abbrev pub trimmed : Rows → Rows → Rows
trimmed tree entries = merge path_cmp needed entries tree
