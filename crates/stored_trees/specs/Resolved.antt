-- Rows name contents by ids; trees have their bytes. What rows are, where the contents of ids are told.
--     resolved contents rows      the tree of whole rows
--     resolved_entries contents rows      the entries of rows, deletion marks among them
--     IsOneToOne given contents      different given ids have different contents, none of them empty
--     AreTold given contents rows      each row's id is a given one, of a content of the row's size
use Rattle.std.specs.Prelude.{◌≡◌, ℕ, ◌<◌, List, [], length, Option, Some, None, pos}
use Rattle.disk_trait.specs.declared.ids.PoolId.{PoolId}
use Rattle.attr_records.specs.declared.nodes.Item.{Item}
use Rattle.attr_records.specs.declared.nodes.Item.TheVariants.{File as ItemFile, Dir as ItemDir, Link as ItemLink}
use Rattle.attr_records.specs.declared.nodes.File.{File as FileItem}
use Rattle.attr_records.specs.Items.{Tree}
use Rattle.attr_tables.specs.declared.records.StoredFile.{StoredFile}
use Rattle.attr_tables.specs.declared.records.Record.{Record}
use Rattle.attr_tables.specs.declared.records.Record.TheVariants.{File, Dir, Link, Deleted}
use Rattle.merge_view.specs.Views.{Rows}
use Rattle.stored_trees.specs.Values.{map_values, AllValues}

-- the bytes of a content, none where there is none
abbrev pub bytes_of : (PoolId → List ℕ) → Option PoolId → List ℕ
bytes_of contents None = []
bytes_of contents (Some id) = contents id

-- the id that a record names
abbrev pub content_in : Record → Option PoolId
content_in (File file) = file.content
content_in (Dir dir) = None
content_in (Link link) = None
content_in Deleted = None

-- the file with the bytes of its id
abbrev pub resolved_file : (PoolId → List ℕ) → StoredFile → FileItem
resolved_file contents file = record { attr = file.attr; group = file.group; bytes = bytes_of contents file.content }

-- the node with the bytes of its id; a deletion mark shows nothing, and any node will do
abbrev pub resolved_item : (PoolId → List ℕ) → Record → Item
resolved_item contents (File file) = ItemFile (resolved_file contents file)
resolved_item contents (Dir dir) = ItemDir dir
resolved_item contents (Link link) = ItemLink link
resolved_item contents Deleted = ItemDir (record { attr = record { mode = 0; uid = 0; gid = 0; mtime = pos 0; nanos = 0 } })

-- an entry of an older backup: its node, or None for a deletion mark
abbrev pub Entry : Type 0
Entry = Option Item

abbrev pub resolved_entry : (PoolId → List ℕ) → Record → Entry
resolved_entry contents (File file) = Some (ItemFile (resolved_file contents file))
resolved_entry contents (Dir dir) = Some (ItemDir dir)
resolved_entry contents (Link link) = Some (ItemLink link)
resolved_entry contents Deleted = None

abbrev pub resolved : (PoolId → List ℕ) → Rows → Tree
resolved contents rows = map_values (resolved_item contents) rows

abbrev pub resolved_entries : (PoolId → List ℕ) → Rows → List (List ℕ × Entry)
resolved_entries contents rows = map_values (resolved_entry contents) rows

-- the id is a given one, whose content has the size; without an id the size is 0
abbrev pub IsToldContent : (PoolId → Type 0) → (PoolId → List ℕ) → ℕ → Option PoolId → Type 0
IsToldContent given contents size None = size ≡ 0
IsToldContent given contents size (Some id) = given id × (size ≡ length (contents id))

abbrev pub IsTold : (PoolId → Type 0) → (PoolId → List ℕ) → Record → Type 0
IsTold given contents (File file) = IsToldContent given contents file.size file.content
IsTold given contents (Dir dir) = Unit {0}
IsTold given contents (Link link) = Unit {0}
IsTold given contents Deleted = Unit {0}

abbrev pub AreTold : (PoolId → Type 0) → (PoolId → List ℕ) → Rows → Type 0
AreTold given contents rows = AllValues (IsTold given contents) rows

pub record IsOneToOne (given : PoolId → Type 0) (contents : PoolId → List ℕ) : Type 0 where
  pub one : (a b : PoolId) → given a → given b → contents a ≡ contents b → a ≡ b
  pub some : (a : PoolId) → given a → 0 < length (contents a)
