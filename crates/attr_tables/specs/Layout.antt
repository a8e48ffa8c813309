-- The layouts of the rows of tables, and the values that have one. The first layout has no nanoseconds and no groups: both are 0.
--     row_bytes      kind u8, path t16, then by kind
--     IsRow      the numbers are in their ranges, the texts keep their rules
--     IsTable      rows whose paths strictly rise, few enough to be counted
use Rattle.std.specs.Prelude.{◌≡◌, ℕ, ◌<◌, ◌≤◌, true, List, [], ◌∷◌, ◌++◌, length, Option, Some, None, FitsSigned}
use Rattle.std.specs.Int.{w8, w16, w32, w64}
use Rattle.std.specs.List.{AllByRecursion}
use Rattle.wire_bytes.specs.Layout.{number_bytes, signed_bytes, text_bytes, IsNumber}
use Rattle.disk_trait.specs.declared.ids.PoolId.{PoolId}
use Rattle.ordered_lists.specs.Order.{IsInOrder, is_after}
use Rattle.attr_records.specs.Attributes.{Attributes}
use Rattle.attr_records.specs.Paths.{path_cmp}
use Rattle.attr_records.specs.PathRules.{broken_path_rule}
use Rattle.attr_records.specs.Names.{is_link_target}
use Rattle.attr_tables.specs.declared.records.Record.{Record}
use Rattle.attr_tables.specs.declared.records.Record.TheVariants.{File, Dir, Link, Deleted}
use Rattle.attr_tables.specs.declared.layouts.TableLayout.{TableLayout}
use Rattle.attr_tables.specs.declared.layouts.TableLayout.TheVariants.{First, Second}

-- ---- bytes

abbrev pub nanos_bytes : TableLayout → ℕ → List ℕ
nanos_bytes First nanos = []
nanos_bytes Second nanos = number_bytes w32 nanos

abbrev pub group_bytes : TableLayout → ℕ → List ℕ
group_bytes First group = []
group_bytes Second group = number_bytes w32 group

-- mode, uid, gid, mtime, nanos
unfoldable pub attr_bytes : TableLayout → Attributes → List ℕ
attr_bytes layout attr =
    number_bytes w32 attr.mode ++ (number_bytes w32 attr.uid ++
    (number_bytes w32 attr.gid ++ (signed_bytes w64 attr.mtime ++ nanos_bytes layout attr.nanos)))

-- the digest and the extension
abbrev pub id_bytes : PoolId → List ℕ
id_bytes id = id.digest ++ number_bytes w16 id.extension

abbrev pub content_bytes : Option PoolId → List ℕ
content_bytes None = []
content_bytes (Some id) = id_bytes id

-- 0 Deleted, 1 File, 2 Dir, 3 Link
abbrev pub kind_of : Record → ℕ
kind_of (File file) = 1
kind_of (Dir dir) = 2
kind_of (Link link) = 3
kind_of Deleted = 0

-- what stands behind the path
abbrev pub node_bytes : TableLayout → Record → List ℕ
node_bytes layout (File file) = attr_bytes layout file.attr ++
    (group_bytes layout file.group ++ (number_bytes w64 file.size ++ content_bytes file.content))
node_bytes layout (Dir dir) = attr_bytes layout dir.attr
node_bytes layout (Link link) = attr_bytes layout link.attr ++ text_bytes w16 link.target
node_bytes layout Deleted = []

unfoldable pub row_bytes : TableLayout → List ℕ × Record → List ℕ
row_bytes layout row = number_bytes w8 (kind_of row.1) ++ (text_bytes w16 row.0 ++ node_bytes layout row.1)

-- ---- values

abbrev pub IsNanos : TableLayout → ℕ → Type 0
IsNanos First nanos = nanos ≡ 0
IsNanos Second nanos = nanos ≤ 999999999

abbrev pub IsGroup : TableLayout → ℕ → Type 0
IsGroup First group = group ≡ 0
IsGroup Second group = IsNumber w32 group

pub record IsAttr (layout : TableLayout) (attr : Attributes) : Type 0 where
  pub mode : attr.mode ≤ 4095
  pub uid : IsNumber w32 attr.uid
  pub gid : IsNumber w32 attr.gid
  pub mtime : FitsSigned w64 attr.mtime
  pub nanos : IsNanos layout attr.nanos

pub record IsId (id : PoolId) : Type 0 where
  pub digest : length id.digest ≡ 16
  pub extension : IsNumber w16 id.extension

-- a content exactly where the size isn't 0
abbrev pub IsContent : ℕ → Option PoolId → Type 0
IsContent size None = size ≡ 0
IsContent size (Some id) = (0 < size) × IsId id

-- the path breaks no rule
abbrev pub IsPath : List ℕ → Type 0
IsPath path = broken_path_rule path ≡ None

abbrev pub IsTarget : List ℕ → Type 0
IsTarget target = is_link_target target ≡ true

abbrev pub IsNode : TableLayout → Record → Type 0
IsNode layout (File file) = IsAttr layout file.attr × IsGroup layout file.group × IsNumber w64 file.size × IsContent file.size file.content
IsNode layout (Dir dir) = IsAttr layout dir.attr
IsNode layout (Link link) = IsAttr layout link.attr × IsTarget link.target
IsNode layout Deleted = Unit {0}

pub record IsRow (layout : TableLayout) (row : List ℕ × Record) : Type 0 where
  pub path : IsPath row.0
  pub node : IsNode layout row.1

-- ---- rows

-- the paths and what is said of each
abbrev pub Rows : Type 0
Rows = List (List ℕ × Record)

-- a row whose path comes after those of the rows before it
abbrev pub IsNext : TableLayout → Rows → List ℕ × Record → Type 0
IsNext layout before row = IsRow layout row × (is_after path_cmp before row.0 ≡ true)

-- rows that have a file
pub record IsTable (layout : TableLayout) (rows : Rows) : Type 0 where
  pub in_order : IsInOrder path_cmp rows
  pub each : AllByRecursion (IsRow layout) rows
  pub count : IsNumber w32 (length rows)

-- RTB1 or RTB2
abbrev pub magic_of : TableLayout → List ℕ
magic_of First = 82 ∷ 84 ∷ 66 ∷ 49 ∷ []
magic_of Second = 82 ∷ 84 ∷ 66 ∷ 50 ∷ []
