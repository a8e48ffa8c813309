-- Items of the pool's index, and their order.
--     id_cmp, byte_of      the order of names;  the byte that chooses a name's file
--     item_at      the item of a name
--     IsNextItem      an item that may stand behind others
use Rattle.std.specs.Prelude.{◌≡◌, ◌==◌, ℕ, ◌<◌, Bool, true, ◌&&◌, List, [], ◌∷◌, map, length, slice_index, Option, Some, None, if◌then◌else◌}
use Rattle.std.specs.declared.cmp.Ordering.{Ordering}
use Rattle.std.specs.Ordering.{nat_cmp, ordering_then, is_lt}
use Rattle.std.specs.Cmp.Lexicographic.{slice_cmp}
use Rattle.std.specs.List.Sorted.{IsStrictlySortedBy}
use Rattle.std.specs.Int.{w16, w64}
use Rattle.wire_bytes.specs.Layout.{IsNumber}
use Rattle.disk_trait.specs.declared.ids.PoolId.{PoolId}
use Rattle.disk_trait.specs.declared.ids.FileId.TheVariants.{Pool}
use Rattle.disk_trait.specs.Names.{is_same_file}
use Rattle.pool_index.specs.declared.item.IndexItem.{IndexItem}

-- the order of names: by digest, then by extension
abbrev pub id_cmp : PoolId → PoolId → Ordering
id_cmp a b = ordering_then (slice_cmp nat_cmp a.digest b.digest) (nat_cmp a.extension b.extension)

-- whether two names are one
abbrev pub is_same_id : PoolId → PoolId → Bool
is_same_id a b = is_same_file (Pool a) (Pool b)

-- the first byte of a name's digest
abbrev pub byte_of : PoolId → ℕ
byte_of id = slice_index id.digest 0

-- the item of a name, None where there is none
abbrev pub item_at : List IndexItem → PoolId → Option IndexItem
item_at [] id = None
item_at (item ∷ items) id = if is_same_id id item.id then Some item else item_at items id

abbrev pub ids_of : List IndexItem → List PoolId
ids_of items = map (λ item. item.id) items

-- the names strictly rise
abbrev pub AreRising : List IndexItem → Type 0
AreRising items = IsStrictlySortedBy id_cmp (ids_of items)

-- a name comes behind that of the last item, if there is one
abbrev pub is_behind : List IndexItem → PoolId → Bool
is_behind [] id = true
is_behind (item ∷ []) id = is_lt (id_cmp item.id id)
is_behind (item ∷ next ∷ items) id = is_behind (next ∷ items) id

-- a name that has a layout
pub record IsId (id : PoolId) : Type 0 where
  pub digest : length id.digest ≡ 16
  pub extension : IsNumber w16 id.extension

-- the numbers of an item are in their ranges
pub record IsInRange (item : IndexItem) : Type 0 where
  pub id : IsId item.id
  pub size : IsNumber w64 item.size

-- the item of a content, which isn't empty
pub record IsItem (item : IndexItem) : Type 0 where
  pub range : IsInRange item
  pub some : 0 < item.size

-- whether a name is one of the byte, or of any where none is asked for
abbrev pub is_under : Option ℕ → PoolId → Bool
is_under None id = true
is_under (Some byte) id = byte_of id == byte

-- whether a name may stand behind items
abbrev pub is_next : Option ℕ → List IndexItem → PoolId → Bool
is_next byte before id = is_behind before id && is_under byte id

-- an item of the byte, or of any, that comes behind those before it
pub record IsNextItem (byte : Option ℕ) (before : List IndexItem) (item : IndexItem) : Type 0 where
  pub is : IsItem item
  pub next : is_next byte before item.id ≡ true
