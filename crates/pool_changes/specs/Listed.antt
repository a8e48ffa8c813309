-- What the names of a pool say: the index, the contents of a bucket, the totals.
use Rattle.std.specs.Prelude.{◌≡◌, ℕ, ◌+◌, ◌-◌, ◌/◌, ◌^◌, min, List, [], ◌∷◌, map, length, Option, Some, None, if◌then◌else◌, ◌==◌, nat_lt}
use Rattle.std.specs.List.Sorted.{IsStrictlySortedBy}
use Rattle.disk_trait.specs.declared.ids.PoolId.{PoolId}
use Rattle.pool_index.specs.declared.item.IndexItem.{IndexItem}
use Rattle.pool_index.specs.Items.{id_cmp, is_same_id, byte_of, item_at, AreRising}
use Rattle.pool_index.specs.Index.{Index}
use Rattle.pool_changes.specs.declared.slot.Slot.{Slot}
use Rattle.pool_changes.specs.declared.slot.Slot.TheVariants.{Live, Staged, Doomed}
use Rattle.pool_changes.specs.declared.listing.BucketItem.{BucketItem}
use Rattle.pool_changes.specs.declared.listing.PoolStats.{PoolStats}
use Rattle.pool_changes.specs.Slots.{Slots}

-- the item of a live name
abbrev pub item_of : PoolId → Option Slot → Option IndexItem
item_of id None = None
item_of id (Some (Live size mark claims)) = Some (record { id = id; size = size; mark = mark })
item_of id (Some (Staged size claims)) = None
item_of id (Some Doomed) = None

-- the live names, with size and mark
abbrev pub index_of : Slots → Index
index_of slots id = item_of id (slots id)

-- the same with what a cleaning asks: whether it is claimed
abbrev pub bucket_item_of : PoolId → Option Slot → Option BucketItem
bucket_item_of id None = None
bucket_item_of id (Some (Live size mark claims)) = Some (record { id = id; size = size; mark = mark; claimed = nat_lt 0 claims })
bucket_item_of id (Some (Staged size claims)) = None
bucket_item_of id (Some Doomed) = None

abbrev pub bucket_item_at : List BucketItem → PoolId → Option BucketItem
bucket_item_at [] id = None
bucket_item_at (item ∷ items) id = if is_same_id id item.id then Some item else bucket_item_at items id

-- the live names whose first byte divided by 16 is the bucket, in order
pub record IsBucketOf (slots : Slots) (bucket : ℕ) (items : List BucketItem) : Type 0 where
  pub rising : IsStrictlySortedBy id_cmp (map (λ item. item.id) items)
  pub each : (id : PoolId) → bucket_item_at items id ≡ (if byte_of id / 16 == bucket then bucket_item_of id (slots id) else None)

-- the sum of sizes
abbrev pub bytes_of : List IndexItem → ℕ
bytes_of [] = 0
bytes_of (item ∷ items) = item.size + bytes_of items

-- how many have the mark
abbrev pub marks_of : List IndexItem → ℕ
marks_of [] = 0
marks_of (item ∷ items) = (if item.mark then 1 else 0) + marks_of items

-- the live names, the sum of their sizes, which stands still at 2^64 - 1, and how many are marked
pub record IsStatsOf (slots : Slots) (stats : PoolStats) : Type 0 where
  pub items : List IndexItem
  pub rising : AreRising items
  pub each : (id : PoolId) → item_at items id ≡ index_of slots id
  pub files : stats.files ≡ length items
  pub bytes : stats.bytes ≡ min (bytes_of items) (2 ^ 64 - 1)
  pub marked : stats.marked ≡ marks_of items

-- the totals with those of one name more
abbrev pub with_slot_stats : PoolStats → Slot → PoolStats
with_slot_stats stats (Live size mark claims) =
    record { files = stats.files + 1; bytes = min (stats.bytes + size) (2 ^ 64 - 1); marked = stats.marked + (if mark then 1 else 0) }
with_slot_stats stats (Staged size claims) = stats
with_slot_stats stats Doomed = stats
