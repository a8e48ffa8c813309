-- Cleaning of one bucket of a pool (BackupPC 4's nightly removal of pool files without a reference, in two passes).
--     is_named hosts id      some host's counts have a number of the name
--     is_protected hosts item      the content is named so, or claimed
--     is_wanted fate protected marked      whether a content has this fate
--     wanted_ids fate protected items      the names of the contents that have it
--     cleaned bucket hosts slots      the names of the pool afterwards
use Rattle.std.specs.Prelude.{◌≡◌, ℕ, ◌/◌, ◌==◌, nat_lt, Bool, true, ◌||◌, List, [], ◌∷◌, length, Option, Some, None, if◌then◌else◌}
use Rattle.std.specs.List.{list_any}
use Rattle.disk_trait.specs.declared.ids.PoolId.{PoolId}
use Rattle.pool_index.specs.Items.{byte_of}
use Rattle.ref_counts.specs.Numbers.{Items, number}
use Rattle.ref_counts.specs.Cleaning.{next_mark}
use Rattle.pool_changes.specs.declared.slot.Slot.{Slot}
use Rattle.pool_changes.specs.declared.slot.Slot.TheVariants.{Live, Staged, Doomed}
use Rattle.pool_changes.specs.declared.listing.BucketItem.{BucketItem}
use Rattle.pool_changes.specs.Slots.{Slots}
use Rattle.pool_changes.specs.Listed.{IsBucketOf}
use Rattle.pool_changes.specs.Indexed.{after}
use Rattle.pool_fate.specs.declared.fate.Fate.{Fate}
use Rattle.pool_fate.specs.Fates.{fate_of, is_same_fate}
use Rattle.pool_fate.specs.declared.fate.Fate.TheVariants.{Gains, Loses, Leaves}
use Rattle.nightly_clean.specs.declared.cleaning.Cleaning.{Cleaning}

abbrev pub is_named : List Items → PoolId → Bool
is_named hosts id = list_any (λ counts. nat_lt 0 (number counts id)) hosts

abbrev pub is_protected : List Items → BucketItem → Bool
is_protected hosts item = item.claimed || is_named hosts item.id

-- a content of the bucket that is protected or not, and marked or not, has this fate
abbrev pub is_wanted : Fate → (protected marked : Bool) → Bool
is_wanted fate protected marked = is_same_fate (fate_of true protected marked) fate

abbrev pub wanted_ids : Fate → (BucketItem → Bool) → List BucketItem → List PoolId
wanted_ids fate protected [] = []
wanted_ids fate protected (item ∷ items) =
    if is_wanted fate (protected item) item.mark then item.id ∷ wanted_ids fate protected items else wanted_ids fate protected items

-- live with this mark, or doomed
abbrev pub live_as : (size claims : ℕ) → Option Bool → Option Slot
live_as size claims None = Some Doomed
live_as size claims (Some mark) = Some (Live size mark claims)

-- a name of the bucket after the cleaning: only live ones change
abbrev pub cleaned_slot : Bool → Option Slot → Option Slot
cleaned_slot named None = None
cleaned_slot named (Some (Live size mark claims)) = live_as size claims (next_mark (nat_lt 0 claims || named) mark)
cleaned_slot named (Some (Staged size claims)) = Some (Staged size claims)
cleaned_slot named (Some Doomed) = Some Doomed

abbrev pub cleaned : ℕ → List Items → Slots → Slots
cleaned bucket hosts slots id = if byte_of id / 16 == bucket then cleaned_slot (is_named hosts id) (slots id) else slots id

-- the change makes the names the cleaned ones; and how many contents gain the mark, lose it and leave
pub record IsCleaning (slots : Slots) (bucket : ℕ) (hosts : List Items) (cleaning : Cleaning) : Type 0 where
  pub each : (id : PoolId) → after cleaning.change slots id ≡ cleaned bucket hosts slots id
  pub items : List BucketItem
  pub of_bucket : IsBucketOf slots bucket items
  pub marked : cleaning.marked ≡ length (wanted_ids Gains (is_protected hosts) items)
  pub unmarked : cleaning.unmarked ≡ length (wanted_ids Loses (is_protected hosts) items)
  pub removed : cleaning.removed ≡ length (wanted_ids Leaves (is_protected hosts) items)
