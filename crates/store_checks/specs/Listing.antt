-- The contents of a part of the pool: those whose digests begin with a byte.
--     item_of_part part item, items_of_part part items      what the index says of the contents of a part among those of a bucket
--     IsPartOf index part items      the names of the part that an index lists, in order, with what it says of each
--     ListsPart index part answer      an answer with them
use Rattle.std.specs.Prelude.{◌≡◌, ◌==◌, ℕ, List, [], ◌∷◌, Option, Some, None, if◌then◌else◌}
use Rattle.disk_trait.specs.declared.ids.PoolId.{PoolId}
use Rattle.pool_index.specs.declared.item.IndexItem.{IndexItem}
use Rattle.pool_index.specs.Index.{Index}
use Rattle.pool_index.specs.Items.{byte_of, item_at, AreRising}
use Rattle.pool_changes.specs.declared.listing.BucketItem.{BucketItem}
use Rattle.office_model.specs.declared.answer.Answer.{Answer}
use Rattle.office_model.specs.declared.answer.Answer.TheVariants.{PoolItems}

abbrev pub item_of_part : ℕ → BucketItem → Option IndexItem
item_of_part part item =
    if byte_of item.id == part then Some (record { id = item.id; size = item.size; mark = item.mark }) else None

abbrev pub pushed : {A : Type 0} → Option A → List A → List A
pushed None xs = xs
pushed (Some x) xs = x ∷ xs

abbrev pub items_of_part : ℕ → List BucketItem → List IndexItem
items_of_part part [] = []
items_of_part part (item ∷ items) = pushed (item_of_part part item) (items_of_part part items)

-- what an index has at a name of the part
abbrev pub listed_of_part : Index → ℕ → PoolId → Option IndexItem
listed_of_part index part id = if byte_of id == part then index id else None

pub record IsPartOf (index : Index) (part : ℕ) (items : List IndexItem) : Type 0 where
  pub rising : AreRising items
  pub each : (id : PoolId) → item_at items id ≡ listed_of_part index part id

abbrev pub ListsPart : Index → ℕ → Answer → Type 0
ListsPart index part answer = (items : List IndexItem) × (answer ≡ PoolItems items) × IsPartOf index part items
