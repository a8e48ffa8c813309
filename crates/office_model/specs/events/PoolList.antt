-- The pooled contents whose digests begin with a byte, in the order of their names: the name, the size and the mark of each.
use Rattle.std.specs.Prelude.{ℕ, ◌==◌, Bool, false, List, map, length, Ok}
use Rattle.std.specs.List.{filter}
use Rattle.std.specs.Option.{unwrap_or}
use Rattle.disk_trait.specs.declared.ids.PoolId.{PoolId}
use Rattle.pool_index.specs.declared.item.IndexItem.{IndexItem}
use Rattle.pool_index.specs.Items.{byte_of}
use Rattle.office_model.specs.declared.answer.Answer.TheVariants.{PoolItems}
use Rattle.office_model.specs.declared.answer.AnswerKind.TheVariants.{PoolItems as PoolItemsKind}
use Rattle.office_model.specs.Pool.{Pool, mark_of}
use Rattle.office_model.specs.Ids.{Ids}
use Rattle.office_model.specs.Office.{Office}
use Rattle.office_model.specs.Meaning.{Meaning, Carried, Judged, Nothing, means}

abbrev pub item_of : Pool → (PoolId × List ℕ) → IndexItem
item_of pool entry = record { id = entry.0; size = length entry.1; mark = unwrap_or (mark_of pool entry.1) false }

abbrev pub is_of : ℕ → (PoolId × List ℕ) → Bool
is_of part entry = byte_of entry.0 == part

abbrev pub items_of : ℕ → Pool → Ids → List IndexItem
items_of part pool ids = map (item_of pool) (filter (is_of part) ids)

abbrev pub carried : ℕ → Office → Judged Carried
carried part office = Ok (record { answer = PoolItems (items_of part office.pool office.ids); after = office })

abbrev pub meaning : ℕ → Meaning
meaning part = means (carried part) PoolItemsKind Nothing
