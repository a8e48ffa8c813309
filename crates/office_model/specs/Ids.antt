-- The ids of pooled contents: the names by which their files are listed.
--     content_at      the content of a name;  id_of      the name of a content
--     AreIds      one name for each pooled content and for no other, with its digest, and no two of one content
use Rattle.std.specs.Prelude.{◌≡◌, ℕ, true, List, Option, Some, bytes_eq, slice_get}
use Rattle.std.specs.FinMap.Entries.{find}
use Rattle.std.specs.List.{position_from}
use Rattle.std.specs.Option.{option_and_then, option_map}
use Rattle.disk_trait.specs.declared.ids.PoolId.{PoolId}
use Rattle.ordered_lists.specs.Order.{IsInOrder}
use Rattle.pool_index.specs.Items.{id_cmp}
use Rattle.office_model.specs.Pool.{Pool, is_pooled}

-- names with their contents, in the order of the names
abbrev pub Ids : Type 0
Ids = List (PoolId × List ℕ)

abbrev pub content_at : Ids → PoolId → Option (List ℕ)
content_at ids id = find id_cmp id ids

abbrev pub place_of : Ids → List ℕ → Option ℕ
place_of ids content = position_from (λ entry. bytes_eq entry.1 content) 0 ids

abbrev pub id_of : Ids → List ℕ → Option PoolId
id_of ids content = option_map (λ entry. entry.0) (option_and_then (slice_get ids) (place_of ids content))

pub record AreIds (digest_of : List ℕ → List ℕ) (pool : Pool) (ids : Ids) : Type 0 where
  pub in_order : IsInOrder id_cmp ids
  pub all : (content : List ℕ) → is_pooled pool content ≡ true → (id : PoolId) × (content_at ids id ≡ Some content)
  pub pooled : (id : PoolId) (content : List ℕ) → content_at ids id ≡ Some content → is_pooled pool content ≡ true
  pub one : (id other : PoolId) (content : List ℕ) → content_at ids id ≡ Some content → content_at ids other ≡ Some content → id ≡ other
  pub digest : (id : PoolId) (content : List ℕ) → content_at ids id ≡ Some content → id.digest ≡ digest_of content
