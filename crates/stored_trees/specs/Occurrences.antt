-- How often rows name an id, and how often a tree has a content.
use Rattle.std.specs.Prelude.{ℕ, ◌+◌, Bool, false, List, [], ◌∷◌, Option, Some, None, bytes_eq, if◌then◌else◌}
use Rattle.disk_trait.specs.declared.ids.PoolId.{PoolId}
use Rattle.attr_tables.specs.declared.records.Record.{Record}
use Rattle.attr_tables.specs.declared.records.Record.TheVariants.{File, Dir, Link, Deleted}
use Rattle.attr_tables.specs.Records.{is_same_id}
use Rattle.merge_view.specs.Views.{Rows}

-- the content is the id's
abbrev pub is_content : PoolId → Option PoolId → Bool
is_content id None = false
is_content id (Some other) = is_same_id other id

-- the node names the id
abbrev pub names : PoolId → Record → Bool
names id (File file) = is_content id file.content
names id (Dir dir) = false
names id (Link link) = false
names id Deleted = false

-- how many rows name the id
abbrev pub occurrences : PoolId → Rows → ℕ
occurrences id [] = 0
occurrences id (row ∷ rows) = (if names id row.1 then 1 else 0) + occurrences id rows

-- how often a content is among contents
abbrev pub times : List ℕ → List (List ℕ) → ℕ
times content [] = 0
times content (other ∷ others) = (if bytes_eq other content then 1 else 0) + times content others
