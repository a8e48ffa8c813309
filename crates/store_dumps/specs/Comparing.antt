-- What a put compares its bytes with.
--     hint_at hint path      what a dump's hint has at a path
--     content_sized found size      the name of the content of what is found, if it is a file of this length
--     likely first second      the first, or else the second
--     Holds slots told bytes id      a given content, whose file holds the bytes
--     IsHeldBy slots told bytes likely found      the likely content was found exactly if it is given and its file holds the bytes
use Rattle.std.specs.Prelude.{◌≡◌, ◌==◌, ℕ, true, List, Option, Some, None, if◌then◌else◌}
use Rattle.disk_trait.specs.declared.ids.PoolId.{PoolId}
use Rattle.disk_trait.specs.declared.ids.FileId.TheVariants.{Pool}
use Rattle.disk_trait.specs.Files.{Files}
use Rattle.attr_records.specs.Trees.{node_at}
use Rattle.attr_tables.specs.declared.records.Record.{Record}
use Rattle.attr_tables.specs.declared.records.Record.TheVariants.{File, Dir, Link, Deleted}
use Rattle.merge_view.specs.Views.{Rows}
use Rattle.pool_changes.specs.Slots.{Slots, is_given}

abbrev pub hint_at : Option Rows → List ℕ → Option Record
hint_at None path = None
hint_at (Some rows) path = node_at rows path

abbrev pub content_sized : Option Record → ℕ → Option PoolId
content_sized None size = None
content_sized (Some (File file)) size = if file.size == size then file.content else None
content_sized (Some (Dir dir)) size = None
content_sized (Some (Link link)) size = None
content_sized (Some Deleted) size = None

abbrev pub likely : Option PoolId → Option PoolId → Option PoolId
likely (Some id) second = Some id
likely None second = second

abbrev pub Holds : Slots → Option Files → List ℕ → PoolId → Type 0
Holds slots told bytes id = (is_given (slots id) ≡ true) × ((all : Files) → told ≡ Some all → all (Pool id) ≡ Some bytes)

abbrev pub IsHeldBy : Slots → Option Files → List ℕ → (likely found : Option PoolId) → Type 0
IsHeldBy slots told bytes likely None = (id : PoolId) (all : Files) → likely ≡ Some id → told ≡ Some all → Holds slots told bytes id → ⊥
IsHeldBy slots told bytes likely (Some id) = (likely ≡ Some id) × Holds slots told bytes id
