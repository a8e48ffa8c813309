-- What a put stages and stores.
--     record_for item content      the record of an item whose bytes are kept under a name
--     content_found found      the name of the content of what is found
--     TakesName .. id bytes      bytes got a name, which is that of a file that holds them, or a new one of their digest
--     TakesIn .. content bytes      so they did, if there are some
--     refused_put      the refusal that a fault of a dump's tree is
use Rattle.std.specs.Prelude.{◌≡◌, ◌⊎◌, ℕ, List, length, Option, Some, None}
use Rattle.disk_trait.specs.declared.ids.PoolId.{PoolId}
use Rattle.disk_trait.specs.Files.{Files}
use Rattle.attr_records.specs.declared.nodes.Item.{Item}
use Rattle.attr_records.specs.declared.nodes.Item.TheVariants as I
use Rattle.attr_tables.specs.declared.records.Record.{Record}
use Rattle.attr_tables.specs.declared.records.Record.TheVariants.{File, Dir, Link}
use Rattle.pool_changes.specs.Slots.{Slots}
use Rattle.pool_changes.specs.Kept.{IsSame}
use Rattle.pool_store.specs.Pools.{Matches, Adds}
use Rattle.stored_trees.specs.Resolved.{content_in}
use Rattle.dump_session.specs.declared.session.PutFault.{PutFault}
use Rattle.dump_session.specs.declared.session.PutFault.TheVariants as F
use Rattle.office_model.specs.declared.refusal.BrokenRule.TheVariants.{Put as PutRule}
use Rattle.office_model.specs.declared.refusal.Refusal.{Refusal}
use Rattle.office_model.specs.declared.refusal.Refusal.TheVariants as R

abbrev pub record_for : Item → Option PoolId → Record
record_for (I.File file) content = File (record { attr = file.attr; group = file.group; size = length file.bytes; content = content })
record_for (I.Dir dir) content = Dir dir
record_for (I.Link link) content = Link link

abbrev pub content_found : Option Record → Option PoolId
content_found None = None
content_found (Some node) = content_in node

-- No digest is made for bytes that a file of a given name holds: that name is theirs. What is known of its digest is what the
-- pool's files are known to be.
abbrev pub TakesName : (List ℕ → List ℕ) → (old new : Slots) → (told told' : Option Files) → PoolId → List ℕ → Type 0
TakesName digest_of old new told told' id bytes =
    Matches old new told told' id bytes ⊎ (Adds old new told told' id bytes × (id.digest ≡ digest_of bytes))

-- bytes got a name; without bytes nothing was done
abbrev pub TakesIn : (List ℕ → List ℕ) → (old new : Slots) → (told told' : Option Files) → Option PoolId → List ℕ → Type 0
TakesIn digest_of old new told told' None bytes = IsSame old new × (told' ≡ told) × (length bytes ≡ 0)
TakesIn digest_of old new told told' (Some id) bytes = TakesName digest_of old new told told' id bytes

abbrev pub refused_put : PutFault → Refusal
refused_put (F.Broken rule) = R.Broken (PutRule rule)
refused_put F.Memory = R.Memory
