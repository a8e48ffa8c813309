-- A listing of a part is what the model answers.
--     runs_listed      the part was listed;  runs_unlisted      memory was wanting
use Rattle.std.specs.Prelude.{◌≡◌, ℕ, List, Ok, Err}
use Rattle.std.proofs.Common.{refl, sym, ap}
use Rattle.disk_trait.specs.declared.disk.Disk.{Ghosts as DiskGhosts}
use Rattle.pool_name.specs.declared.namer.Namer.{Ghosts as NamerGhosts}
use Rattle.pool_index.specs.declared.item.IndexItem.{IndexItem}
use Rattle.pool_changes.specs.Listed.{index_of}
use Rattle.office_model.specs.declared.answer.Answer.TheVariants.{PoolItems}
use Rattle.office_model.specs.declared.event.Event.TheVariants.{PoolList}
use Rattle.office_model.specs.declared.refusal.Refusal.TheVariants.{Memory}
use Rattle.office_model.specs.Office.{Office, Names}
use Rattle.office_model.specs.events.PoolList as PoolListEvent
use Rattle.office_files.specs.Pooled.{contents_of}
use Rattle.store_parts.specs.declared.parts.StoreParts.{StoreParts}
use Rattle.store_parts.specs.States.{slots, IsRunning}
use Rattle.store_parts.specs.Runs.{Runs}
use Rattle.store_parts.specs.RunLaws.{counted_still, counted_fine, reads_still, runs_reads}
use Rattle.store_parts.specs.RefusedLaws.{runs_no_memory}
use Rattle.store_checks.specs.Listing.{IsPartOf}
use Rattle.store_checks.specs.ListingLaws.{part_listed}

module _ {D N S : Type 0} {d : DiskGhosts D} {n : NamerGhosts N S} (parts : StoreParts D N S d n) (part : ℕ) (items : List IndexItem)
    (of : IsPartOf (index_of (slots parts)) part items) where
  judged : (office : Office) (names : Names) → IsRunning parts office names
      → PoolListEvent.carried part office ≡ Ok (record { answer = PoolItems items; after = office })
  judged office names at =
      ap (λ (l : List IndexItem). Ok (record { answer = PoolItems l; after = office }))
      (sym (part_listed office.pool n.digest_of (slots parts) (contents_of at.all) office.ids at.stands.pool at.stands.ids part items of))

  pub runs_listed : Runs parts (PoolList part) (Ok (PoolItems items)) parts
  runs_listed =
      runs_reads parts parts (PoolList part) (Ok (PoolItems items)) (reads_still parts) (λ office names at. (judged office names at, refl))
      (λ office names at. tt) refl (λ e. absurd cc)
      (counted_fine (counted_still (d.fault_count parts.journal.disk) ⊥ (λ e. e)) (λ e. e) (λ e. absurd cc))

pub runs_unlisted : {D N S : Type 0} {d : DiskGhosts D} {n : NamerGhosts N S} (parts : StoreParts D N S d n) (part : ℕ)
    → Runs parts (PoolList part) (Err Memory) parts
runs_unlisted parts part = runs_no_memory parts (PoolList part) (Err Memory) refl
