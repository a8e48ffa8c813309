-- The file of a live or staged content isn't damaged.
--     content_read, content_damaged      what the pool read is what the files tell
--     content_bytes      the bytes that were read are those of the content
use Rattle.std.specs.Prelude.{◌≡◌, ℕ, true, List, Option, Some, None, Ok, Err}
use Rattle.std.proofs.Common.{refl, sym, ap, subst}
use Rattle.disk_trait.specs.declared.ids.PoolId.{PoolId}
use Rattle.disk_trait.specs.declared.ids.FileId.TheVariants.{Pool as PoolFile}
use Rattle.disk_trait.specs.declared.disk.Disk.{Ghosts as DiskGhosts}
use Rattle.disk_trait.specs.Files.{Files, bytes_of as file_bytes}
use Rattle.pool_name.specs.declared.namer.Namer.{Ghosts as NamerGhosts}
use Rattle.journal_view.specs.View.{told, uncertain}
use Rattle.journal_view.specs.ViewLaws.{seen_read}
use Rattle.pool_store.specs.declared.fault.PoolFault.{PoolFault}
use Rattle.pool_store.specs.declared.fault.PoolFault.TheVariants as P
use Rattle.pool_store.specs.Chains.{OfReading, SaysDamaged}
use Rattle.pool_store.specs.FitsLaws.{not_damaged}
use Rattle.store_parts.specs.declared.parts.StoreParts.{StoreParts}
use Rattle.pool_changes.specs.Slots.{is_given}
use Rattle.store_parts.specs.States.{slots}
use Rattle.stored_trees.specs.Resolved.{bytes_of}
use Rattle.office_files.specs.Pooled.{contents_of}
use Rattle.store_parts.specs.Refusals.{refusal_of_pool}
use Rattle.store_reads.specs.Shown.{IsContentFault}
use Rattle.store_reads.specs.Told.{HoldsContent, IsContentOf}

module _ {D N S : Type 0} {d : DiskGhosts D} {n : NamerGhosts N S} where
  pub content_fault : (parts : StoreParts D N S d n) (id : PoolId) (fault : PoolFault)
      → SaysDamaged n.digest_of (d.files parts.journal.disk) fault
      → ((other : PoolId) (found : Option (List ℕ)) → fault ≡ P.Damaged other found → other ≡ id)
      → OfReading fault → IsContentFault parts (Some id) (refusal_of_pool fault)
  content_fault parts id P.Disk says named kind = tt
  content_fault parts id P.Memory says named kind = tt
  content_fault parts id (P.Damaged other found) says named kind = λ office names at is_given_id.
      let damaged = says other found refl in
      not_damaged n.digest_of (slots parts) (uncertain parts.journal) at.all (told parts.journal) other found at.fits at.told_is
      (subst (λ (asked : PoolId). is_given (slots parts asked) ≡ true) (sym (named other found refl)) is_given_id)
      (record {
        there = λ all is. seen_read (d.files parts.journal.disk) all
            (PoolFile other) found refl damaged.there is;
        wrong = damaged.wrong;
      })
  content_fault parts id (P.Foreign file found) says named kind = absurd kind
  content_fault parts id P.ChainFull says named kind = absurd kind

  pub content_read : (parts : StoreParts D N S d n) (id : PoolId) (bytes : List ℕ)
      → ((all : Files) → d.files parts.journal.disk ≡ Some all → all (PoolFile id) ≡ Some bytes) → n.digest_of bytes ≡ id.digest
      → HoldsContent n.digest_of (told parts.journal) id bytes
  content_read parts id bytes found digest = record {
    there = λ all is. sym (seen_read (d.files parts.journal.disk) all (PoolFile id) (Some bytes) refl (λ raw e. sym (found raw e)) is);
    digest = digest;
  }

  pub content_damaged : (parts : StoreParts D N S d n) (id : PoolId) (fault : PoolFault)
      → SaysDamaged n.digest_of (d.files parts.journal.disk) fault
      → ((other : PoolId) (found : Option (List ℕ)) → fault ≡ P.Damaged other found → other ≡ id)
      → OfReading fault → IsContentOf n.digest_of (told parts.journal) (Some id) (Err (refusal_of_pool fault))
  content_damaged parts id P.Disk says named kind = tt
  content_damaged parts id P.Memory says named kind = tt
  content_damaged parts id (P.Damaged other found) says named kind =
      subst (λ (x : PoolId). IsContentOf n.digest_of (told parts.journal) (Some x) (Err (refusal_of_pool (P.Damaged other found))))
      (named other found refl)
      (let damaged = says other found refl in (
        refl,
        record {
          there = λ all is. seen_read (d.files parts.journal.disk) all (PoolFile other) found refl damaged.there is;
          wrong = damaged.wrong;
        },
      ))
  content_damaged parts id (P.Foreign file found) says named kind = absurd kind
  content_damaged parts id P.ChainFull says named kind = absurd kind

pub content_bytes : (digest_of : List ℕ → List ℕ) (told_files : Option Files) (content : Option PoolId) (bytes : List ℕ)
    → IsContentOf digest_of told_files content (Ok bytes) → (all : Files) → told_files ≡ Some all → bytes ≡ bytes_of (contents_of all) content
content_bytes digest_of told_files None bytes is all e = is
content_bytes digest_of told_files (Some id) bytes is all e = sym (ap file_bytes (is.there all e))
