-- What files stand for after a deletion of backups of one host.
--     deletion_stands      the office with the shortened host in its place
use Rattle.std.specs.Prelude.{◌≡◌, ℕ, true, false, List, Some, None, is_some, slice_get, slice_set}
use Rattle.std.proofs.Common.{refl, sym, ap, ◌∙◌}
use Rattle.disk_trait.specs.declared.ids.PoolId.{PoolId}
use Rattle.disk_trait.specs.declared.ids.FileId.{FileId}
use Rattle.disk_trait.specs.declared.ids.FileId.TheVariants as F
use Rattle.disk_trait.specs.Names.{is_metadata}
use Rattle.disk_trait.specs.Files.{Files, bytes_of}
use Rattle.pool_index.specs.Index.{Index}
use Rattle.ref_counts.specs.Stored.{StoredHost}
use Rattle.office_model.specs.Office.{Durable, Host, IsSoundDurable, backup_index}
use Rattle.office_model.specs.Parts.{lines_of}
use Rattle.office_files.specs.Hosts.{StandsHost}
use Rattle.office_files.specs.Owners.{has_backup}
use Rattle.office_files.specs.Pooled.{contents_of, IsListed}
use Rattle.office_files.specs.Stands.{Stands}
use Rattle.office_files.specs.KeptLaws.{tells_kept, one_kept, pool_kept, ids_kept}
use Rattle.office_changes.specs.ChangeLaws.{is_of_host, host_changed}
use Rattle.office_deletion.specs.DeletionLaws.{shortened, IsDeletion, host_shortened, beyond_deletion}

module _ (digest_of : List ℕ → List ℕ) (index : Index) (backups : List StoredHost) (files image : Files) (office : Durable) (p : ℕ)
    (host new : Host) (numbers : List ℕ) (shown : StoredHost) where
  -- the pool and its index stay, and so do the files of other hosts
  pub deletion_stands : slice_get office.hosts p ≡ Some host → new.name ≡ host.name → slice_get backups p ≡ Some shown
      → ((file : FileId) → is_metadata file ≡ true → is_of_host p file ≡ false → image file ≡ files file)
      → ((id : PoolId) → IsListed index id → image (F.Pool id) ≡ files (F.Pool id))
      → IsDeletion numbers files image p host new shown
      → IsSoundDurable (record office { hosts = slice_set office.hosts p new })
      → Stands digest_of index backups files office
      → Stands digest_of index
      (slice_set backups p (shortened numbers (lines_of host.backups) shown))
      image (record office { hosts = slice_set office.hosts p new })
  deletion_stands here name there stays pooled deletion sound stands =
      host_changed digest_of index index backups files image office p host new
      (shortened numbers (lines_of host.backups) shown) office.pool office.ids here name
      (λ file metadata other not_index. stays file metadata other) still
      (beyond_deletion (IsListed index) (IsListed index) (contents_of files) (contents_of image) still numbers files image p host new shown
      stands_host none deletion)
      (host_shortened (IsListed index) (IsListed index) (contents_of files) (contents_of image) still numbers files image p host new shown
      stands_host none deletion)
      (tells_kept files image (stays F.PoolIndex refl refl) (λ byte. stays (F.PoolBucket byte) refl refl) index stands.index_told)
      (one_kept index (contents_of files) (contents_of image) same stands.one)
      (pool_kept index (contents_of files) (contents_of image) same digest_of office.pool stands.pool)
      (ids_kept index (contents_of files) (contents_of image) same office.ids stands.ids)
      sound stands
    where
      same : (id : PoolId) → IsListed index id → contents_of files id ≡ contents_of image id
      same id listed = ap bytes_of (sym (pooled id listed))

      still : (id : PoolId) → IsListed index id → IsListed index id × (contents_of files id ≡ contents_of image id)
      still id listed = (listed, same id listed)

      stands_host : StandsHost (IsListed index) (contents_of files) files p host shown
      stands_host = stands.hosts.each p host shown here there

      none : (n : ℕ) → is_some (backup_index host.backups n) ≡ false → files (F.Table p n) ≡ None
      none n e = stands.nothing_else (F.Table p n) (ap (λ h. has_backup h n) here ∙ e)
