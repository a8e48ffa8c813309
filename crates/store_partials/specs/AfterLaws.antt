-- A host with another partial, or with none.
--     rows_parked      the rows that were read are those that are stored
--     there_parked      the file of a partial that is known is there
--     few_parked      what was read has few rows
--     host_parked, none_beyond      what stands in the files of the host then
use Rattle.std.specs.Prelude.{◌≡◌, ℕ, false, List, ◌++◌, Option, Some, None, IfSome, is_some}
use Rattle.std.specs.Option.{option_map}
use Rattle.std.proofs.Common.{refl, sym, ap, ◌∙◌, subst}
use Rattle.disk_trait.specs.declared.ids.PoolId.{PoolId}
use Rattle.disk_trait.specs.declared.ids.FileId.TheVariants as F
use Rattle.disk_trait.specs.Files.{Files}
use Rattle.intent_journal.specs.declared.changes.Change.{Change}
use Rattle.intent_journal.specs.Changes.{applied}
use Rattle.merge_view.specs.Views.{Rows}
use Rattle.partial_files.specs.declared.partial.PartialFile.{PartialFile}
use Rattle.ref_counts.specs.Numbers.{Items, total}
use Rattle.ref_counts.specs.Layout.{IsCounts}
use Rattle.ref_counts.specs.CountsFile.{counts_file}
use Rattle.ref_counts.specs.Stored.{StoredHost, counted}
use Rattle.host_partials.specs.declared.held.PartialHead.{PartialHead}
use Rattle.office_model.specs.Office.{Host, Partial, backup_index}
use Rattle.office_model.specs.events.Park.{with_partial}
use Rattle.office_files.specs.Hosts.{StandsPartial, StandsHost}
use Rattle.office_files.specs.Layouts.{parked_of, IsCountsFile}
use Rattle.office_files.specs.OneLaws.{one_partial_file}
use Rattle.office_changes.specs.ChangeLaws.{partial_changed}
use Rattle.store_parts.specs.Held.{AreCounts, head_of}
use Rattle.store_parts.specs.Parked.{IsParkedAs}
use Rattle.store_commits.specs.WrittenLaws.{AreOfIndex}
use Rattle.store_partials.specs.Parked.{IsThere}
use Rattle.store_partials.specs.Written.{host_part}
use Rattle.store_partials.specs.CountLaws.{rows_of, AreFew}
use Rattle.store_partials.specs.WrittenLaws.{at_counts, at_partial, at_host, at_table}

-- ---- what was there

module _ (given : PoolId → Type 0) (contents : PoolId → List ℕ) (host : ℕ) where
  pub rows_parked : (partial : Option Partial) (rows : Option Rows) (found : Option (List ℕ)) (parked : Option PartialFile)
      → StandsPartial given contents host partial rows found → IsParkedAs (option_map head_of partial) host parked found
      → rows ≡ rows_of parked
  rows_parked None None found parked stands is = ap rows_of (sym is)
  rows_parked None (Some rows) found parked stands is = absurd stands
  rows_parked (Some partial) None found parked stands is = absurd stands
  rows_parked (Some partial) (Some rows) found None stands is = absurd is
  rows_parked (Some partial) (Some rows) found (Some file) stands is =
      ap (λ (f : PartialFile). Some f.rows)
      (one_partial_file host partial.kind file.kind partial.start file.start rows file.rows found stands.file (record { fits = is.0; is = is.1 }))

  pub there_parked : (partial : Option Partial) (rows : Option Rows) (found : Option (List ℕ))
      → StandsPartial given contents host partial rows found → IsThere (option_map head_of partial) host found
  there_parked None rows found stands = tt
  there_parked (Some partial) None found stands = absurd stands
  there_parked (Some partial) (Some rows) found stands =
      (parked_of partial.kind partial.start rows, (stands.file.fits, stands.file.is))

-- a partial that was read has few rows
pub few_parked : (head : Option PartialHead) (host : ℕ) (parked : Option PartialFile) (found : Option (List ℕ)) → IsParkedAs head host parked found
    → IfSome (rows_of parked) AreFew
few_parked head host None found is = tt
few_parked None host (Some file) found is = absurd cc
few_parked (Some head) host (Some file) found is = is.0.table.count

-- ---- what is there then

module _ (given given' : PoolId → Type 0) (contents contents' : PoolId → List ℕ)
    (same : (id : PoolId) → given id → given' id × (contents id ≡ contents' id)) (all : Files) (number : ℕ) (host : Host) (of : StoredHost)
    (stands : StandsHost given contents all number host of) (pooled : List Change) (items : Items) (bytes : Option (List ℕ))
    (of_index : AreOfIndex pooled) (fits : IsCounts items) (partial : Option Partial) (rows : Option Rows)
    (parked : StandsPartial given' contents' number partial rows bytes) (are : AreCounts items (record of { partial = rows })) where
  abbrev image : Files
  image = applied (pooled ++ host_part number (counts_file number items) bytes) all

  pub host_parked : StandsHost given' contents' image number (with_partial host partial) (record of { partial = rows })
  host_parked =
      partial_changed given given' contents contents' same all image number host of partial rows
      (at_host pooled number (counts_file number items) bytes all of_index) (at_table pooled number (counts_file number items) bytes all of_index)
      (subst (λ found. StandsPartial given' contents' number partial rows found)
      (sym (at_partial pooled number (counts_file number items) bytes all of_index)) parked)
      (subst (IsCountsFile number (λ id. total id (counted (record of { partial = rows }))))
      (sym (at_counts pooled number (counts_file number items) bytes all of_index))
      (record { items = items; fits = fits; each = are; is = refl }))
      stands

  pub none_beyond : ((n : ℕ) → is_some (backup_index host.backups n) ≡ false → all (F.Table number n) ≡ None)
      → (n : ℕ) → is_some (backup_index (with_partial host partial).backups n) ≡ false → image (F.Table number n) ≡ None
  none_beyond none n e = at_table pooled number (counts_file number items) bytes all of_index n ∙ none n e
