-- The files after a commit stand for the office after it.
--     office_committed      if those of the host are those of its backups with a further one
use Rattle.std.specs.Prelude.{◌≡◌, ℕ, true, false, List, Option, Some, None, is_some, slice_get, slice_set}
use Rattle.std.proofs.Common.{refl, sym, ap, ◌∙◌, subst, inr}
use Rattle.disk_trait.specs.declared.ids.PoolId.{PoolId}
use Rattle.disk_trait.specs.declared.ids.FileId.{FileId}
use Rattle.disk_trait.specs.declared.ids.FileId.TheVariants as F
use Rattle.disk_trait.specs.Names.{is_metadata}
use Rattle.disk_trait.specs.Files.{Files}
use Rattle.disk_trait.specs.Images.{FileSet}
use Rattle.pool_index.specs.Index.{TellsBuckets}
use Rattle.pool_changes.specs.declared.slot.Slot.{Slot}
use Rattle.pool_changes.specs.declared.slot.Slot.TheVariants.{Live, Staged, Doomed}
use Rattle.pool_changes.specs.Slots.{Slots, is_live, is_given}
use Rattle.pool_changes.specs.Listed.{index_of}
use Rattle.pool_store.specs.Fits.{Fits}
use Rattle.merge_view.specs.Views.{Rows}
use Rattle.stored_trees.specs.Resolved.{resolved, AreTold, IsOneToOne}
use Rattle.ref_counts.specs.Stored.{StoredHost}
use Rattle.office_model.specs.Pool.{with_tree}
use Rattle.office_model.specs.Office.{Durable, Host, IsSoundDurable, backup_index}
use Rattle.office_model.specs.laws.IdLaws.{IsSoundDurable-ids}
use Rattle.office_files.specs.Pooled.{contents_of, IsListed}
use Rattle.office_files.specs.Hosts.{StandsHost}
use Rattle.office_files.specs.Stands.{Stands}
use Rattle.office_changes.specs.ChangeLaws.{is_of_host, is_of_index}
use Rattle.office_changes.specs.Commits.{IsListedWith}
use Rattle.office_changes.specs.CommitLaws.{commit_stands}
use Rattle.office_changes.specs.IdLaws.{ids_with}
use Rattle.office_changes.specs.PoolLaws.{named_given}
use Rattle.office_pool.specs.AddedLaws.{listed_with_added}
use Rattle.office_pool.specs.FitLaws.{given_one, given_digest, given_size}
use Rattle.store_parts.specs.StoredLaws.{listed_live}
use Rattle.store_commits.specs.Ids.{ids_in}
use Rattle.store_commits.specs.IdsLaws.{given_ids, among_named}
use Rattle.store_commits.specs.AcceptLaws.{with_added}

live_given : (slot : Option Slot) → is_live slot ≡ true → is_given slot ≡ true
live_given None e = e
live_given (Some (Live size mark claims)) e = refl
live_given (Some (Staged size claims)) e = refl
live_given (Some Doomed) e = e

-- with another host, and with the contents of these rows and their names
abbrev office_with : ℕ → Host → Rows → (PoolId → List ℕ) → Durable → Durable
office_with number new rows contents office = record office {
  hosts = slice_set office.hosts number new;
  pool = with_tree office.pool (resolved contents rows);
  ids = ids_with rows contents office.ids;
}

module _ (digest_of : List ℕ → List ℕ) (slots : Slots) (out : FileSet) (all : Files) (fits : Fits digest_of slots out all) (rows : Rows)
    (told : AreTold (λ id. is_given (slots id) ≡ true) (contents_of all) rows) where
  -- the index lists the names of the rows too
  pub listed_rows : IsListedWith rows (contents_of all) (index_of slots) (index_of (with_added (ids_in rows) slots))
  listed_rows =
      listed_with_added (ids_in rows) slots rows (contents_of all) (given_ids slots (contents_of all) rows told) (among_named rows)
      (λ id named. given_size digest_of slots out all fits id
      (named_given (λ id. is_given (slots id) ≡ true) (contents_of all) id rows told named))

  pub office_committed : (backups : List StoredHost) (image : Files) (office : Durable) (number : ℕ) (host new : Host)
      (shown : StoredHost) → contents_of image ≡ contents_of all → slice_get office.hosts number ≡ Some host → new.name ≡ host.name
      → ((file : FileId) → is_metadata file ≡ true → is_of_host number file ≡ false → is_of_index file ≡ false → image file ≡ all file)
      → ((n : ℕ) → is_some (backup_index new.backups n) ≡ false → image (F.Table number n) ≡ None)
      → StandsHost (IsListed (index_of (with_added (ids_in rows) slots))) (contents_of image) image number new shown
      → TellsBuckets (index_of (with_added (ids_in rows) slots)) image
      → IsSoundDurable (record office { hosts = slice_set office.hosts number new; pool = with_tree office.pool (resolved (contents_of all) rows) })
      → Stands digest_of (index_of slots) backups all office
      → Stands digest_of (index_of (with_added (ids_in rows) slots)) (slice_set backups number shown) image
      (office_with number new rows (contents_of all) office)
  office_committed backups image office number host new shown same here name stays none stands_new tells sound stands =
      subst (λ (c : PoolId → List ℕ). Stands digest_of (index_of (with_added (ids_in rows) slots)) (slice_set backups number shown) image
      (office_with number new rows c office)) same
      (commit_stands digest_of (index_of slots) (index_of (with_added (ids_in rows) slots)) backups all image office number host new shown rows
      (λ id. is_given (slots id) ≡ true) here name stays
      (λ id listed. (live_given (slots id) (listed_live slots id listed), sym (ap (λ (c : PoolId → List ℕ). c id) same)))
      none stands_new (inr tells)
      (subst (λ (c : PoolId → List ℕ). IsListedWith rows c (index_of slots) (index_of (with_added (ids_in rows) slots))) (sym same) listed_rows)
      (subst (λ (c : PoolId → List ℕ). AreTold (λ id. is_given (slots id) ≡ true) c rows) (sym same) told)
      (subst (λ (c : PoolId → List ℕ). IsOneToOne (λ id. is_given (slots id) ≡ true) c) (sym same) (given_one digest_of slots out all fits))
      (λ id g. given_digest digest_of slots out all fits id g ∙ ap (λ (c : PoolId → List ℕ). digest_of (c id)) (sym same))
      (IsSoundDurable-ids (office_with number new rows (contents_of image) office) office.ids
      (subst (λ (c : PoolId → List ℕ). IsSoundDurable (record office {
        hosts = slice_set office.hosts number new;
        pool = with_tree office.pool (resolved c rows);
      }))
      (sym same) sound)) stands)
