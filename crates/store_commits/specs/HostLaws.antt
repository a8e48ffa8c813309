-- The files of a host after a commit.
--     ends      a list is empty, or has a last element
--     IsWritten      what stands in the files of the host after a commit
--     host_after      they are those of the host with the new backup
use Rattle.std.specs.Prelude.{◌≡◌, ◌≢◌, ◌⊎◌, ℕ, true, false, List, [], ◌∷◌, ◌++◌, Option, None, is_some, if◌then◌else◌}
use Rattle.std.proofs.Common.{refl, ap, ◌∙◌, inl, inr}
use Rattle.disk_trait.specs.declared.ids.PoolId.{PoolId}
use Rattle.disk_trait.specs.declared.ids.FileId.TheVariants as F
use Rattle.disk_trait.specs.Files.{Files}
use Rattle.backup_rules.specs.declared.lines.Line.{Line}
use Rattle.backup_rules.specs.Fill.{stays_filled}
use Rattle.merge_view.specs.Views.{Rows, reverse}
use Rattle.ref_counts.specs.Numbers.{total}
use Rattle.ref_counts.specs.Stored.{Backup as StoredBackup, counted, with_new}
use Rattle.office_model.specs.Office.{Host, Backup, Dump, AreNumbered, backup_index}
use Rattle.office_model.specs.Parts.{with_newest}
use Rattle.office_model.specs.events.Commit.{new_backup, with_commit}
use Rattle.office_files.specs.Layouts.{IsHostFile, IsTableFile, IsCountsFile}
use Rattle.office_files.specs.Hosts.{index_of_host, IsShown, StandsHost}
use Rattle.office_changes.specs.CommitLaws.{with_newest-push, backups_alone, IsCommit, host_committed, beyond_commit}

-- a list is empty, or has a last element
pub record HasLast {A : Type 0} (xs : List A) : Type 0 where
  pub front : List A
  pub last : A
  pub is : xs ≡ front ++ last ∷ []

pub ends : {A : Type 0} (xs : List A) → (xs ≡ []) ⊎ HasLast xs
ends [] = inl refl
ends (x ∷ xs) = inr (step (ends xs))
  where
    step : (xs ≡ []) ⊎ HasLast xs → HasLast (x ∷ xs)
    step (inl e) = record { front = []; last = x; is = ap (λ l. x ∷ l) e }
    step (inr h) = record { front = x ∷ h.front; last = h.last; is = ap (λ l. x ∷ l) h.is }

-- the rows of the new backup, which is stored whole
abbrev pub new_stored : Rows → StoredBackup
new_stored rows = record { filled = true; rows = rows }

-- what stands in the files of a host behind a commit of a host that has backups already
pub record IsWritten (files image : Files) (number : ℕ) (host : Host) (dump : Dump) (line : Line) (newest : Backup) (olds : List StoredBackup)
    (last : StoredBackup) (rows : Rows) : Type 0 where
  pub index : IsHostFile (index_of_host number (with_commit host dump line)) (image (F.Host number))
  pub table : IsTableFile rows (image (F.Table number line.number))
  pub former : IsTableFile (if stays_filled host.rules newest.line then last.rows else reverse last.rows rows)
      (image (F.Table number newest.line.number))
  pub others : (n : ℕ) → n ≢ newest.line.number → n ≢ line.number → image (F.Table number n) ≡ files (F.Table number n)
  pub no_partial : image (F.Partial number) ≡ None
  pub counts : IsCountsFile number
      (λ id. total id (counted (backups_alone (with_new olds last (stays_filled host.rules newest.line) (new_stored rows)))))
      (image (F.Counts number))

module _ (given given' : PoolId → Type 0) (contents contents' : PoolId → List ℕ)
    (same : (id : PoolId) → given id → given' id × (contents id ≡ contents' id)) (files image : Files) (number : ℕ) (host : Host) (dump : Dump)
    (line : Line) (newest : Backup) (older : List Backup) (olds : List StoredBackup) (last : StoredBackup) (rows : Rows)
    (were : host.backups ≡ older ++ newest ∷ []) (numbered : AreNumbered (with_commit host dump line).next (with_commit host dump line).backups)
    (written : IsWritten files image number host dump line newest olds last rows) where
  commit_of : IsCommit files image number (with_commit host dump line) older newest (new_backup dump line) olds last (new_stored rows)
      (stays_filled host.rules newest.line)
  commit_of = record {
    backups = ap (λ (b : List Backup). with_newest host.rules b (new_backup dump line)) were
        ∙ with_newest-push host.rules older newest (new_backup dump line);
    numbered = numbered;
    index = written.index;
    former = written.former;
    table = written.table;
    others = written.others;
    unparked = refl;
    no_partial = written.no_partial;
    counts = written.counts;
  }

  pub host_further : IsShown given' contents' (new_backup dump line) (new_stored rows) → (partial : Option Rows)
      → StandsHost given contents files number host (record { backups = olds ++ last ∷ []; partial = partial })
      → StandsHost given' contents' image number (with_commit host dump line)
      (backups_alone (with_new olds last (stays_filled host.rules newest.line) (new_stored rows)))
  host_further fresh partial stands =
      host_committed given given' contents contents' same files image number host (with_commit host dump line) older newest
      (new_backup dump line) olds last (new_stored rows) (stays_filled host.rules newest.line) were commit_of fresh partial stands

  pub none_beyond : ((n : ℕ) → is_some (backup_index host.backups n) ≡ false → files (F.Table number n) ≡ None)
      → (n : ℕ) → is_some (backup_index (with_commit host dump line).backups n) ≡ false → image (F.Table number n) ≡ None
  none_beyond none =
      beyond_commit files image number host (with_commit host dump line) older newest (new_backup dump line) olds last (new_stored rows)
      (stays_filled host.rules newest.line) were commit_of none
