-- A host after a commit, by what was built of it.
--     IsBuiltOf      the files that were built of a host and an open dump
--     HostAfter      what stands in the files of the host then: its backups are shown as before, and the new one
--     host_after      built files lead to it
use Rattle.std.specs.Prelude.{◌≡◌, ◌≢◌, ◌⊎◌, ℕ, zero, suc, ◌<◌, ◌≤◌, ◌==◌, Bool, true, false, List, [], ◌∷◌, ◌++◌, length, Option, Some, None, is_some, slice_get, if◌then◌else◌}
use Rattle.std.proofs.Common.{refl, sym, ap, ◌∙◌, subst, append_assoc, inl, inr, arith}
use Rattle.std.proofs.lemmas.Bool.{true≢false, eq-eqb}
use Rattle.disk_trait.specs.declared.ids.PoolId.{PoolId}
use Rattle.disk_trait.specs.declared.ids.FileId.TheVariants as F
use Rattle.disk_trait.specs.Files.{Files}
use Rattle.intent_journal.specs.declared.changes.Change.{Change}
use Rattle.intent_journal.specs.Changes.{applied}
use Rattle.attr_tables.specs.declared.layouts.TableLayout.TheVariants.{Second}
use Rattle.attr_tables.specs.Layout.{IsTable}
use Rattle.attr_tables.specs.Tables.{table_file}
use Rattle.backup_rules.specs.declared.lines.Line.{Line}
use Rattle.backup_rules.specs.Fill.{stays_filled}
use Rattle.merge_view.specs.Views.{Rows}
use Rattle.ref_counts.specs.Numbers.{Items, total}
use Rattle.ref_counts.specs.Layout.{IsCounts}
use Rattle.ref_counts.specs.CountsFile.{counts_file}
use Rattle.ref_counts.specs.Stored.{Backup as StoredBackup, StoredHost, counted, with_new, older_tables}
use Rattle.ref_counts.specs.StoredLaws.{stored-before}
use Rattle.office_model.specs.Office.{Host, Backup, Dump, AreNumbered, backup_index, number_limit}
use Rattle.office_model.specs.Parts.{lines_of, filled_as, with_newest}
use Rattle.office_model.specs.events.Commit.{new_backup, with_commit}
use Rattle.office_files.specs.Layouts.{IsHostFile, IsTableFile, IsCountsFile}
use Rattle.office_files.specs.Hosts.{index_of_host, IsShown, StandsHost}
use Rattle.office_model.specs.Pairs.{AtEachPair}
use Rattle.office_model.specs.PairsLaws.{pairs_each, pairs_push, pairs_front, pairs_last, last_there, longer}
use Rattle.office_changes.specs.ChangeLaws.{shown_given}
use Rattle.office_changes.specs.CommitLaws.{with_newest-push, backups_alone, host_first_committed}
use Rattle.store_parts.specs.Held.{AreCounts}
use Rattle.store_commits.specs.declared.files.HostFiles.{HostFiles}
use Rattle.store_commits.specs.declared.former.Folding.{Folding}
use Rattle.store_commits.specs.Former.{dropped_of, IsFolded}
use Rattle.store_commits.specs.Planned.{IsCountedBy, IsFormerFile}
use Rattle.store_commits.specs.Written.{host_part}
use Rattle.store_commits.specs.WrittenLaws.{IsFormer, AreOfIndex, at_host, at_counts, at_no_partial}
use Rattle.store_commits.specs.HostLaws.{HasLast, ends, new_stored, IsWritten, host_further, none_beyond}
use Rattle.store_commits.specs.LineLaws.{dropped_newest}
use Rattle.office_changes.specs.BoundLaws.{few_counted}
use Rattle.store_commits.specs.CountsLaws.{IsFormerFolding, AreLeft, counts_first, counts_further, counts_written}
use Rattle.store_commits.specs.HostFileLaws.{table_after, folding_of, former_after, others_after, others_first}

-- ---- lists whose last element changes, with one behind it

pub record StillAt {A B : Type 0} (part : A → B) (b : A) (found : Option A) : Type 0 where
  pub now : A
  pub is : found ≡ Some now
  pub same : part now ≡ part b

still_at : {A B : Type 0} (part : A → B) (xs : List A) (x x' y : A) → part x' ≡ part x → (i : ℕ) (b : A) → slice_get (xs ++ x ∷ []) i ≡ Some b
    → StillAt part b (slice_get (xs ++ x' ∷ y ∷ []) i)
still_at part [] x x' y same zero b e =
    let is : x ≡ b = cc in record { now = x'; is = refl; same = same ∙ ap part is }
still_at part [] x x' y same (suc i) b e = absurd cc
still_at part (z ∷ xs) x x' y same zero b e = let is : z ≡ b = cc in record { now = z; is = refl; same = ap part is }
still_at part (z ∷ xs) x x' y same (suc i) b e = still_at part xs x x' y same i b e

-- ---- what was built

-- the files of a host for a dump with these rows
pub record IsBuiltOf (told : Option Files) (number : ℕ) (host : Host) (dump : Dump) (line : Line) (rows : Rows)
    (parked : Option Rows) (folding : Option Folding) (old_items items : Items) (bytes : Option (List ℕ)) (files : HostFiles) : Type 0 where
  pub index : IsHostFile (index_of_host number (with_commit host dump line)) bytes
  pub table : IsTable Second rows × (files.table ≡ table_file Second rows)
  pub counts : IsCounts items × (files.counts ≡ counts_file number items)
  pub former : IsFormerFile folding files.former
  pub free : host.next ≤ line.number
  pub is_former : IsFormer line.number files.former
  pub folded : IsFolded told number (dropped_of host.rules (lines_of host.backups)) rows folding
  pub parked_is : files.parked ≡ is_some parked
  pub are_counted : IsCountedBy old_items parked folding rows items

-- a backup that is there is there still, and shows the same
abbrev pub AreStill : List Backup → List StoredBackup → List Backup → List StoredBackup → Type 0
AreStill backups shown backups' shown' = (i : ℕ) (b : Backup) (s : StoredBackup) → slice_get backups i ≡ Some b → slice_get shown i ≡ Some s
    → StillAt (λ (b : Backup). b.line.number) b (slice_get backups' i) × StillAt (λ (s : StoredBackup). s.rows) s (slice_get shown' i)

pub record HostAfter (given : PoolId → Type 0) (contents : PoolId → List ℕ) (image : Files) (number : ℕ) (host new : Host)
    (items : Items) (shown : List StoredBackup) : Type 0 where
  pub after : List StoredBackup
  pub stands : StandsHost given contents image number new (backups_alone after)
  pub counted : AreCounts items (backups_alone after)
  pub beyond : (n : ℕ) → is_some (backup_index new.backups n) ≡ false → image (F.Table number n) ≡ None
  pub still : AreStill host.backups shown new.backups after

module _ (given given' : PoolId → Type 0) (contents contents' : PoolId → List ℕ)
    (same : (id : PoolId) → given id → given' id × (contents id ≡ contents' id)) (told : Option Files) (all : Files) (is_told : told ≡ Some all)
    (number : ℕ) (host : Host) (dump : Dump) (line : Line) (rows : Rows) (parked : Option Rows) (folding : Option Folding)
    (old_items items : Items) (pooled : List Change) (bytes : Option (List ℕ))
    (files : HostFiles) (of_index : AreOfIndex pooled) (built : IsBuiltOf told number host dump line rows parked folding old_items items bytes files)
    (before : AreNumbered host.next host.backups)
    (limit : (with_commit host dump line).next ≤ number_limit) (few : length rows ≤ 1048576)
    (numbered : AreNumbered (with_commit host dump line).next (with_commit host dump line).backups)
    (fresh : IsShown given' contents' (new_backup dump line) (new_stored rows))
    (none : (n : ℕ) → is_some (backup_index host.backups n) ≡ false → all (F.Table number n) ≡ None)
    (known : parked ≡ None → all (F.Partial number) ≡ None) where
  abbrev image : Files
  image = applied (pooled ++ host_part number line.number bytes files) all

  abbrev new : Host
  new = with_commit host dump line

  index : IsHostFile (index_of_host number new) (image (F.Host number))
  index = subst (IsHostFile (index_of_host number new)) (sym (at_host pooled number line.number bytes files all of_index built.is_former)) built.index

  table : IsTableFile rows (image (F.Table number line.number))
  table = table_after pooled number line.number bytes files all of_index built.is_former rows built.table.0 built.table.1

  counts_at : (count : PoolId → ℕ) → IsCountsFile number count (Some (counts_file number items)) → IsCountsFile number count (image (F.Counts number))
  counts_at count = subst (IsCountsFile number count)
      (sym (at_counts pooled number line.number bytes files all of_index built.is_former ∙ ap (λ (b : List ℕ). Some b) built.counts.1))

  absent : image (F.Partial number) ≡ None
  absent =
      at_no_partial pooled number line.number bytes files all of_index built.is_former (λ e. known (none_known parked (sym built.parked_is ∙ e)))
    where
      none_known : (rows : Option Rows) → is_some rows ≡ false → rows ≡ None
      none_known None e = refl
      none_known (Some rows) e = absurd cc

  -- what is stored of the host
  abbrev with_partial : List StoredBackup → Option Rows → StoredHost
  with_partial backups partial = record { backups = backups; partial = partial }

  -- the first backup
  module _ (shown : List StoredBackup) (partial : Option Rows) (stands : StandsHost given contents all number host (with_partial shown partial))
      (left : AreLeft old_items parked shown) (was : host.backups ≡ []) where
    none_folded : folding ≡ None
    none_folded = subst (λ (b : List Backup). IsFolded told number (dropped_of host.rules (lines_of b)) rows folding) was built.folded

    none_shown : shown ≡ []
    none_shown = no_more shown (stands.shown.counted ∙ ap length was)
      where
        no_more : (xs : List StoredBackup) → length xs ≡ 0 → xs ≡ []
        no_more [] e = refl
        no_more (x ∷ xs) e = absurd (omega (arith, e))

    one_backup : new.backups ≡ new_backup dump line ∷ []
    one_backup = ap (λ (b : List Backup). with_newest host.rules b (new_backup dump line)) was

    not_found : (n : ℕ) → is_some (backup_index new.backups n) ≡ false → n ≢ line.number
    not_found n e same =
        true≢false (sym (found (line.number == n) (eq-eqb line.number n (sym same)))
        ∙ ap (λ (b : List Backup). is_some (backup_index b n)) (sym one_backup) ∙ e)
      where
        found : (b : Bool) → b ≡ true → is_some {T = ℕ} (if b then Some 0 else None) ≡ true
        found b is = ap (λ (b : Bool). is_some {T = ℕ} (if b then Some 0 else None)) is

    counted_first : AreCounts items (backups_alone (new_stored rows ∷ []))
    counted_first =
        counts_first items old_items parked rows
        (subst (λ (f : Option Folding). IsCountedBy old_items parked f rows items) none_folded built.are_counted)
        (subst (AreLeft old_items parked) none_shown left) few

    host_first : HostAfter given' contents' image number host new items shown
    host_first = record {
      after = new_stored rows ∷ [];
      stands = host_first_committed given' contents' image number new (new_backup dump line) (new_stored rows) one_backup fresh index table
          refl absent
          (counts_at (λ id. total id (counted (backups_alone (new_stored rows ∷ []))))
          (counts_written number items (backups_alone (new_stored rows ∷ [])) built.counts.0 counted_first));
      counted = counted_first;
      beyond = λ n e.
          others_first pooled number line.number bytes files all of_index built.is_former folding n none_folded built.former (not_found n e)
          ∙ none n (ap (λ (b : List Backup). is_some (backup_index b n)) was);
      still = λ i b s e f. nothing i b (ap (λ (b : List Backup). slice_get b i) (sym was) ∙ e);
    }
      where
        nothing : (i : ℕ) (b : Backup) {A : Type 0} → slice_get [] i ≡ Some b → A
        nothing i b e = absurd cc

  -- a further one
  module _ (older : List Backup) (newest : Backup) (were : host.backups ≡ older ++ newest ∷ []) (olds : List StoredBackup) (last : StoredBackup)
      (partial : Option Rows) (stands : StandsHost given contents all number host (with_partial (olds ++ last ∷ []) partial))
      (left : AreLeft old_items parked (olds ++ last ∷ [])) where
    abbrev stays : Bool
    stays = stays_filled host.rules newest.line

    abbrev kept : StoredBackup
    kept = record { filled = stays; rows = last.rows }

    abbrev IsTableAt : Backup → Rows → Type 0
    IsTableAt b rows = IsTableFile rows (all (F.Table number b.line.number))

    table_last : IsTableFile last.rows (all (F.Table number newest.line.number))
    table_last =
        pairs_last IsTableAt older newest (older_tables olds last) last.rows
        (subst (λ (l : List Backup). AtEachPair (λ i. IsTableAt) l (older_tables olds last ++ last.rows ∷ [])) were
        (subst (λ (l : List Rows). AtEachPair (λ i. IsTableAt) host.backups l) (stored-before olds last) stands.tables))

    folded : IsFolded told number (if stays then None else Some newest.line) rows folding
    folded = subst (λ (d : Option Line). IsFolded told number d rows folding)
        (ap (λ (b : List Backup). dropped_of host.rules (lines_of b)) were ∙ dropped_newest host.rules older newest) built.folded

    fold : IsFormerFolding stays last.rows rows folding
    fold = folding_of told all number newest.line stays last.rows rows folding is_told table_last folded

    below : newest.line.number < host.next
    below = before.below (length older) newest (ap (λ (l : List Backup). slice_get l (length older)) were ∙ last_there older newest)

    pushed : new.backups ≡ (older ++ filled_as stays newest ∷ []) ++ new_backup dump line ∷ []
    pushed = ap (λ (b : List Backup). with_newest host.rules b (new_backup dump line)) were
        ∙ with_newest-push host.rules older newest (new_backup dump line)

    shown_after : AtEachPair (λ i. IsShown given' contents') new.backups (with_new olds last stays (new_stored rows))
    shown_after =
        let was : AtEachPair (λ i. IsShown given contents) (older ++ newest ∷ []) (olds ++ last ∷ []) =
        subst (λ (l : List Backup). AtEachPair (λ i. IsShown given contents) l (olds ++ last ∷ [])) were stands.shown in
        let front = pairs_each (λ i. IsShown given contents) (λ i. IsShown given' contents') older olds
        (λ i x y e f. shown_given given given' contents contents' same x y) (pairs_front (IsShown given contents) older newest olds last was) in
        let is = shown_given given given' contents contents' same newest last (pairs_last (IsShown given contents) older newest olds last was) in
        let two = pairs_push (IsShown given' contents') (older ++ filled_as stays newest ∷ []) (olds ++ kept ∷ [])
        (pairs_push (IsShown given' contents') older olds front (filled_as stays newest) kept
        (record { filled = refl; tree = is.tree; whole = is.whole; told = is.told })) (new_backup dump line) (new_stored rows) fresh in
        subst (λ (l : List Backup). AtEachPair (λ i. IsShown given' contents') l (with_new olds last stays (new_stored rows))) (sym pushed)
        (subst (λ (l : List StoredBackup). AtEachPair (λ i. IsShown given' contents')
        ((older ++ filled_as stays newest ∷ []) ++ new_backup dump line ∷ []) l) (append_assoc olds (kept ∷ []) (new_stored rows ∷ [])) two)

    counted_further : AreCounts items (backups_alone (with_new olds last stays (new_stored rows)))
    counted_further =
        counts_further items old_items parked folding rows olds last stays built.are_counted fold left
        (few_counted given contents host.next host.backups (olds ++ last ∷ []) before (omega (arith, limit, built.free)) stands.shown)
        (few_counted given' contents' new.next new.backups (with_new olds last stays (new_stored rows)) numbered limit shown_after)

    is_written : IsWritten all image number host dump line newest olds last rows
    is_written = record {
      index = index;
      table = table;
      former = former_after pooled number line.number bytes files all of_index built.is_former told newest.line stays last.rows rows folding table_last
          built.former folded fold (λ e. omega (arith, e, below, built.free));
      others = λ n a b.
          others_after pooled number line.number bytes files all of_index built.is_former told newest.line stays rows folding n built.former folded a b;
      no_partial = absent;
      counts = counts_at (λ id. total id (counted (backups_alone (with_new olds last stays (new_stored rows)))))
          (counts_written number items (backups_alone (with_new olds last stays (new_stored rows))) built.counts.0 counted_further);
    }

    host_last : HostAfter given' contents' image number host new items (olds ++ last ∷ [])
    host_last = record {
      after = with_new olds last stays (new_stored rows);
      stands = host_further given given' contents contents' same all image number host dump line newest older olds last rows were numbered is_written
          fresh partial stands;
      counted = counted_further;
      beyond = none_beyond given given' contents contents' same all image number host dump line newest older olds last rows were numbered is_written
          none;
      still = λ i b s e f. (
        subst (λ (l : List Backup). StillAt (λ (b : Backup). b.line.number) b (slice_get l i))
            (sym (pushed ∙ append_assoc older (filled_as stays newest ∷ []) (new_backup dump line ∷ [])))
            (still_at (λ (b : Backup). b.line.number) older newest (filled_as stays newest) (new_backup dump line) refl i b
            (ap (λ (l : List Backup). slice_get l i) (sym were) ∙ e)),
        still_at (λ (s : StoredBackup). s.rows) olds last kept (new_stored rows) refl i s f,
      );
    }

  host_with : (shown : List StoredBackup) (partial : Option Rows) → StandsHost given contents all number host (with_partial shown partial)
      → AreLeft old_items parked shown → HasLast host.backups → (shown ≡ []) ⊎ HasLast shown
      → HostAfter given' contents' image number host new items shown
  host_with shown partial stands left was (inl none) =
      absurd (more_there was.front was.last (sym (ap length was.is) ∙ sym stands.shown.counted ∙ ap length none))
    where
      more_there : (xs : List Backup) (x : Backup) → length (xs ++ x ∷ []) ≡ 0 → ⊥
      more_there xs x e = let all = longer xs x in omega (arith, e, all)
  host_with shown partial stands left was (inr more) =
      subst (λ (s : List StoredBackup). HostAfter given' contents' image number host new items s) (sym more.is)
      (host_last was.front was.last was.is more.front more.last partial
      (subst (λ (s : List StoredBackup). StandsHost given contents all number host (with_partial s partial)) more.is stands)
      (subst (AreLeft old_items parked) more.is left))

  pub host_after : (shown : List StoredBackup) (partial : Option Rows) → StandsHost given contents all number host (with_partial shown partial)
      → AreLeft old_items parked shown → HostAfter given' contents' image number host new items shown
  host_after shown partial stands left = step (ends host.backups)
    where
      step : (host.backups ≡ []) ⊎ HasLast host.backups → HostAfter given' contents' image number host new items shown
      step (inl was) = host_first shown partial stands left was
      step (inr was) = host_with shown partial stands left was (ends shown)
