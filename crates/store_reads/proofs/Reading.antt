-- A Lookup and a ReadFile answer what the rows that are kept say.
use Rattle.std.specs.Prelude.{◌≡◌, ℕ, true, nat_lt, List, length, Option, Some, None, Ok, Err}
use Rattle.std.proofs.Common.{refl, sym, ap, ◌∙◌, subst}
use Rattle.fault_counts.specs.Counts.{Counted}
use Rattle.disk_trait.specs.declared.ids.PoolId.{PoolId}
use Rattle.disk_trait.specs.declared.disk.Disk.{Ghosts as DiskGhosts}
use Rattle.disk_trait.specs.Files.{Files}
use Rattle.pool_name.specs.declared.namer.Namer.{Ghosts as NamerGhosts}
use Rattle.attr_records.specs.Trees.{node_at}
use Rattle.attr_records.specs.declared.trees.PutRule.TheVariants.{FileTooLarge}
use Rattle.attr_tables.specs.declared.records.Record.{Record}
use Rattle.journal_view.specs.View.{told}
use Rattle.journal_view.specs.ViewLaws.{Quiet-then}
use Rattle.merge_view.specs.Views.{Rows}
use Rattle.backup_views.specs.declared.kept.Views.{Views}
use Rattle.pool_changes.specs.declared.slot.Slot.{Slot}
use Rattle.pool_changes.specs.declared.slot.Slot.TheVariants.{Live, Staged, Doomed}
use Rattle.pool_changes.specs.Slots.{is_live, is_given}
use Rattle.pool_changes.specs.Kept.{slots_of}
use Rattle.pool_changes.specs.Listed.{index_of}
use Rattle.pool_store.specs.declared.pool.Pool.{Pool}
use Rattle.stored_trees.specs.Resolved.{bytes_of}
use Rattle.office_model.specs.declared.answer.Answer.TheVariants.{Entry, Content}
use Rattle.office_model.specs.declared.event.Event.TheVariants.{Lookup, ReadFile}
use Rattle.tree_frames.specs.declared.nodes.Node.{Node}
use Rattle.office_model.specs.declared.refusal.BrokenRule.{BrokenRule}
use Rattle.office_model.specs.declared.refusal.BrokenRule.TheVariants.{NoPath, Put as PutRule}
use Rattle.office_model.specs.declared.refusal.Refusal.{Refusal}
use Rattle.office_model.specs.declared.refusal.Refusal.TheVariants.{Broken, Halted, DiskFault, Damaged, Memory}
use Rattle.office_model.specs.Office.{Office, Names, answer_limit}
use Rattle.tree_frames.specs.Frames.{node_of}
use Rattle.office_model.specs.Meaning.{◌>>=◌, ◌>>◌, found, breaks}
use Rattle.office_model.specs.Parts.{backup_of}
use Rattle.office_model.specs.events.Lookup as LookupEvent
use Rattle.office_model.specs.events.ReadFile as ReadFileEvent
use Rattle.office_files.specs.Pooled.{contents_of, IsListed}
use Rattle.store_parts.specs.declared.parts.StoreParts.{StoreParts}
use Rattle.store_parts.specs.Held.{given, IsKeptView}
use Rattle.store_parts.specs.States.{slots, IsRunning}
use Rattle.store_parts.specs.StoredLaws.{listed_live}
use Rattle.store_parts.specs.Runs.{Reads, Runs}
use Rattle.store_parts.specs.RunLaws.{running_reads, counted_fine, counted_then}
use Rattle.store_reads.specs.Shown.{node_told, content_told, Answers, IsGivenContent, IsLoaded, IsRefusal, IsContentFault, Looks}
use Rattle.store_reads.specs.ShownLaws.{node_shown, content_shown, given_shown}
use Rattle.store_reads.proofs.Answering.{Failed, answers_fine, refused_later, refused_answer, runs_ok, runs_err}

-- a live name is a given one
live_given : (slot : Option Slot) → is_live slot ≡ true → is_given slot ≡ true
live_given None e = e
live_given (Some (Live size mark claims)) e = refl
live_given (Some (Staged size claims)) e = refl
live_given (Some Doomed) e = e

module _ {D N S : Type 0} {d : DiskGhosts D} {n : NamerGhosts N S} where
  abbrev count_of : StoreParts D N S d n → ℕ
  count_of parts = d.fault_count parts.journal.disk

  -- a further read
  pub reads_then : (old mid new : StoreParts D N S d n) → Reads old mid → Looks mid new → Reads old new
  reads_then old mid new reads looks = record {
    quiet = Quiet-then old.journal mid.journal new.journal reads.quiet looks.quiet;
    pool_same = looks.pool_same ∙ reads.pool_same;
    catalog_same = looks.catalog_same ∙ reads.catalog_same;
    counts_same = looks.counts_same ∙ reads.counts_same;
    partials_same = looks.partials_same ∙ reads.partials_same;
    sessions_same = looks.sessions_same ∙ reads.sessions_same;
    halted_same = looks.halted_same ∙ reads.halted_same;
    view = λ office names at.
        subst (λ (views : Views). IsKeptView views.kept office.hosts at.shown) (sym looks.views_same) (reads.view office names at);
  }

  -- ---- Lookup

  module _ (old new : StoreParts D N S d n) (name : List ℕ) (number : ℕ) (path : List ℕ) (reads : Reads old new) where
    pub lookup_refused : (refusal : Refusal) → IsRefusal old (λ office. backup_of office.hosts name number) refusal
        → Counted (count_of old) (count_of new) (Failed {T = Unit {0}} (Err refusal)) → Runs old (Lookup name number path) (Err refusal) new
    lookup_refused refusal is counted =
        runs_err old (Lookup name number path) (λ office. LookupEvent.node_of_path office.hosts name number path) Entry
        (λ office names. refl) (λ office names. refl) (λ office names answer. refl) (λ x. refl) refl new refusal reads
        (refused_later old (λ office. backup_of office.hosts name number)
        (λ backup. found NoPath (node_at backup.tree path) >>= λ item. Ok (node_of item)) refusal is) counted

    module _ (rows : Rows) (loaded : IsLoaded old name number rows) (record_at : Option Record)
        (at_path : record_at ≡ node_at rows path) where
      lookup_told : (office : Office) (names : Names) → IsRunning old office names
          → LookupEvent.node_of_path office.hosts name number path ≡ node_told record_at
      lookup_told office names at =
          node_shown (IsListed (index_of (slots old))) (contents_of at.all) office.hosts name number rows (loaded office names at) path
          ∙ ap node_told (sym at_path)

      pub lookup_ok : (node : Node) {failed : Type 0} → node_told record_at ≡ Ok node → Counted (count_of old) (count_of new) failed
          → (failed → ⊥) → Runs old (Lookup name number path) (Ok (Entry node)) new
      lookup_ok node e counted fine =
          runs_ok old (Lookup name number path) (λ office. LookupEvent.node_of_path office.hosts name number path) Entry
          (λ office names. refl) (λ office names. refl) (λ office names answer. refl) (λ x. refl) refl new node reads
          (λ office names at. lookup_told office names at ∙ e) counted fine

      pub lookup_err : (refusal : Refusal) {failed : Type 0} → Answers {A = Node} (node_told record_at) (Err refusal)
          → Counted (count_of old) (count_of new) failed → (failed → ⊥) → Runs old (Lookup name number path) (Err refusal) new
      lookup_err refusal answers counted fine =
          runs_err old (Lookup name number path) (λ office. LookupEvent.node_of_path office.hosts name number path) Entry
          (λ office names. refl) (λ office names. refl) (λ office names answer. refl) (λ x. refl) refl {T = Node} new refusal reads
          (refused_answer old (λ office. LookupEvent.node_of_path office.hosts name number path)
          (node_told record_at) refusal lookup_told answers)
          (counted_fine counted fine (answers_fine (node_told record_at) refusal answers))

  -- ---- ReadFile

  module _ (old mid : StoreParts D N S d n) (name : List ℕ) (number : ℕ) (path : List ℕ) (reads : Reads old mid) where
    pub file_refused : (refusal : Refusal) → IsRefusal old (λ office. backup_of office.hosts name number) refusal
        → Counted (count_of old) (count_of mid) (Failed {T = Unit {0}} (Err refusal))
        → Runs old (ReadFile name number path) (Err refusal) mid
    file_refused refusal is counted =
        runs_err old (ReadFile name number path) (λ office. ReadFileEvent.read_of office.hosts name number path) Content
        (λ office names. refl) (λ office names. refl) (λ office names answer. refl) (λ x. refl) refl mid refusal reads
        (refused_later old (λ office. ReadFileEvent.file_of office.hosts name number path)
        (λ bytes. breaks (PutRule FileTooLarge) (nat_lt answer_limit (length bytes)) >> Ok bytes) refusal
        (refused_later old (λ office. backup_of office.hosts name number)
        (λ backup. found NoPath (node_at backup.tree path) >>= ReadFileEvent.file_bytes) refusal is)) counted

    module _ (rows : Rows) (loaded : IsLoaded old name number rows) (record_at : Option Record)
        (at_path : record_at ≡ node_at rows path) where
      read_told : (office : Office) (names : Names) (at : IsRunning old office names)
          → ReadFileEvent.read_of office.hosts name number path
          ≡ (content_told record_at >>= λ content. Ok (bytes_of (contents_of at.all) content))
      read_told office names at =
          content_shown (IsListed (index_of (slots old))) (contents_of at.all) office.hosts name number rows (loaded office names at) path
          ∙ ap (λ (o : Option Record). content_told o >>= λ content. Ok (bytes_of (contents_of at.all) content)) (sym at_path)

      pub file_rule : (rule : BrokenRule) {failed : Type 0} → content_told record_at ≡ Err rule
          → Counted (count_of old) (count_of mid) failed
          → (failed → ⊥) → Runs old (ReadFile name number path) (Err (Broken rule)) mid
      file_rule rule e counted fine =
          runs_err old (ReadFile name number path) (λ office. ReadFileEvent.read_of office.hosts name number path) Content
          (λ office names. refl) (λ office names. refl) (λ office names answer. refl) (λ x. refl) refl {T = Node} mid (Broken rule) reads
          (λ office names at. read_told office names at ∙ ap (λ j. j >>= λ content. Ok (bytes_of (contents_of at.all) content)) e)
          (counted_fine counted fine (λ e. cc))

      module _ (new : StoreParts D N S d n) (looks : Looks mid new) (content : Option PoolId) (is : content_told record_at ≡ Ok content)
          {failed : Type 0} (counted : Counted (count_of old) (count_of mid) failed) (fine : failed → ⊥) where
        content_live : (office : Office) (names : Names) → IsRunning old office names → IsGivenContent (given (slots mid)) content
        content_live office names at =
            step content
            (given_shown (IsListed (index_of (slots old))) (contents_of at.all) office.hosts name number rows
            (loaded office names at) path content (ap content_told (sym at_path) ∙ is))
          where
            step : (content : Option PoolId) → IsGivenContent (IsListed (index_of (slots old))) content
                → IsGivenContent (given (slots mid)) content
            step None listed = tt
            step (Some id) listed =
                ap (λ (p : Pool N S n). is_given (slots_of p.names id)) reads.pool_same
                ∙ live_given (slots old id) (listed_live (slots old) id listed)

        pub file_ok : (bytes : List ℕ) {also : Type 0}
            → ((all : Files) → told mid.journal ≡ Some all → bytes ≡ bytes_of (contents_of all) content)
            → Counted (count_of mid) (count_of new) also → (also → ⊥) → Runs old (ReadFile name number path) (Ok (Content bytes)) new
        file_ok bytes read more fine_too =
            runs_ok old (ReadFile name number path) (λ office. ReadFileEvent.read_of office.hosts name number path) Content
            (λ office names. refl) (λ office names. refl) (λ office names answer. refl) (λ x. refl) refl new bytes (reads_then old mid new reads looks)
            (λ office names at. read_told office names at
            ∙ ap (λ j. j >>= λ content. Ok (bytes_of (contents_of at.all) content)) is
            ∙ ap (λ (b : List ℕ). Ok b) (sym (read at.all (reads.quiet.told_same ∙ at.told_is))))
            (counted_then counted fine more) fine_too

        file_fault : (refusal : Refusal) → IsContentFault mid content refusal
            → IsRefusal old (λ office. ReadFileEvent.read_of office.hosts name number path) refusal
        file_fault (Damaged file found) fault = λ office names at.
            fault office names (running_reads old mid office names at reads) (content_live office names at)
        file_fault DiskFault fault = tt
        file_fault Memory fault = tt
        file_fault Halted fault = absurd fault
        file_fault (Broken rule) fault = absurd fault

        pub file_err : (refusal : Refusal) → IsContentFault mid content refusal
            → Counted (count_of mid) (count_of new) (Failed {T = List ℕ} (Err refusal))
            → Runs old (ReadFile name number path) (Err refusal) new
        file_err refusal fault more =
            runs_err old (ReadFile name number path) (λ office. ReadFileEvent.read_of office.hosts name number path) Content
            (λ office names. refl) (λ office names. refl) (λ office names answer. refl) (λ x. refl) refl new refusal (reads_then old mid new reads looks)
            (file_fault refusal fault) (counted_then counted fine more)
