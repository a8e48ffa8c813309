-- What an opening of a reader leaves.
use Rattle.std.specs.Prelude.{◌≡◌, ◌<◌, ◌≤◌, ◌+◌, ◌-◌, ◌^◌, ℕ, true, false, List, [], ◌∷◌, ◌++◌, length, nat_le, Option, Some, None, Ok, Err}
use Rattle.std.proofs.Common.{refl, sym, ap, ◌∙◌, subst, arith}
use Rattle.std.proofs.lemmas.Bool.Decides.{nat_tests}
use Rattle.fault_counts.specs.Counts.{Counted}
use Rattle.disk_trait.specs.declared.ids.PoolId.{PoolId}
use Rattle.disk_trait.specs.declared.disk.Disk.{Ghosts as DiskGhosts}
use Rattle.disk_trait.specs.Files.{Files}
use Rattle.pool_name.specs.declared.namer.Namer.{Ghosts as NamerGhosts}
use Rattle.attr_records.specs.Trees.{node_at}
use Rattle.attr_tables.specs.declared.records.Record.{Record}
use Rattle.attr_tables.specs.declared.records.StoredFile.{StoredFile}
use Rattle.intent_journal.specs.declared.journal.Journal.{Journal}
use Rattle.journal_view.specs.View.{Quiet}
use Rattle.merge_view.specs.Views.{Rows}
use Rattle.pool_changes.specs.declared.slot.Slot.{Slot}
use Rattle.pool_changes.specs.declared.slot.Slot.TheVariants.{Live, Staged, Doomed}
use Rattle.pool_changes.specs.Slots.{is_live, is_given}
use Rattle.pool_changes.specs.Kept.{slots_of}
use Rattle.pool_changes.specs.Listed.{index_of}
use Rattle.pool_store.specs.declared.pool.Pool.{Pool}
use Rattle.stored_trees.specs.Resolved.{bytes_of, IsToldContent}
use Rattle.office_model.specs.declared.answer.Answer.TheVariants.{Opened}
use Rattle.office_model.specs.declared.event.Event.TheVariants.{OpenFile}
use Rattle.office_model.specs.declared.refusal.BrokenRule.{BrokenRule}
use Rattle.office_model.specs.declared.refusal.BrokenRule.TheVariants.{NumbersSpent}
use Rattle.office_model.specs.declared.refusal.Refusal.{Refusal}
use Rattle.office_model.specs.declared.refusal.Refusal.TheVariants.{Broken, Halted, DiskFault, Damaged, Memory}
use Rattle.office_model.specs.Meaning.{◌>>=◌}
use Rattle.office_model.specs.Office.{Office, Names, last_sequence, with_readers}
use Rattle.office_model.specs.Parts.{backup_of}
use Rattle.office_model.specs.events.OpenFile.{new_reader}
use Rattle.office_model.specs.events.OpenFile as OpenFileEvent
use Rattle.office_model.specs.events.ReadFile.{file_of}
use Rattle.office_files.specs.Pooled.{contents_of, IsListed}
use Rattle.open_sessions.specs.declared.sessions.Sessions.{Sessions}
use Rattle.open_sessions.specs.ReaderCallLaws.{AreSessions-reader_opened, claims_in-reader_opened}
use Rattle.store_parts.specs.declared.parts.StoreParts.{StoreParts}
use Rattle.store_parts.specs.Held.{given}
use Rattle.store_parts.specs.States.{slots, staging_of, IsRunning}
use Rattle.store_parts.specs.StoredLaws.{listed_live}
use Rattle.store_parts.specs.Runs.{Reads, Runs}
use Rattle.store_parts.specs.RunLaws.{running_reads, counted_fine, runs_refused, runs_memory, runs_read_fault, works_reads}
use Rattle.store_parts.specs.OpenLaws.{runs_never}
use Rattle.store_dumps.specs.Claims.{Gains, claims_of_content}
use Rattle.store_reads.specs.Shown.{file_told, IsGivenContent, IsLoaded, IsRefusal}
use Rattle.store_reads.specs.ShownLaws.{size_told, file_shown, file_told_is}
use Rattle.store_readers.specs.Opening.{fresh, IsOpened, HasOpened, HasKept, OpensFile}
use Rattle.store_readers.proofs.Running.{count_of, near_gained, still_stays, Makes, runs_made, runs_kept}
use Rattle.store_readers.proofs.Passing.{Failed}

-- a live name is a given one
live_given : (slot : Option Slot) → is_live slot ≡ true → is_given slot ≡ true
live_given None e = e
live_given (Some (Live size mark claims)) e = refl
live_given (Some (Staged size claims)) e = refl
live_given (Some Doomed) e = e

spent : (next : ℕ) → 2 ^ 64 - 1 ≤ next → nat_le last_sequence next ≡ true
spent next h = grind (arith, nat_tests)

unspent : (next : ℕ) → next < 2 ^ 64 - 1 → nat_le last_sequence next ≡ false
unspent next h = grind (arith, nat_tests)

told_given : (given : PoolId → Type 0) (contents : PoolId → List ℕ) (size : ℕ) (content : Option PoolId)
    → IsToldContent given contents size content → IsGivenContent given content
told_given given contents size None told = tt
told_given given contents size (Some id) told = told.0

told_live : (listed given : PoolId → Type 0) (contents : PoolId → List ℕ) → ((id : PoolId) → listed id → given id) → (size : ℕ)
    (content : Option PoolId) → IsToldContent listed contents size content → IsToldContent given contents size content
told_live listed given contents live size None told = told
told_live listed given contents live size (Some id) told = (live id told.0, told.1)

module _ {D N S : Type 0} {d : DiskGhosts D} {n : NamerGhosts N S} where
  -- a reader that was opened since the view was kept
  pub opened_reads : (old mid : StoreParts D N S d n) → Reads old mid → (content : Option PoolId) (size : ℕ) (new : Sessions S)
      → IsOpened n.holds mid.sessions content size new → IsOpened n.holds old.sessions content size new
  opened_reads old mid reads content size new opened =
      subst (λ (s : Sessions S). IsOpened n.holds s content size new) reads.sessions_same opened

  module _ (old mid : StoreParts D N S d n) (name : List ℕ) (number : ℕ) (path : List ℕ) (reads : Reads old mid) where
    -- ---- refused

    file_first : (rule : BrokenRule) (office : Office) (names : Names) → file_of office.hosts name number path ≡ Err rule
        → OpenFileEvent.carried name number path names.next_reader office ≡ Err rule
    file_first rule office names e = rw e refl

    pub open_refused : {T : Type 0} (refusal : Refusal) → IsRefusal old (λ office. backup_of office.hosts name number) refusal
        → Counted (count_of old) (count_of mid) (Failed {T = T} (Err refusal)) → Runs old (OpenFile name number path) (Err refusal) mid
    open_refused (Broken rule) is counted =
        runs_refused old mid (OpenFile name number path) rule reads
        (λ office names at. let none = is office names at in file_first rule office names (rw none refl)) (counted_fine counted (λ e. cc) (λ e. e))
    open_refused (Damaged file found) is counted =
        runs_never old mid (OpenFile name number path) (Err (Damaged file found)) is tt (λ e. absurd cc) (works_reads old mid reads)
        reads.quiet.told_same
        (counted_fine counted (λ e. cc) (λ e. cc))
    open_refused DiskFault is counted = runs_read_fault old mid (OpenFile name number path) reads (λ office names. refl) counted refl
    open_refused Memory is counted = runs_memory old mid (OpenFile name number path) reads (counted_fine counted (λ e. cc) (λ e. e))
    open_refused Halted is counted = absurd is

    module _ (rows : Rows) (loaded : IsLoaded old name number rows) (record_at : Option Record) (at_path : record_at ≡ node_at rows path)
        {failed : Type 0} (counted : Counted (count_of old) (count_of mid) failed) (fine : failed → ⊥) where
      -- what the model finds at the path
      shown : (office : Office) (names : Names) (at : IsRunning old office names)
          → file_of office.hosts name number path ≡ (file_told record_at >>= λ file. Ok (bytes_of (contents_of at.all) file.content))
      shown office names at =
          file_shown (IsListed (index_of (slots old))) (contents_of at.all) office.hosts name number rows (loaded office names at) path
          ∙ ap (λ (o : Option Record). file_told o >>= λ file. Ok (bytes_of (contents_of at.all) file.content)) (sym at_path)

      pub open_rule : (rule : BrokenRule) → file_told record_at ≡ Err rule → Runs old (OpenFile name number path) (Err (Broken rule)) mid
      open_rule rule e =
          runs_refused old mid (OpenFile name number path) rule reads
          (λ office names at. file_first rule office names
          (shown office names at ∙ ap (λ j. j >>= λ file. Ok (bytes_of (contents_of at.all) file.content)) e))
          (counted_fine counted fine (λ e. e))

      module _ (file : StoredFile) (is_file : file_told record_at ≡ Ok file) where
        bytes_are : (office : Office) (names : Names) (at : IsRunning old office names)
            → file_of office.hosts name number path ≡ Ok (bytes_of (contents_of at.all) file.content)
        bytes_are office names at =
            shown office names at ∙ ap (λ j. j >>= λ file. Ok (bytes_of (contents_of at.all) file.content)) is_file

        next_is : (office : Office) (names : Names) → IsRunning old office names → mid.sessions.readers.next ≡ names.next_reader
        next_is office names at = ap (λ (s : Sessions S). s.readers.next) reads.sessions_same ∙ at.sessions.numbers.reader

        pub open_spent : 2 ^ 64 - 1 ≤ mid.sessions.readers.next → Runs old (OpenFile name number path) (Err (Broken NumbersSpent)) mid
        open_spent many =
            runs_refused old mid (OpenFile name number path) NumbersSpent reads
            (λ office names at.
            let bytes = bytes_are office names at in
            let number_spent : nat_le last_sequence names.next_reader ≡ true =
            ap (nat_le last_sequence) (sym (next_is office names at)) ∙ spent mid.sessions.readers.next many in
            rw (bytes, number_spent) refl)
            (counted_fine counted fine (λ e. e))

        -- ---- memory

        module _ (new : StoreParts D N S d n) (journal : new.journal ≡ mid.journal) where
          quiet_new : Quiet old.journal new.journal
          quiet_new = subst (λ (j : Journal D d). Quiet old.journal j) (sym journal) reads.quiet

          counted_new : Counted (count_of old) (count_of new) failed
          counted_new = subst (λ (j : Journal D d). Counted (count_of old) (d.fault_count j.disk) failed) (sym journal) counted

        pub open_memory : (new : StoreParts D N S d n) → HasKept mid new → Runs old (OpenFile name number path) (Err Memory) new
        open_memory new kept =
            runs_kept old mid new (OpenFile name number path) (quiet_new new kept.only.journal)
            (kept.only.halted ∙ reads.halted_same) (counted_new new kept.only.journal) fine kept
            (λ office names at. running_reads old mid office names at reads)

        -- ---- opened

        module _ (new : StoreParts D N S d n) (reader : ℕ) (has : HasOpened mid file.content file.size reader new)
            (few : mid.sessions.readers.next < 2 ^ 64 - 1) (office : Office) (names : Names) (at : IsRunning old office names) where
          -- the parts, since the view was kept
          kept : IsRunning mid office names
          kept = running_reads old mid office names at reads

          same_files : at.all ≡ kept.all
          same_files = let same : Some at.all ≡ Some kept.all = sym at.told_is ∙ sym reads.quiet.told_same ∙ kept.told_is in cc

          abbrev bytes : List ℕ
          bytes = bytes_of (contents_of kept.all) file.content

          told : IsToldContent (given (slots mid)) (contents_of kept.all) file.size file.content
          told =
              subst (λ (all : Files). IsToldContent (given (slots mid)) (contents_of all) file.size file.content) same_files
              (subst (λ (p : Pool N S n). IsToldContent (given (slots_of p.names)) (contents_of at.all) file.size file.content)
              (sym reads.pool_same)
              (told_live (IsListed (index_of (slots old))) (given (slots old)) (contents_of at.all)
              (λ id listed. live_given (slots old id) (listed_live (slots old) id listed)) file.size file.content
              (file_told_is (IsListed (index_of (slots old))) (contents_of at.all) office.hosts name number rows (loaded office names at) path
              file (ap file_told (sym at_path) ∙ is_file))))

          gains : Gains (λ id. claims_of_content file.content id) (slots mid) (slots new)
          gains = has.claims (told_given (given (slots mid)) (contents_of kept.all) file.size file.content told)

          abbrev after : Office
          after = with_readers office (office.readers ++ new_reader names.next_reader bytes ∷ [])

          judged : OpenFileEvent.carried name number path names.next_reader office
              ≡ Ok (record { answer = Opened reader file.size; after = after })
          judged =
              let found : file_of office.hosts name number path ≡ Ok bytes =
              bytes_are office names at ∙ ap (λ (all : Files). Ok (bytes_of (contents_of all) file.content)) same_files in
              let unspent_number : nat_le last_sequence names.next_reader ≡ false =
              ap (nat_le last_sequence) (sym (next_is office names at)) ∙ unspent mid.sessions.readers.next few in
              let named : names.next_reader ≡ reader = sym (has.number ∙ next_is office names at) in
              let long : length bytes ≡ file.size = size_told (given (slots mid)) (contents_of kept.all) file.size file.content told in
              rw (found, unspent_number) (λ i. Ok (record { answer = Opened (named i) (long i); after = after }))

          opened : Makes mid (OpenFile name number path) (Opened reader file.size) office names new
          opened = record {
            at = kept;
            stays = still_stays mid new has.only (near_gained (slots mid) (slots new) (λ id. claims_of_content file.content id) gains);
            opens = record {
              now = record office.volatile { readers = office.readers ++ new_reader names.next_reader bytes ∷ [] };
              names' = record names { next_reader = names.next_reader + 1 };
              judged = judged;
              renamed = refl;
              alike = record { used = refl; digest_of = refl; old_hosts = refl };
              sessions = AreSessions-reader_opened mid.sessions new.sessions has.sessions.only n.holds (given (slots mid)) (contents_of kept.all)
                  (staging_of kept.all names) office.volatile kept.sessions file.content file.size has.sessions.digest has.sessions.of_nothing told
                  has.sessions.readers has.sessions.next;
              claimed = λ id. omega (
                arith,
                (gains id).claims,
                kept.claimed id,
                claims_in-reader_opened mid.sessions new.sessions has.sessions.only id
                    (fresh mid.sessions.readers.next file.content file.size has.sessions.digest) has.sessions.readers,
              );
            };
          }

        pub open_made : (new : StoreParts D N S d n) (reader : ℕ) → mid.sessions.readers.next < 2 ^ 64 - 1
            → HasOpened mid file.content file.size reader new → Runs old (OpenFile name number path) (Ok (Opened reader file.size)) new
        open_made new reader few has =
            runs_made old mid new (OpenFile name number path) (quiet_new new has.only.journal)
            (has.only.halted ∙ reads.halted_same) (counted_new new has.only.journal) fine (Opened reader file.size) (opened new reader has few) refl

        -- whatever the files hold
        pub opens_file : (new : StoreParts D N S d n) (reader : ℕ) → HasOpened mid file.content file.size reader new
            → OpensFile n.holds old.sessions path rows (Ok (Opened reader file.size)) new.sessions
        opens_file new reader has = (
          file,
          ap file_told (sym at_path) ∙ is_file,
          ap (λ (k : ℕ). Opened k file.size) (has.number ∙ ap (λ (s : Sessions S). s.readers.next) reads.sessions_same),
          opened_reads old mid reads file.content file.size new.sessions has.sessions,
        )
