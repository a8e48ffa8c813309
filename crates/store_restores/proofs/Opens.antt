-- What an opening of a restore leaves.
use Rattle.std.specs.Prelude.{◌≡◌, ◌<◌, ◌≤◌, ◌+◌, ◌-◌, ◌^◌, ℕ, Bool, true, false, List, [], ◌∷◌, ◌++◌, nat_le, Option, Some, None, Result, Ok, Err, if◌then◌else◌}
use Rattle.std.proofs.Common.{refl, sym, ap, ◌∙◌, subst, arith}
use Rattle.std.proofs.lemmas.Bool.Decides.{nat_tests}
use Rattle.fault_counts.specs.Counts.{Counted}
use Rattle.disk_trait.specs.declared.ids.PoolId.{PoolId}
use Rattle.disk_trait.specs.declared.disk.Disk.{Ghosts as DiskGhosts}
use Rattle.pool_name.specs.declared.namer.Namer.{Ghosts as NamerGhosts}
use Rattle.attr_records.specs.Items.{Tree}
use Rattle.attr_tables.specs.declared.records.Record.{Record}
use Rattle.attr_tables.specs.declared.records.Record.TheVariants.{File, Dir, Link, Deleted}
use Rattle.attr_tables.specs.RecordLaws.{same_id}
use Rattle.intent_journal.specs.declared.journal.Journal.{Journal}
use Rattle.journal_view.specs.ViewLaws.{Quiet-then}
use Rattle.pool_changes.specs.declared.slot.Slot.{Slot}
use Rattle.pool_changes.specs.declared.slot.Slot.TheVariants.{Live, Staged, Doomed}
use Rattle.pool_changes.specs.Slots.{is_live, is_given, claims_of}
use Rattle.pool_changes.specs.Kept.{slots_of}
use Rattle.pool_changes.specs.Listed.{index_of}
use Rattle.pool_store.specs.declared.pool.Pool.{Pool}
use Rattle.merge_view.specs.Views.{Rows}
use Rattle.stored_trees.specs.Resolved.{resolved, IsTold, IsToldContent, AreTold}
use Rattle.stored_trees.specs.ResolvedLaws.{AreTold-kept}
use Rattle.stored_trees.specs.Occurrences.{is_content, names as names_of, occurrences}
use Rattle.office_catalog.specs.Known.{Known}
use Rattle.office_model.specs.declared.answer.Answer.TheVariants.{Restore as RestoreAnswer}
use Rattle.office_model.specs.declared.event.Event.{Event}
use Rattle.office_model.specs.declared.event.Event.TheVariants.{OpenRead}
use Rattle.office_model.specs.declared.refusal.BrokenRule.TheVariants.{NumbersSpent}
use Rattle.office_model.specs.declared.refusal.Refusal.{Refusal}
use Rattle.office_model.specs.declared.refusal.Refusal.TheVariants.{Broken, Halted, DiskFault, Damaged, Memory}
use Rattle.receipts.specs.declared.session.SessionName.{SessionName}
use Rattle.office_model.specs.Meaning.{Carried, Judged, ◌>>=◌, ◌>>◌, breaks}
use Rattle.office_model.specs.Office.{Office, Restore, Names, last_sequence, numbered_as, with_restores}
use Rattle.office_model.specs.laws.StateLaws.{AreSound-carried}
use Rattle.office_model.specs.events.OpenDump.{next_session}
use Rattle.office_model.specs.events.OpenRead as OpenReadEvent
use Rattle.office_files.specs.Pooled.{contents_of, IsListed}
use Rattle.open_sessions.specs.declared.sessions.Sessions.{Sessions}
use Rattle.open_sessions.specs.Opened.{AreRowsOf, IsRestore, claims_in, AreAlike}
use Rattle.open_sessions.specs.Places.{fresh}
use Rattle.open_sessions.specs.PlaceLaws.{IsAt-start}
use Rattle.open_sessions.specs.CallLaws.{AreSessions-restore_opened, claims_in-restore_opened}
use Rattle.store_parts.specs.declared.parts.StoreParts.{StoreParts}
use Rattle.store_parts.specs.Held.{given}
use Rattle.store_parts.specs.States.{slots, IsRunning, staging_of}
use Rattle.store_parts.specs.StoredLaws.{listed_live}
use Rattle.store_parts.specs.Runs.{Runs}
use Rattle.store_parts.specs.RunLaws.{counted_fine, runs_reads, runs_refused, runs_memory, runs_read_fault}
use Rattle.store_dumps.specs.Claims.{Gains}
use Rattle.store_reads.specs.Shown.{ShowsBackup, IsLoaded, IsRefusal, Looks}
use Rattle.store_restores.specs.Opening.{session_of, IsOpened, HasOpened, HasKept}
use Rattle.store_restores.specs.Since.{removed_since, rows_since, ShowsBase, IsBaseLoaded}
use Rattle.store_restores.proofs.Behind.{reads_of}
use Rattle.store_restores.proofs.Parts.{since_part, since_rows, since_frames}
use Rattle.store_restores.proofs.Running.{count_of, near_gained, running_kept, sessions_given, running_stays, runs_ok, runs_same}

-- ---- rows that are told name given contents

module _ (given : PoolId → Type 0) (contents : PoolId → List ℕ) (id : PoolId) where
  content_given : (size : ℕ) (content : Option PoolId) → IsToldContent given contents size content → is_content id content ≡ true → given id
  content_given size None told e = absurd cc
  content_given size (Some other) told e = subst given (same_id other id e) told.0

  node_given : (node : Record) → IsTold given contents node → names_of id node ≡ true → given id
  node_given (File file) told e = content_given file.size file.content told e
  node_given (Dir dir) told e = absurd cc
  node_given (Link link) told e = absurd cc
  node_given Deleted told e = absurd cc

  pub named_given : (rows : Rows) → AreTold given contents rows → 0 < occurrences id rows → given id
  named_given [] told some = absurd (omega (arith, some))
  named_given (row ∷ rows) told some =
      either (names_of id row.1) (node_given row.1 told.0) (λ more. named_given rows told.1 more) some
    where
      either : (b : Bool) → (b ≡ true → given id) → (0 < occurrences id rows → given id) → 0 < (if b then 1 else 0) + occurrences id rows
          → given id
      either true here behind some = here refl
      either false here behind some = behind (omega (arith, some))

-- a live name is a given one
live_given : (slot : Option Slot) → is_live slot ≡ true → is_given slot ≡ true
live_given None e = e
live_given (Some (Live size mark claims)) e = refl
live_given (Some (Staged size claims)) e = refl
live_given (Some Doomed) e = e

abbrev pub Failed : {T : Type 0} → Result T Refusal → Type 0
Failed {T} reply = reply ≡ Err DiskFault

pub not_failed : {T : Type 0} (x : T) → Failed (Ok x) → ⊥
not_failed x e = cc

-- ---- the model

spent : (sequence : ℕ) → 2 ^ 64 - 1 ≤ sequence → nat_le last_sequence sequence ≡ true
spent sequence h = grind (arith, nat_tests)

unspent : (sequence : ℕ) → sequence < 2 ^ 64 - 1 → nat_le last_sequence sequence ≡ false
unspent sequence h = grind (arith, nat_tests)

abbrev opened : Office → Tree → Option Tree → Office
opened office tree base =
    numbered_as (with_restores office (office.restores ++ OpenReadEvent.new_restore (next_session office) tree base ∷ [])) (office.sequence + 1)

module _ {D N S : Type 0} {d : DiskGhosts D} {n : NamerGhosts N S} where
  -- what is open since the files were read
  pub opened_looks : (old mid : StoreParts D N S d n) → Looks old mid → (rows removed given : Rows) (session : SessionName) (new : Sessions S)
      → IsOpened mid.sessions mid.catalog.epoch rows removed given session new
      → IsOpened old.sessions old.catalog.epoch rows removed given session new
  opened_looks old mid looks rows removed given session new opened =
      subst (λ (s : Sessions S). IsOpened s old.catalog.epoch rows removed given session new) looks.sessions_same
      (subst (λ (k : Known). IsOpened mid.sessions k.epoch rows removed given session new) looks.catalog_same opened)

  module _ (old mid : StoreParts D N S d n) (name : List ℕ) (number : ℕ) (base : Option ℕ) (looks : Looks old mid) where
    abbrev event : Event
    event = OpenRead name number base

    -- ---- refused

    pub open_refused : {T : Type 0} (refusal : Refusal) → IsRefusal old (λ office. OpenReadEvent.carried name number base office) refusal
        → Counted (count_of old) (count_of mid) (Failed {T = T} (Err refusal)) → Runs old (OpenRead name number base) (Err refusal) mid
    open_refused (Broken rule) is counted =
        runs_refused old mid event rule (reads_of old mid looks) (λ office names at. is office names at)
        (counted_fine counted (λ e. cc) (λ e. e))
    open_refused (Damaged file found) is counted =
        runs_reads old mid event (Err (Damaged file found)) (reads_of old mid looks)
        (λ office names at. absurd (is office names at)) (λ office names at. absurd (is office names at)) tt
        (λ e. absurd cc) (counted_fine counted (λ e. cc) (λ e. cc))
    open_refused DiskFault is counted =
        runs_read_fault old mid event (reads_of old mid looks) (λ office names. refl) counted refl
    open_refused Memory is counted =
        runs_memory old mid event (reads_of old mid looks) (counted_fine counted (λ e. cc) (λ e. e))
    open_refused Halted is counted = absurd is

    module _ (rows : Rows) (loaded : IsLoaded old name number rows) (older : Option Rows) (loaded_base : IsBaseLoaded old name base older)
        {failed : Type 0} (counted : Counted (count_of old) (count_of mid) failed) (fine : failed → ⊥) where
      module _ (office : Office) (names : Names) (at : IsRunning old office names) where
        abbrev tree_of : Tree
        tree_of = (loaded office names at).backup.tree

        abbrev base_tree : Option Tree
        base_tree = (loaded_base office names at).tree

        judged_by : OpenReadEvent.carried name number base office
            ≡ (breaks NumbersSpent (nat_le last_sequence office.sequence)
            >> Ok (record { answer = RestoreAnswer (next_session office); after = opened office tree_of base_tree }))
        judged_by = rw (loaded office names at).is (rw (loaded_base office names at).is
            (moved (nat_le last_sequence office.sequence)
            (office.restores ++ OpenReadEvent.new_restore (next_session office) tree_of base_tree ∷ [])))
          where
            made : List Restore → Judged Carried
            made restores = Ok (record {
              answer = RestoreAnswer (next_session office);
              after = numbered_as (with_restores office restores) (office.sequence + 1);
            })

            moved : (b : Bool) (restores : List Restore)
                → ((breaks NumbersSpent b >> Ok restores) >>= made) ≡ (breaks NumbersSpent b >> made restores)
            moved true restores = refl
            moved false restores = refl

        sequence_is : office.sequence ≡ mid.sessions.sequence
        sequence_is = sym at.sessions.sequence ∙ ap (λ (s : Sessions S). s.sequence) (sym looks.sessions_same)

      pub open_spent : 2 ^ 64 - 1 ≤ mid.sessions.sequence → Runs old (OpenRead name number base) (Err (Broken NumbersSpent)) mid
      open_spent many =
          runs_refused old mid event NumbersSpent (reads_of old mid looks)
          (λ office names at. judged_by office names at
          ∙ ap (λ b. breaks NumbersSpent b
          >> Ok (record {
            answer = RestoreAnswer (next_session office);
            after = opened office (tree_of office names at) (base_tree office names at);
          }))
          (ap (nat_le last_sequence) (sequence_is office names at) ∙ spent mid.sessions.sequence many))
          (counted_fine counted fine (λ e. e))

      -- ---- memory

      kept_since : (new : StoreParts D N S d n) → HasKept mid new → HasKept old new
      kept_since new kept = record {
        quiet = Quiet-then old.journal mid.journal new.journal looks.quiet kept.quiet;
        catalog = kept.catalog ∙ looks.catalog_same;
        counts = kept.counts ∙ looks.counts_same;
        partials = kept.partials ∙ looks.partials_same;
        views = kept.views ∙ looks.views_same;
        halted = kept.halted ∙ looks.halted_same;
        form = kept.form ∙ ap (λ (p : Pool N S n). p.in_one_file) looks.pool_same;
        sessions = subst (λ (s : Sessions S). AreAlike s new.sessions) looks.sessions_same kept.sessions;
        names = λ id. kept.names id ∙ ap (λ (p : Pool N S n). slots_of p.names id) looks.pool_same;
      }

      pub open_memory : (new : StoreParts D N S d n) → HasKept mid new → new.journal ≡ mid.journal
          → Runs old (OpenRead name number base) (Err Memory) new
      open_memory new kept journal =
          runs_same old new event (kept_since new kept).quiet (kept_since new kept).halted
          (subst (λ (j : Journal D d). Counted (count_of old) (d.fault_count j.disk) failed) (sym journal) counted) fine
          (λ office names at. running_kept old new office names at (kept_since new kept))

      -- ---- opened

      abbrev removed : Rows
      removed = removed_since older rows

      abbrev given_rows : Rows
      given_rows = rows_since older rows

      opened_since : (new : StoreParts D N S d n) (session : SessionName) → HasOpened mid rows removed given_rows session new
          → HasOpened old rows removed given_rows session new
      opened_since new session has = record {
        quiet = Quiet-then old.journal mid.journal new.journal looks.quiet has.quiet;
        catalog = has.catalog ∙ looks.catalog_same;
        counts = has.counts ∙ looks.counts_same;
        partials = has.partials ∙ looks.partials_same;
        views = has.views ∙ looks.views_same;
        halted = has.halted ∙ looks.halted_same;
        form = has.form ∙ ap (λ (p : Pool N S n). p.in_one_file) looks.pool_same;
        sessions = opened_looks old mid looks rows removed given_rows session new.sessions has.sessions;
        claims = subst (λ (p : Pool N S n). ((id : PoolId) → 0 < occurrences id rows → is_given (slots_of p.names id) ≡ true)
            → Gains (λ id. occurrences id rows) (slots_of p.names) (slots new)) looks.pool_same has.claims;
      }

      module _ (new : StoreParts D N S d n) (session : SessionName) (has : HasOpened old rows removed given_rows session new)
          (office : Office) (names : Names) (at : IsRunning old office names) where
        abbrev shows : ShowsBackup (IsListed (index_of (slots old))) (contents_of at.all) office.hosts name number rows
        shows = loaded office names at

        abbrev shows_base : ShowsBase (IsListed (index_of (slots old))) (contents_of at.all) office.hosts name base older
        shows_base = loaded_base office names at

        told : AreTold (given (slots old)) (contents_of at.all) rows
        told = AreTold-kept (IsListed (index_of (slots old))) (given (slots old)) (contents_of at.all) (contents_of at.all)
            (λ id listed. (live_given (slots old id) (listed_live (slots old) id listed), refl)) rows shows.told

        gains : Gains (λ id. occurrences id rows) (slots old) (slots new)
        gains = has.claims (λ id some. named_given (given (slots old)) (contents_of at.all) id rows told some)

        abbrev restore : Restore
        restore = OpenReadEvent.new_restore (next_session office) shows.backup.tree shows_base.tree

        abbrev next : Office
        next = opened office shows.backup.tree shows_base.tree

        named : session ≡ next_session office
        named = has.sessions.name_is ∙ λ i. session_of (ap (λ (k : Known). k.epoch) at.catalog_is i) (at.sessions.sequence i)

        whole_rows : AreRowsOf (given (slots old)) (contents_of at.all) rows
        whole_rows = record { whole = shows.whole; told = told }

        is_restore : IsRestore n.holds (given (slots old)) (contents_of at.all) restore (fresh session rows removed given_rows)
        is_restore = record {
          name = named;
          tree = shows.tree;
          whole = whole_rows;
          rows = since_rows (IsListed (index_of (slots old))) (given (slots old)) (contents_of at.all) shows_base.tree older shows_base.rows
              rows whole_rows;
          part = since_part older rows;
          frames = since_frames (IsListed (index_of (slots old))) (contents_of at.all) at.stands.one shows_base.tree older shows_base.rows
              shows.backup.tree rows shows.tree shows.whole shows.told;
          place = IsAt-start (resolved (contents_of at.all) given_rows) n.holds removed;
        }

        claimed : (id : PoolId) → claims_of (slots new id) ≡ claims_in new.sessions id
        claimed id = omega (
          arith,
          (gains id).claims,
          at.claimed id,
          claims_in-restore_opened old.sessions new.sessions has.sessions.beside id (fresh session rows removed given_rows)
              has.sessions.restores,
        )

        running_opened : OpenReadEvent.carried name number base office ≡ Ok (record { answer = RestoreAnswer session; after = next })
            → IsRunning new next names
        running_opened judged =
            running_stays old new office next names at
            (record {
              quiet = has.quiet;
              catalog = has.catalog;
              counts = has.counts;
              partials = has.partials;
              views = has.views;
              halted = has.halted;
              form = has.form;
              names = near_gained (slots old) (slots new) (λ id. occurrences id rows) gains;
            })
            (sessions_given old new office names at next.volatile (λ id g. (gains id).given ∙ g)
            (AreSessions-restore_opened old.sessions new.sessions has.sessions.beside n.holds (given (slots old)) (contents_of at.all)
            (staging_of at.all names) office.volatile at.sessions restore (fresh session rows removed given_rows)
            is_restore has.sessions.restores has.sessions.sequence))
            claimed refl refl
            (AreSound-carried office names event (RestoreAnswer session) next names at.sound judged refl)

      pub open_made : (new : StoreParts D N S d n) (session : SessionName) → mid.sessions.sequence < 2 ^ 64 - 1
          → HasOpened mid rows removed given_rows session new → new.journal ≡ mid.journal
          → Runs old (OpenRead name number base) (Ok (RestoreAnswer session)) new
      open_made new session few mid_has journal =
          let has = opened_since new session mid_has in
          runs_ok old new event has.quiet has.halted
          (subst (λ (j : Journal D d). Counted (count_of old) (d.fault_count j.disk) failed) (sym journal) counted) fine
          (RestoreAnswer session)
          (λ office names at.
          let after : Office = opened office (tree_of office names at) (base_tree office names at) in
          let passes : nat_le last_sequence office.sequence ≡ false
          = ap (nat_le last_sequence) (sequence_is office names at) ∙ unspent mid.sessions.sequence few in
          let judged : OpenReadEvent.carried name number base office ≡ Ok (record { answer = RestoreAnswer session; after = after })
          = judged_by office names at
          ∙ ap (λ b. breaks NumbersSpent b >> Ok (record { answer = RestoreAnswer (next_session office); after = after })) passes
          ∙ ap (λ (s : SessionName). Ok (record { answer = RestoreAnswer s; after = after }))
          (sym (named new session has office names at)) in
          record { next = after; judged = judged; running = running_opened new session has office names at judged })
          (λ office names. refl) refl
