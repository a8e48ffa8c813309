-- What a put leaves, of an item with its bytes or of a stage, behind what the pool answered.
--     dumps_with office index value path node token      the dumps with a node in one of them, which keeps the token
--     IsPut session path item token office names bytes      what the model says of the put of a node that breaks no rule of trees
--     IsTaken, runs_put, runs_put_back      the node's bytes got a name, and it was put, or the name was let go again
--     sessions_edited, claims_edited      the sessions with the node, and their claims
--     IsMissed, runs_missed      the bytes got no name
use Rattle.std.specs.Prelude.{◌≡◌, ◌<◌, ◌≤◌, ◌+◌, ℕ, true, false, List, length, Option, Some, Ok, Err, slice_get, slice_set, IsErrOf, ◌⊎◌}
use Rattle.std.proofs.Common.{refl, ap, ◌∙◌, sym, subst, inl, inr, arith}
use Rattle.fault_counts.specs.Counts.{Counted}
use Rattle.disk_trait.specs.declared.ids.PoolId.{PoolId}
use Rattle.disk_trait.specs.declared.disk.Disk.{Ghosts as DiskGhosts}
use Rattle.disk_trait.specs.Files.{Files}
use Rattle.disk_trait.specs.Images.{Leaves}
use Rattle.pool_name.specs.declared.namer.Namer.{Ghosts as NamerGhosts}
use Rattle.intent_journal.specs.Overlay.{ComesTo}
use Rattle.intent_journal.specs.declared.journal.Journal.{Journal}
use Rattle.journal_view.specs.View.{uncertain, FindsOnly}
use Rattle.journal_view.specs.ViewLaws.{FindsOnly-each}
use Rattle.attr_records.specs.declared.nodes.Item.{Item}
use Rattle.attr_records.specs.declared.trees.PutRule.{PutRule}
use Rattle.attr_records.specs.Items.{some_bytes}
use Rattle.attr_records.specs.Trees.{node_at}
use Rattle.attr_tables.specs.Records.{IsContentOf}
use Rattle.pool_changes.specs.Slots.{Slots, claims_of, unlisted}
use Rattle.pool_store.specs.declared.fault.PoolFault.{PoolFault}
use Rattle.pool_store.specs.declared.fault.PoolFault.TheVariants as P
use Rattle.pool_store.specs.declared.pool.Pool.{Pool}
use Rattle.pool_store.specs.Pools.{IsCertain, IsNotForeign, Misses}
use Rattle.dump_session.specs.declared.session.PutFault.{PutFault}
use Rattle.dump_session.specs.declared.session.PutFault.TheVariants as PF
use Rattle.open_sessions.specs.declared.sessions.OpenDump.{OpenDump}
use Rattle.open_sessions.specs.declared.sessions.Sessions.{Sessions}
use Rattle.open_sessions.specs.Opened.{keeping_behind, IsFreshFor, AreSessions, claims_in, OnlyDumps, AreAlike}
use Rattle.open_sessions.specs.CallLaws.{AreSessions-dump_edited, claims_in-dump_edited}
use Rattle.open_sessions.specs.SessionLaws.{AreSessions-alike, claims_in-alike, claims_in_dumps-remove, occurrences-with_node}
use Rattle.office_model.specs.declared.answer.Answer.TheVariants.{Done}
use Rattle.office_model.specs.declared.event.Event.{Event}
use Rattle.office_model.specs.declared.event.Event.TheVariants.{Put}
use Rattle.office_model.specs.declared.event.PutItem.{PutItem}
use Rattle.office_model.specs.declared.refusal.BrokenRule.TheVariants.{ChainFull}
use Rattle.office_model.specs.declared.refusal.Refusal.{Refusal}
use Rattle.office_model.specs.declared.refusal.Refusal.TheVariants as R
use Rattle.receipts.specs.declared.session.SessionName.{SessionName}
use Rattle.receipts.specs.declared.session.Token.{Token}
use Rattle.tree_frames.specs.Frames.{bytes_of as item_bytes}
use Rattle.office_model.specs.Meaning.{Carried, Judged, Reply, Stages}
use Rattle.office_model.specs.Office.{Office, Volatile, Dump, Names}
use Rattle.office_model.specs.Step.{Running, IsStep, MayFault, meaning_of}
use Rattle.office_model.specs.History.{IsUndamaged}
use Rattle.office_model.specs.UsedNames.{AreNamesAfter}
use Rattle.office_model.specs.laws.StateLaws.{AreSound-carried}
use Rattle.office_model.specs.events.Put as PutEvent
use Rattle.office_files.specs.Pooled.{contents_of}
use Rattle.office_files.specs.Stands.{StandsFor}
use Rattle.store_parts.specs.declared.parts.StoreParts.{StoreParts}
use Rattle.store_parts.specs.Held.{given}
use Rattle.store_parts.specs.States.{slots, IsWorking, IsRunning, staging_of}
use Rattle.store_parts.specs.Refusals.{refusal_of_pool}
use Rattle.store_parts.specs.Runs.{CopiesNone, MayRecover, Steps, StaysAtWork, Runs}
use Rattle.store_parts.specs.StepLaws.{names_refused, recover_before}
use Rattle.store_parts.specs.RunLaws.{counted_fine, counted_failed, works_same}
use Rattle.store_parts.specs.StagingLaws.{with_used, working_staged, crash_staged}
use Rattle.store_dumps.specs.Claims.{LetsGo, claims_of_content}
use Rattle.store_dumps.specs.Putting.{record_for, content_found, refused_put}
use Rattle.store_dumps.specs.DumpLaws.{place_of, IsFound, dump_found}
use Rattle.store_dumps.specs.NodeLaws.{with_record, record_claims, found_claims, found_within, dump_with}
use Rattle.store_dumps.specs.RunningLaws.{running_let_go}
use Rattle.store_dumps.specs.StagedLaws.{AreNamedAs, StagedAs, MissedAs, missed_as, full_as}

pub go_content : (old new : Slots) (content content' : Option PoolId) → content ≡ content'
    → (((id : PoolId) → claims_of_content content id ≤ claims_of (old id)) → LetsGo (λ id. claims_of_content content id) old new)
    → ((id : PoolId) → claims_of_content content' id ≤ claims_of (old id)) → LetsGo (λ id. claims_of_content content' id) old new
go_content old new content content' same go =
    subst (λ (c : Option PoolId). ((id : PoolId) → claims_of_content c id ≤ claims_of (old id))
    → LetsGo (λ id. claims_of_content c id) old new) same go

early : (judged : Judged Carried) → MayFault Stages judged
early (Ok carried) = tt
early (Err rule) = refl

abbrev pub dumps_with : Office → ℕ → Dump → List ℕ → Item → Option Token → List Dump
dumps_with office index value path node token = slice_set office.dumps index (keeping_behind token (PutEvent.with_item value path node))

module _ {D N S : Type 0} {d : DiskGhosts D} {n : NamerGhosts N S} where
  pub runs_same : (old new : StoreParts D N S d n) (event : Event) (refusal refusal' : Refusal) → refusal ≡ refusal'
      → Runs old event (Err refusal') new → Runs old event (Err refusal) new
  runs_same old new event refusal refusal' same runs = subst (λ (r : Refusal). Runs old event (Err r) new) (sym same) runs

-- where its chain is full, and the names that it may leave if not
pub record IsPut (session : SessionName) (path : List ℕ) (item : PutItem) (token : Option Token) (office : Office) (names : Names)
    (bytes : List ℕ) : Type 0 where
  pub full : PutEvent.is_chain_full office.pool office.dumps names (some_bytes bytes) ≡ true
      → PutEvent.carried session path item token office names ≡ Err ChainFull
  pub named : (used' : List PoolId) → PutEvent.is_chain_full office.pool office.dumps names (some_bytes bytes) ≡ false
      → AreNamedAs office names bytes used'
      → (reply : Reply) → AreNamesAfter office names (meaning_of (Put session path item token)) reply (with_used names used')

module _ {D N S : Type 0} {d : DiskGhosts D} {n : NamerGhosts N S} where
  module _ (old : StoreParts D N S d n) (session : SessionName) (path : List ℕ) (item : PutItem) (token : Option Token)
      (journal : Journal D d) (pool : Pool N S n)
      (form : pool.in_one_file ≡ old.pool.in_one_file) (stays : journal.halted ≡ old.journal.halted)
      (certain : IsCertain (slots old) (uncertain old.journal) → IsCertain (slots old) (uncertain journal))
      (crash : (all : Files) → d.files old.journal.disk ≡ Some all → IsCertain (slots old) (d.uncertain old.journal.disk)
      → Leaves d.moment d.left_since old.journal.disk journal.disk (ComesTo all (unlisted (slots old)))) where
    abbrev event : Event
    event = Put session path item token

    -- the pool has answered
    abbrev pub mid : StoreParts D N S d n
    mid = record old { journal = journal; pool = pool }

    crash_may : (new : StoreParts D N S d n) → new.journal ≡ journal → (office : Office) (names : Names) → IsRunning old office names
        → FindsOnly old.journal new.journal (MayRecover n.digest_of (meaning_of event).pools names office ((meaning_of event).carried office names))
    crash_may new same office names at =
        subst (λ (j : Journal D d). FindsOnly old.journal j
        (MayRecover n.digest_of (meaning_of event).pools names office ((meaning_of event).carried office names))) (sym same)
        (FindsOnly-each (λ found. StandsFor n.digest_of found office.durable)
        (MayRecover n.digest_of (meaning_of event).pools names office ((meaning_of event).carried office names)) old.journal journal
        (λ found stands. recover_before n.digest_of (meaning_of event).pools names office ((meaning_of event).carried office names) found stands)
        (crash_staged old mid office names at crash))

    counted_at : (new : StoreParts D N S d n) → new.journal ≡ journal → {P : Type 0}
        → Counted (d.fault_count old.journal.disk) (d.fault_count journal.disk) P
        → Counted (d.fault_count old.journal.disk) (d.fault_count new.journal.disk) P
    counted_at new same {P} counted =
        subst (λ (j : Journal D d). Counted (d.fault_count old.journal.disk) (d.fault_count j.disk) P) (sym same) counted

    works_at : (new : StoreParts D N S d n) → new.journal ≡ journal → new.halted ≡ old.halted → StaysAtWork old new
    works_at new same halted = works_same old new halted (ap (λ (j : Journal D d). j.halted) same ∙ stays)

    -- ---- the bytes got a name

    module _ (content : Option PoolId) where
      -- the node's bytes are kept under the name
      pub record IsTaken (office : Office) (names : Names) (at : IsRunning old office names) (node : Item) : Type 0 where
        pub put : IsPut session path item token office names (item_bytes node)
        pub shape : IsContentOf (length (item_bytes node)) content
        pub staged : StagedAs old mid office names at content (item_bytes node)

      module _ (office : Office) (names : Names) (at : IsRunning old office names) (node : Item) (taken : IsTaken office names at node) where
        abbrev pub names' : Names
        names' = with_used names taken.staged.has.used'

        abbrev pub contents : PoolId → List ℕ
        contents = contents_of taken.staged.has.all'

        working : IsWorking mid office names'
        working = working_staged old mid office names at refl refl refl refl refl refl form stays taken.staged.has

        -- the sessions as they were, by the files then
        pub sessions_mid : AreSessions n.holds (given (slots mid)) contents (staging_of taken.staged.has.all' names') office.volatile old.sessions
        unfolding working_staged
        sessions_mid =
            (working_staged old mid office names at refl refl refl refl refl refl form stays taken.staged.has).sessions

        module _ (index : ℕ) (dump : OpenDump) (e : Some index ≡ place_of old.sessions.dumps.items session)
            (there : slice_get old.sessions.dumps.items index ≡ Some dump) where
          abbrev found : IsFound old session index dump office names at
          found = dump_found old session index dump e there office names at

          -- with the node in the dump
          module _ (new : Sessions S)
              (dumps : new.dumps.items ≡ slice_set old.sessions.dumps.items index (with_record dump path (record_for node content) token))
              (only : OnlyDumps old.sessions new) (fresh : IsFreshFor dump.kept token) where
            pub sessions_edited : AreSessions n.holds (given (slots mid)) contents (staging_of taken.staged.has.all' names')
                (record office.volatile { dumps = dumps_with office index found.value path node token }) new
            sessions_edited =
                AreSessions-dump_edited old.sessions new only.beside n.holds (given (slots mid)) contents
                (staging_of taken.staged.has.all' names') office.volatile sessions_mid index (keeping_behind token (PutEvent.with_item found.value path node))
                (with_record dump path (record_for node content) token)
                (dump_with (given (slots mid)) contents found.value dump path node token content taken.staged.is taken.staged.told fresh
                (sessions_mid.dumps.each index found.value dump found.there there)) dumps only.sequence

            pub claims_edited : (id : PoolId) → claims_in new id + claims_of_content (content_found (node_at dump.tree path)) id
                ≡ claims_in old.sessions id + claims_of_content content id
            claims_edited id =
                omega (
                  arith,
                  claims_in-dump_edited old.sessions new only.beside id index dump (with_record dump path (record_for node content) token) there dumps,
                  occurrences-with_node id dump.tree path (record_for node content) found.is.tree_rows.whole.in_order,
                  found_claims id (node_at dump.tree path),
                  record_claims id node content taken.shape,
                )

          enough : (id : PoolId) → claims_of_content (content_found (node_at dump.tree path)) id ≤ claims_of (slots mid id)
          enough id =
              omega (
                arith,
                taken.staged.claims id,
                found_claims id (node_at dump.tree path),
                found_within id dump.tree path,
                claims_in_dumps-remove old.sessions.dumps.items id index dump there,
              )

      -- the office then, its sessions, and their claims
      pub record IsPutInto (new : StoreParts D N S d n) (before : Option PoolId) (office : Office) (names : Names)
          (at : IsRunning old office names) : Type 0 where
        pub node : Item
        pub taken : IsTaken office names at node
        pub now : Volatile
        pub judged : PutEvent.carried session path item token office names ≡ Ok (record { answer = Done; after = record office { volatile = now } })
        pub sessions : AreSessions n.holds (given (slots mid)) (contents_of taken.staged.has.all')
            (staging_of taken.staged.has.all' (with_used names taken.staged.has.used')) now new.sessions
        pub claims : (id : PoolId) → claims_in new.sessions id + claims_of_content before id
            ≡ claims_in old.sessions id + claims_of_content content id

      module _ (new : StoreParts D N S d n) {failed : Type 0} (same : new.journal ≡ journal) (catalog : new.catalog ≡ old.catalog)
          (counts : new.counts ≡ old.counts) (partials : new.partials ≡ old.partials) (views : new.views ≡ old.views) (halted : new.halted ≡ old.halted)
          (kept : new.pool.in_one_file ≡ pool.in_one_file)
          (counted : Counted (d.fault_count old.journal.disk) (d.fault_count journal.disk) failed) (fine : failed → ⊥) where
        -- the node was put, and what was there is let go
        pub runs_put : (index : ℕ) (dump : OpenDump) → Some index ≡ place_of old.sessions.dumps.items session
            → slice_get old.sessions.dumps.items index ≡ Some dump
            → (((id : PoolId) → claims_of_content (content_found (node_at dump.tree path)) id ≤ claims_of (slots mid id))
            → LetsGo (λ id. claims_of_content (content_found (node_at dump.tree path)) id) (slots mid) (slots new))
            → ((office : Office) (names : Names) (at : IsRunning old office names)
            → IsPutInto new (content_found (node_at dump.tree path)) office names at)
            → Runs old event (Ok Done) new
        unfolding working_staged
        runs_put index dump e there go puts = record {
          steps = λ office names at.
              let p = puts office names at in
              let s = p.taken.staged in
              let next : Office = record office { volatile = p.now } in
              let used : Names = with_used names s.has.used' in
              let named = p.taken.put.named s.has.used' s.free s.named (Ok Done) in
              record {
                next = Running next used;
                step = (p.judged, named);
                undamaged = tt;
                in_state = running_let_go mid new office next used (λ id. claims_of_content (content_found (node_at dump.tree path)) id)
                    (λ id. claims_in old.sessions id + claims_of_content content id)
                    (working_staged old mid office names at refl refl refl refl refl refl form stays s.has) s.claims same catalog counts partials
                    views halted (go (enough office names at p.node p.taken index dump e there)) kept p.claims p.sessions refl refl
                    (AreSound-carried office names event Done next used at.sound p.judged named);
              };
          crash = λ office names at. crash_may new same office names at;
          in_kind = refl;
          awake = λ e. absurd cc;
          halts = λ not. works_at new same halted;
          counted = counted_at new same (counted_fine counted fine (λ x. absurd cc));
          untouched = λ none damage. absurd (damage tt);
        }

        -- it was not, and the claim is let go
        pub runs_put_back : (fault : PutFault)
            → ((office : Office) (names : Names) → IsRunning old office names → (broken : PutRule) → fault ≡ PF.Broken broken → ⊥)
            → (((id : PoolId) → claims_of_content content id ≤ claims_of (slots mid id))
            → LetsGo (λ id. claims_of_content content id) (slots mid) (slots new))
            → AreAlike old.sessions new.sessions
            → ((office : Office) (names : Names) (at : IsRunning old office names) → (node : Item) × IsTaken office names at node)
            → Runs old event (Err (refused_put fault)) new
        unfolding working_staged
        runs_put_back PF.Memory never go alike takes = record {
          steps = λ office names at.
              let t = takes office names at in
              let s = t.1.staged in
              let used : Names = with_used names s.has.used' in
              let w = working_staged old mid office names at refl refl refl refl refl refl form stays s.has in
              record {
                next = Running office used;
                step = (refl, t.1.put.named s.has.used' s.free s.named (Err R.Memory));
                undamaged = tt;
                in_state = running_let_go mid new office office used (claims_of_content content)
                    (λ id. claims_in old.sessions id + claims_of_content content id) w s.claims
                    same catalog counts partials views halted (go (λ id. omega (arith, s.claims id))) kept
                    (λ id. omega (arith, claims_in-alike old.sessions new.sessions alike id))
                    (AreSessions-alike n.holds (given (slots mid)) (contents_of s.has.all') (staging_of s.has.all' used) office.volatile
                    old.sessions new.sessions w.sessions alike)
                    refl refl w.sound;
              };
          crash = λ office names at. crash_may new same office names at;
          in_kind = tt;
          awake = λ e. absurd cc;
          halts = λ not. works_at new same halted;
          counted = counted_at new same (counted_fine counted fine (λ x. absurd cc));
          untouched = λ none damage. absurd (damage tt);
        }
        runs_put_back (PF.Broken broken) never go alike takes = record {
          steps = λ office names at. absurd (never office names at broken refl);
          crash = λ office names at. crash_may new same office names at;
          in_kind = tt;
          awake = λ e. absurd cc;
          halts = λ not. works_at new same halted;
          counted = counted_at new same (counted_fine counted fine (λ x. absurd cc));
          untouched = λ none damage. absurd (damage tt);
        }

    -- ---- they got none

    pub record IsMissed (fault : PoolFault) (office : Office) (names : Names) : Type 0 where
      pub bytes : List ℕ
      pub put : IsPut session path item token office names bytes
      pub some : 0 < length bytes
      pub misses : Misses n.digest_of (slots old) (slots mid) (d.files old.journal.disk) (d.files journal.disk) bytes fault
      pub known : IsNotForeign fault

    module _ (fault : PoolFault) (office : Office) (names : Names) (at : IsRunning old office names) (is : IsMissed fault office names) where
      abbrev missed : MissedAs old mid office names at is.bytes
      missed = missed_as old mid office names at (certain at.fits.certain) is.bytes is.some is.misses.either

      names_missed : (refusal : Refusal) → AreNamesAfter office names (meaning_of event) (Err refusal) (with_used names missed.has.used')
      names_missed refusal = step missed.named
        where
          step : (missed.has.used' ≡ names.used)
              ⊎ (AreNamedAs office names is.bytes missed.has.used'
              × (PutEvent.is_chain_full office.pool office.dumps names (some_bytes is.bytes) ≡ false))
              → AreNamesAfter office names (meaning_of event) (Err refusal) (with_used names missed.has.used')
          step (inl same) = subst
              (λ (u : List PoolId). AreNamesAfter office names (meaning_of event) (Err refusal) (with_used names u)) (sym same)
              (names_refused office names event refusal at.used.distinct)
          step (inr named) = is.put.named missed.has.used' named.1 named.0 (Err refusal)

      steps_missed : (refusal : Refusal)
          → IsStep (Running office names) event (Err refusal) (Running office (with_used names missed.has.used'))
          → IsUndamaged (Err refusal) → Steps (Running office names) event (Err refusal) mid
      steps_missed refusal step undamaged = record {
        next = Running office (with_used names missed.has.used');
        step = step;
        undamaged = undamaged;
        in_state = record {
          working = working_staged old mid office names at refl refl refl refl refl refl form stays missed.has;
          claimed = missed.claims;
        };
      }

    pub runs_missed : (fault : PoolFault) → ((id : PoolId) (found : Option (List ℕ)) → fault ≡ P.Damaged id found → ⊥)
        → (CopiesNone event → IsNotForeign fault)
        → ((office : Office) (names : Names) → IsRunning old office names → IsMissed fault office names)
        → Counted (d.fault_count old.journal.disk) (d.fault_count journal.disk) (IsErrOf {T = Option PoolId} (Err fault) P.Disk)
        → Runs old event (Err (refusal_of_pool fault)) mid
    runs_missed (P.Foreign file found) undamaged known missed counted = record {
      steps = λ office names at. absurd (missed office names at).known;
      crash = λ office names at. crash_may mid refl office names at;
      in_kind = tt;
      awake = λ e. absurd cc;
      halts = λ not. works_at mid refl refl;
      counted = counted_fine counted (λ x. absurd cc) (λ x. absurd cc);
      untouched = λ none damage. absurd (known none);
    }
    runs_missed P.Disk undamaged known missed counted = record {
      steps = λ office names at. let m = missed office names at in steps_missed P.Disk office names at m R.DiskFault
          ((early ((meaning_of event).carried office names), tt, refl), names_missed P.Disk office names at m R.DiskFault) tt;
      crash = λ office names at. crash_may mid refl office names at;
      in_kind = tt;
      awake = λ e. absurd cc;
      halts = λ not. absurd (not refl);
      counted = counted_failed counted refl refl;
      untouched = λ none damage. absurd (damage tt);
    }
    runs_missed P.Memory undamaged known missed counted = record {
      steps = λ office names at. let m = missed office names at in
          steps_missed P.Memory office names at m R.Memory (refl, names_missed P.Memory office names at m R.Memory) tt;
      crash = λ office names at. crash_may mid refl office names at;
      in_kind = tt;
      awake = λ e. absurd cc;
      halts = λ not. works_at mid refl refl;
      counted = counted_fine counted (λ x. absurd cc) (λ x. absurd cc);
      untouched = λ none damage. absurd (damage tt);
    }
    runs_missed (P.Damaged id found) undamaged known missed counted = absurd (undamaged id found refl)
    runs_missed P.ChainFull undamaged known missed counted = record {
      steps = λ office names at. let m = missed office names at in steps_missed P.ChainFull office names at m (R.Broken ChainFull) (
        (m.put.full (full_as old mid office names at (certain at.fits.certain) m.bytes m.some (m.misses.full refl)), refl),
        names_missed P.ChainFull office names at m (R.Broken ChainFull),
      ) tt;
      crash = λ office names at. crash_may mid refl office names at;
      in_kind = tt;
      awake = λ e. absurd cc;
      halts = λ not. works_at mid refl refl;
      counted = counted_fine counted (λ x. absurd cc) (λ x. absurd cc);
      untouched = λ none damage. absurd (damage tt);
    }
