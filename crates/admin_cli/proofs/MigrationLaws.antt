-- A run of `migrate`, from what the layers below it say.
--     does_migration, migration_complete
use Rattle.std.specs.Prelude.{◌||◌, slice_get}
use Rattle.std.proofs.Common.{◌≡◌, ◌⊎◌, ℕ, ◌-◌, ◌^◌, ◌<◌, Bool, true, false, List, [], Option, Some, None, refl, sym, ap, ◌∙◌, subst, inl, inr, ⊎_elim, arith}
use Rattle.std.proofs.lemmas.List.{append-nil}
use Rattle.fault_counts.specs.Counts.{Rose}
use Rattle.disk_trait.specs.declared.ids.FileId.TheVariants.{Table}
use Rattle.disk_trait.specs.declared.disk.Disk.{Ghosts as DiskGhosts}
use Rattle.disk_trait.specs.Files.{Files}
use Rattle.pool_name.specs.declared.namer.Namer.{Ghosts as NamerGhosts}
use Rattle.pool_changes.specs.Kept.{slots_of}
use Rattle.pool_store.specs.Opening.{AreThePoolFiles}
use Rattle.journal_view.specs.Found.{FindsAll}
use Rattle.journal_view.specs.FoundLaws.{finds_each}
use Rattle.journal_view.specs.View.{FindsNow}
use Rattle.office_model.specs.Office.{Office, Durable, Host, Names, raised, reopened}
use Rattle.office_model.specs.Step.{Call, State, Running, Halted, names_of}
use Rattle.office_model.specs.History.{last_state, calls_of}
use Rattle.office_model.specs.OldTables.{is_old}
use Rattle.office_files.specs.TableLayouts.{is_first_layout, is_among, AreSecondBut}
use Rattle.office_files.specs.Owners.{has_backup}
use Rattle.office_files.specs.Stands.{StandsFor}
use Rattle.store_parts.specs.Held.{IsEither}
use Rattle.store_opening.specs.Opens.{IsOf, Opened}
use Rattle.store_opening.specs.Reopens.{first_of, second_of}
use Rattle.store_opening.specs.Settles.{ComesToOne}
use Rattle.store_opening.specs.KeptTables.{HasTablesFound}
use Rattle.serve_workers.specs.Stores.{Store, DirectPort, Moves, is_stopped}
use Rattle.stream_traits.specs.Seen.{LinkSeen}
use Rattle.settings_file.specs.declared.read.Settings.{Settings}
use Rattle.settings_file.specs.Document.{IsSettings}
use Rattle.migrate_work.specs.declared.ends.MigrationEnd.{MigrationEnd}
use Rattle.migrate_work.specs.declared.ends.MigrationEnd.TheVariants as E
use Rattle.migrate_work.specs.Ends.{Ends, Works}
use Rattle.migrate_work.specs.Keeping.{KeepsOffice}
use Rattle.migrate_work.specs.KeepingLaws.{of_migration, office_kept, none_left}
use Rattle.migrate_work.specs.Texts.{text_of}
use Rattle.command_line.specs.Line.{Line, Migrate}
use Rattle.admin_cli.specs.declared.note.Note.{Note}
use Rattle.admin_cli.specs.declared.note.Note.TheVariants as N
use Rattle.admin_cli.specs.Command.{AsksFor}
use Rattle.admin_cli.specs.Migrations.{note_of_migration, HasMigrationCause, HasNoFirst, IsKept, DoesMigration}
use Rattle.admin_cli.specs.Folders.{IsCauseAtWork}
use Rattle.admin_cli.specs.Nights.{Says}
use Rattle.admin_cli.specs.Run.{StandsForEither, IsServed, IsComplete}
use Rattle.admin_cli.proofs.EndLaws.{call_ends, all_ends, said_rose}
use Rattle.admin_cli.proofs.FolderStops.{wider, refused_at_work}
use Rattle.admin_cli.proofs.RefusalLaws.{file_of}
use Rattle.admin_cli.proofs.CauseLaws.{migration_fails}
use Rattle.admin_cli.proofs.ForeignLaws.{migration_foreign}
use Rattle.admin_cli.proofs.RunLaws.{is_served, leads, EndsWell}

-- ---- what its calls lead to

offices_kept : (office : Durable) (state : State) → KeepsOffice (reopened office) state
    → (first_of state ≡ raised office) × (second_of state ≡ raised office)
offices_kept office (Running now names) kept = (ap (λ (o : Office). o.durable) kept, ap (λ (o : Office). o.durable) kept)
offices_kept office (Halted before next names) kept = kept

stands_for : (digest_of : List ℕ → List ℕ) (a b office : Durable) (found : Files) → a ≡ office → b ≡ office → IsEither digest_of a b found
    → StandsFor digest_of found office
stands_for digest_of a b office found first second (inl stands) = subst (StandsFor digest_of found) first stands
stands_for digest_of a b office found first second (inr stands) = subst (StandsFor digest_of found) second stands

-- a host that is there isn't old any more, and of one that isn't no table is there
no_first : (digest_of : List ℕ → List ℕ) (office : Durable) (hosts : List ℕ) (found : Files) → StandsFor digest_of found (raised office)
    → AreSecondBut hosts found
    → ((place : ℕ) (host : Host) → slice_get office.hosts place ≡ Some host → is_among hosts place ≡ false) → HasNoFirst found
no_first digest_of office hosts found stands second gone place number = by (slice_get office.hosts place) refl
  where
    by : (host : Option Host) → slice_get office.hosts place ≡ host → is_first_layout (found (Table place number)) ≡ false
    by (Some host) at = second place number (gone place host at)
    by None at =
        ap is_first_layout (stands.stands.nothing_else (Table place number) (ap (λ (h : Option Host). has_backup h number) at))

module _ {D : Type 0} (d : DiskGhosts D) (digest_of : List ℕ → List ℕ) (disk disk' : D) (calls : List Call) (halted : Bool) (a b : Durable)
    (served : IsServed d digest_of disk disk' calls halted a b) where
  has_cause : (end : MigrationEnd) → Ends end calls → HasMigrationCause end (d.fault_count disk) (d.fault_count disk')
  has_cause (E.Done count) ends = tt
  has_cause (E.Refused refusal) ends =
      wider refusal (d.fault_count disk) served.opening (d.fault_count disk') (d.fault_count disk') served.since (omega arith)
      (subst (λ (k : ℕ). IsCauseAtWork refusal served.opening k) (sym served.history.faults_is)
      (refused_at_work (reopened served.office) served.names served.opening served.history.entries calls [] refusal served.history.legal
      (sym served.history.calls_are ∙ sym (append-nil calls)) ends.1))
  has_cause E.Memory ends = tt

  both_kept : (end : MigrationEnd) → Ends end calls
      → (first_of served.last ≡ raised served.office) × (second_of served.last ≡ raised served.office)
  both_kept end ends =
      offices_kept served.office served.last
      (subst (KeepsOffice (reopened served.office)) (sym served.history.state_is)
      (office_kept (reopened served.office) (Running (reopened served.office) served.names) served.opening served.history.entries refl
      served.history.legal (of_migration end (calls_of served.history.entries) (subst (Ends end) served.history.calls_are ends))))

  all_kept : (end : MigrationEnd) → Ends end calls → IsKept d digest_of disk' a b
  all_kept end ends =
      let both = both_kept end ends in
      record {
        office = served.office;
        is_one = served.is_one;
        left = subst (λ (o : Durable). StandsForEither d digest_of disk' o (raised served.office)) both.0
            (subst (λ (o : Durable). StandsForEither d digest_of disk' (first_of served.last) o) both.1 served.left);
      }

  all_migrated : (count : ℕ) → Ends (E.Done count) calls → FindsAll (d.files disk') (d.uncertain disk') HasNoFirst
  all_migrated count ends = λ image left.
      let both = both_kept (E.Done count) ends in
      let here = served.left.each image left in
      record {
        found = here.found;
        in_image = here.in_image;
        has = no_first digest_of served.office (names_of served.last).old_hosts here.found
            (stands_for digest_of (first_of served.last) (second_of served.last) (raised served.office) here.found both.0 both.1 here.has)
            (finds_each (AreSecondBut (names_of served.last).old_hosts) image here.found (served.second image left) here.in_image)
            (λ place host at. subst (λ (s : State). is_old s place ≡ false) (sym served.history.state_is)
            (none_left (reopened served.office) served.sound.office.hosts.differ place host at served.names served.opening
            served.history.entries count served.history.legal (subst (Ends (E.Done count)) served.history.calls_are ends)));
      }

-- ---- a run that opened its store

module _ {D N S : Type 0} {d : DiskGhosts D} {n : NamerGhosts N S} (disk : D) (store store' : Store D N S d n)
    (settles : (a b : Durable) → IsOf n.digest_of (d.files disk) (d.uncertain disk) a b
    → (o : Opened a b store.parts) × ComesToOne d n.digest_of disk store.parts.journal.disk a b o.office
    × FindsNow store.parts.journal (HasTablesFound (d.files disk) (d.uncertain disk)))
    (calm : d.fault_count store.parts.journal.disk ≡ d.fault_count disk)
    (listed : AreThePoolFiles (d.files disk) (slots_of store.parts.pool.names))
    (ready : is_stopped store.parts ≡ false) where
  pub does_migration : (line : Option Line) (settings : List ℕ) (read : Settings) (port port' : DirectPort D N S d n)
      (link link' : LinkSeen) (moments : Option (List ℕ)) (end : MigrationEnd) (disk' : D) (failed halted : Bool) (note : Note)
      → AsksFor Migrate line → IsSettings settings read → port.store ≡ store
      → Works (λ (p : DirectPort D N S d n) calls (q : DirectPort D N S d n). Moves p.store calls q.store) port port' end
      → Says (text_of end) link link' failed
      → store' ≡ port'.store → disk' ≡ store'.parts.journal.disk → halted ≡ (store'.parts.halted || store'.parts.journal.halted)
      → note ≡ note_of_migration end failed halted
      → DoesMigration d n.digest_of disk disk' line settings link link' moments moments note
  does_migration line settings read port port' link link' moments end disk' failed halted note
      asked is_read port_is works says store_is disk_is halted_is note_is =
      let moved : Moves store works.calls store' =
      subst (λ q. Moves store works.calls q) (sym store_is) (subst (λ p. Moves p works.calls port'.store) port_is works.moved) in
      let at = is_served disk store store' settles calm listed ready works.calls moved in
      rw (note_is, disk_is, halted_is) (record {
        asked = asked;
        read = file_of settings read is_read;
        end = end;
        failed = failed;
        halted = store'.parts.halted || store'.parts.journal.halted;
        works = record {
          calls = works.calls;
          moved = leads disk store store' settles calm listed ready works.calls moved;
          ends = works.ends;
        };
        says = says;
        cause = λ a b stands. (
          has_cause d n.digest_of disk store'.parts.journal.disk works.calls _ a b (at a b stands) end works.ends,
          (at a b stands).rose,
        );
        kept = λ a b stands. all_kept d n.digest_of disk store'.parts.journal.disk works.calls _ a b (at a b stands) end works.ends;
        migrated = λ a b stands count is.
            all_migrated d n.digest_of disk store'.parts.journal.disk works.calls _ a b (at a b stands) count
            (subst (λ (e : MigrationEnd). Ends e works.calls) is works.ends);
        later = omega (arith, calm, moved.later);
        unasked = refl;
        foreign = λ file is.
            migration_foreign store store' works.calls end failed (store'.parts.halted || store'.parts.journal.halted) file moved works.ends is;
        stops = λ is.
            migration_fails d n.digest_of disk store'.parts.journal.disk (store'.parts.halted || store'.parts.journal.halted) works.calls
            (leads disk store store' settles calm listed ready works.calls moved) end failed works.ends is;
        note_is = refl;
      })

-- ---- how it ends

module _ {D : Type 0} (d : DiskGhosts D) (digest_of : List ℕ → List ℕ) (disk disk' : D) (linked linked' : ℕ) (note : Note) where
  migration_ends : (a b : Durable) (end : MigrationEnd) (failed halted : Bool) (link link' : LinkSeen) → link.faults ≡ linked
      → link'.faults ≡ linked' → Says (text_of end) link link' failed → HasMigrationCause end (d.fault_count disk) (d.fault_count disk')
      → (halted ≡ true → Rose (d.fault_count disk) (d.fault_count disk'))
      → d.fault_count disk < 2 ^ 64 - 1 → d.fault_count disk' ≡ d.fault_count disk → linked < 2 ^ 64 - 1 → linked' ≡ linked
      → EndsWell d digest_of disk disk' linked linked' note (note_of_migration end failed halted) a b
  migration_ends a b (E.Done count) failed halted link link' is is' says cause stopped m same l same_link =
      all_ends d digest_of disk disk' linked linked' note a b m same l same_link failed halted
      (said_rose d digest_of disk disk' linked linked' note a b m same l same_link (text_of (E.Done count)) link link' failed is is' says)
      stopped
  migration_ends a b (E.Refused refusal) failed halted link link' is is' says cause stopped m same l same_link =
      call_ends d digest_of disk disk' linked linked' note a b m same l same_link refusal halted cause stopped
  migration_ends a b E.Memory failed halted link link' is is' says cause stopped m same l same_link = inr (inr (inl refl))

  pub migration_complete : (doors doors' : List ℕ) (entered entered' : ℕ) (line : Option Line) (settings : List ℕ) (link link' : LinkSeen)
      (moments moments' : Option (List ℕ)) → DoesMigration d digest_of disk disk' line settings link link' moments moments' note
      → link.faults ≡ linked → link'.faults ≡ linked'
      → IsComplete d digest_of disk disk' line settings linked linked' doors doors' entered entered' note
  migration_complete doors doors' entered entered' line settings link link' moments moments' s is is' =
      λ a b stands said file m same l same_link calm g same_folder.
      subst (λ (told : Note). EndsWell d digest_of disk disk' linked linked' note told a b) (sym s.note_is)
      (migration_ends a b s.end s.failed s.halted link link' is is' s.says (s.cause a b stands).0 (s.cause a b stands).1 m same l same_link)
