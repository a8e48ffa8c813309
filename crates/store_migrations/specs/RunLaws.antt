-- A migration as an event of a store at work.
--     no_host_migrate      there is no host of the name
--     runs_not_planned      the tables couldn't be read, or memory was wanting
--     runs_nothing      none of them is of the first layout
--     runs_not_written, runs_migrated      the commit was refused, or made
use Rattle.std.specs.Prelude.{◌≡◌, ◌⊎◌, ◌==◌, ℕ, not, true, false, List, [], Option, Some, None, Ok, Err, IsErrOf, is_some, option_map, slice_get}
use Rattle.std.proofs.Common.{refl, sym, ap, ◌∙◌, subst, inl, inr}
use Rattle.std.proofs.lemmas.Bool.{eqb-true}
use Rattle.std.proofs.lemmas.Option.{slice_get-map}
use Rattle.std.proofs.lemmas.Map.Views.{any-filter_same}
use Rattle.fault_counts.specs.Counts.{Counted}
use Rattle.disk_trait.specs.declared.ids.FileId.{FileId}
use Rattle.disk_trait.specs.declared.ids.FileId.TheVariants as F
use Rattle.disk_trait.specs.declared.disk.Disk.{Ghosts as DiskGhosts}
use Rattle.disk_trait.specs.Files.{Files}
use Rattle.pool_name.specs.declared.namer.Namer.{Ghosts as NamerGhosts}
use Rattle.intent_journal.specs.declared.changes.Change.{Change}
use Rattle.intent_journal.specs.Changes.{applied, AreChanges}
use Rattle.intent_journal.specs.ChangesLaws.{either}
use Rattle.journal_view.specs.View.{told}
use Rattle.backup_rules.specs.declared.lines.Line.{Line}
use Rattle.backup_index.specs.Index.{Index as HostIndex}
use Rattle.merge_view.specs.Views.{Rows}
use Rattle.backup_views.specs.Faults.{IsDamaged}
use Rattle.backup_views.specs.Stored.{IsTableFile}
use Rattle.pool_changes.specs.Listed.{index_of}
use Rattle.ref_counts.specs.Numbers.{Items}
use Rattle.ref_counts.specs.Stored.{StoredHost, stored}
use Rattle.office_model.specs.declared.answer.Answer.TheVariants.{Done}
use Rattle.office_model.specs.declared.event.Event.TheVariants.{Migrate}
use Rattle.office_model.specs.declared.refusal.BrokenRule.TheVariants.{NoHost}
use Rattle.office_model.specs.declared.refusal.Refusal.{Refusal}
use Rattle.office_model.specs.declared.refusal.Refusal.TheVariants as R
use Rattle.office_model.specs.Office.{Office, Host, Backup, Names, host_index, backup_index}
use Rattle.office_model.specs.Parts.{host_at, lines_of}
use Rattle.office_model.specs.PlacesLaws.{position-found}
use Rattle.office_model.specs.Step.{Running, meaning_of}
use Rattle.office_model.specs.UsedNames.{AreNamesAfter, without_index}
use Rattle.office_catalog.specs.Known.{Known, host_named, names_of}
use Rattle.office_files.specs.Hosts.{StandsHost}
use Rattle.office_files.specs.Layouts.{IsTableFile as IsStoredTable}
use Rattle.office_files.specs.Owners.{has_backup}
use Rattle.office_model.specs.PairsLaws.{pair_at, other_at}
use Rattle.office_files.specs.Pooled.{contents_of, IsListed}
use Rattle.office_files.specs.Stands.{Stands}
use Rattle.office_files.specs.TableLayouts.{is_first_layout, is_among, AreSecondBut, WriteNoFirst}
use Rattle.office_files.specs.TableLayoutLaws.{second_applied}
use Rattle.store_parts.specs.KnownOffice.{IsNamed, named_host, host_found, index_found}
use Rattle.store_parts.specs.declared.parts.StoreParts.{StoreParts}
use Rattle.store_parts.specs.Held.{AreCountsOf}
use Rattle.store_parts.specs.States.{slots, IsRunning}
use Rattle.store_parts.specs.Runs.{Runs, Reads}
use Rattle.store_parts.specs.Writes.{Writes}
use Rattle.store_parts.specs.RunLaws.{running_reads, crash_quiet, reads_behind, runs_behind, counted_still, works_reads}
use Rattle.store_parts.specs.RefusedLaws.{runs_not_planned as runs_unplanned}
use Rattle.store_parts.specs.WriteLaws.{LeadsTo, LeavesIndex, HoldsAs, runs_write_refused, runs_written_as, running_renamed, running_hosts}
use Rattle.store_migrations.specs.Migrated.{AreRead, changes_of, IsPlanned, IsPlanFault}
use Rattle.store_migrations.specs.Called.{IsHostHere, IsRead}
use Rattle.store_migrations.specs.WrittenLaws.{other_file, no_first, second_after, second_stays}
use Rattle.store_migrations.specs.StandsLaws.{AreTablesAlike, stands_alike, alike_migrated}

some_same : {A : Type 0} (x y : A) → Some x ≡ Some y → x ≡ y
some_same x y e = cc

-- what isn't among the indexes without one, and isn't that one, is among none of them
among_before : (indexes : List ℕ) (place host : ℕ) → (host == place) ≡ false → is_among (without_index (Some place) indexes) host ≡ false
    → is_among indexes host ≡ false
among_before indexes place host other out =
    sym (any-filter_same (λ (i : ℕ). i == host) (λ i. not (i == place)) true (λ i same. kept i (eqb-true i host same)) indexes) ∙ out
  where
    kept : (i : ℕ) → i ≡ host → not (i == place) ≡ true
    kept i same = ap (λ (k : ℕ). not (k == place)) same ∙ ap not other

-- the backup of a line
backup_there : (backups : List Backup) (i : ℕ) (line : Line) → slice_get (lines_of backups) i ≡ Some line
    → (backup : Backup) × (slice_get backups i ≡ Some backup) × (backup.line ≡ line)
backup_there backups i line e = step (slice_get backups i) refl
  where
    there : slice_get (lines_of backups) i ≡ option_map (λ (backup : Backup). backup.line) (slice_get backups i)
    there = slice_get-map (λ (backup : Backup). backup.line) backups i

    step : (found : Option Backup) → slice_get backups i ≡ found → (backup : Backup) × (slice_get backups i ≡ Some backup) × (backup.line ≡ line)
    step None is = absurd (let none = sym e ∙ there ∙ ap (option_map (λ (b : Backup). b.line)) is in cc)
    step (Some backup) is =
        (backup, is, some_same backup.line line (sym (ap (option_map (λ (b : Backup). b.line)) is) ∙ sym there ∙ e))

pub no_host_migrate : (name : List ℕ) (office : Office) (names : Names) → host_at office.hosts name ≡ Err NoHost
    → (meaning_of (Migrate name)).carried office names ≡ Err NoHost
no_host_migrate name office names e = rw e refl

-- what was found of the table of a line is what the files have for its backup
found_again : (all : Files) (place : ℕ) (line other : Line) (file : FileId) (found : Option (List ℕ)) → found ≡ all file
    → file ≡ F.Table place line.number → other ≡ line → found ≡ all (F.Table place other.number)
found_again all place line other file found there is same =
    there ∙ ap all is ∙ ap (λ (l : Line). all (F.Table place l.number)) (sym same)

-- it is a table
table_again : (rows : Rows) (here found : Option (List ℕ)) → found ≡ here → IsStoredTable rows here → IsTableFile rows found
table_again rows here found same is = record { layout = is.layout; fits = is.fits; is = same ∙ is.is }

module _ {D N S : Type 0} {d : DiskGhosts D} {n : NamerGhosts N S} where
  reads_of : (old mid : StoreParts D N S d n) → IsRead old mid → Reads old mid
  reads_of old mid read = reads_behind old mid read.quiet read.others

  module _ (old : StoreParts D N S d n) (name : List ℕ) (place : ℕ) (index : HostIndex) (here : IsHostHere old.catalog name place index) where
    -- the host, and what is stored of it
    module _ (office : Office) (names : Names) (at : IsRunning old office names) where
      named : IsNamed office.hosts name place
      named = named_host office.durable old.catalog name place at.catalog_is here.named

      judged : (meaning_of (Migrate name)).carried office names ≡ Ok (record { answer = Done; after = office })
      judged = rw named.judged refl

      place_is : host_index office.hosts name ≡ Some place
      place_is =
          sym (host_found name office.hosts)
          ∙ sym (here.named ∙ ap (λ (k : Known). host_named (names_of k.hosts) name) at.catalog_is)

      abbrev fewer : List ℕ
      fewer = without_index (Some place) names.old_hosts

      abbrev renamed : Names
      renamed = record names { old_hosts = fewer }

      names_after : AreNamesAfter office names (meaning_of (Migrate name)) (Ok Done) renamed
      names_after = ap (λ (p : Option ℕ). record names { old_hosts = without_index p names.old_hosts }) (sym place_is)

      lines_are : index.lines ≡ lines_of named.host.backups
      lines_are =
          ap (λ (i : HostIndex). i.lines)
          (index_found office.hosts place named.host index named.is_host
          (sym (ap (λ (k : Known). slice_get k.hosts place) at.catalog_is) ∙ here.here))

      kept : (of : StoredHost) × (slice_get at.shown place ≡ Some of)
          × StandsHost (IsListed (index_of (slots old))) (contents_of at.all) at.all place named.host of
      kept = pair_at (StandsHost (IsListed (index_of (slots old))) (contents_of at.all) at.all) office.hosts at.shown at.stands.hosts place
          named.host named.is_host

      -- a table of the host is a table
      not_damaged : (file : FileId) (found : Option (List ℕ)) → IsDamaged (told old.journal) place index.lines file found → ⊥
      not_damaged file found says =
          let line : slice_get (lines_of named.host.backups) says.index ≡ Some says.line =
          subst (λ (ls : List Line). slice_get ls says.index ≡ Some says.line) lines_are says.is_line in
          let b = backup_there named.host.backups says.index says.line line in
          let rows = other_at named.host.backups (stored kept.0.backups) says.index b.0 kept.2.tables.counted b.1 in
          let table = kept.2.tables.each says.index b.0 rows.0 b.1 rows.1 in
          says.no_table.none rows.0
          (table_again rows.0 (at.all (F.Table place b.0.line.number)) found
          (found_again at.all place says.line b.0.line file found (says.no_table.there at.all at.told_is) says.file_is b.2) table)

      fault_told : (refusal : Refusal) → IsPlanFault (told old.journal) old.catalog place refusal
          → (refusal ≡ R.DiskFault) ⊎ (refusal ≡ R.Memory)
      fault_told R.DiskFault kind = inl refl
      fault_told R.Memory kind = inr refl
      fault_told (R.Damaged file found) kind = absurd (not_damaged file found (kind index here.here))
      fault_told (R.Broken rule) kind = absurd kind
      fault_told R.Halted kind = absurd kind

    -- it isn't that the store is halted
    told_awake : (refusal : Refusal) → IsPlanFault (told old.journal) old.catalog place refusal → refusal ≡ R.Halted → ⊥
    told_awake (R.Broken rule) kind e = kind
    told_awake R.Halted kind e = kind
    told_awake R.DiskFault kind e = cc
    told_awake (R.Damaged file found) kind e = cc
    told_awake R.Memory kind e = cc

    pub runs_not_planned : (mid : StoreParts D N S d n) (refusal : Refusal) → IsRead old mid
        → IsPlanFault (told old.journal) old.catalog place refusal
        → Counted (d.fault_count old.journal.disk) (d.fault_count mid.journal.disk) (IsErrOf {T = List Change} (Err refusal) R.DiskFault)
        → Runs old (Migrate name) (Err refusal) mid
    runs_not_planned mid refusal read kind counted =
        runs_unplanned {Plan = List Change} old mid (Migrate name) refusal (reads_of old mid read) (λ office names at. refl)
        (λ office names at. fault_told office names at refusal kind) (told_awake refusal kind) counted

    -- ---- behind the plan

    module _ (changes : List Change) (planned : IsPlanned (told old.journal) place index.lines changes) where
      module _ (office : Office) (names : Names) (at : IsRunning old office names) where
        read : AreRead at.all place index.lines planned.files
        read = planned.there at.all at.told_is

        abbrev image : Files
        image = applied (changes_of place index.lines planned.files) at.all

        alike : AreTablesAlike at.all image
        alike = alike_migrated at.all place index.lines planned.files read

        -- a table of the host is of the second layout, or absent
        second_here : (number : ℕ) → is_first_layout (image (F.Table place number)) ≡ false
        second_here number = step (backup_index (named office names at).host.backups number) refl
          where
            step : (found : Option ℕ) → backup_index (named office names at).host.backups number ≡ found
                → is_first_layout (image (F.Table place number)) ≡ false
            step None e =
                ap is_first_layout (alike.absent place number
                (at.stands.nothing_else (F.Table place number)
                (ap (λ (h : Option Host). has_backup h number) (named office names at).is_host ∙ ap is_some e)))
            step (Some i) e =
                let found = position-found (λ (backup : Backup). backup.line.number == number) (named office names at).host.backups i e in
                let line : slice_get (lines_of (named office names at).host.backups) i ≡ Some found.0.line =
                slice_get-map (λ (backup : Backup). backup.line) (named office names at).host.backups i
                ∙ ap (option_map (λ (backup : Backup). backup.line)) found.1 in
                subst (λ (k : ℕ). is_first_layout (image (F.Table place k)) ≡ false) (eqb-true found.0.line.number number found.2)
                (second_after at.all place index.lines planned.files read i found.0.line
                (subst (λ (ls : List Line). slice_get ls i ≡ Some found.0.line) (sym (lines_are office names at)) line) at.all (inr refl))

        second_image : AreSecondBut (fewer office names at) image
        second_image host number out = elim (either (host == place)) [
          | inl same ↦
              subst (λ (h : ℕ). is_first_layout (image (F.Table h number)) ≡ false) (sym (eqb-true host place same)) (second_here number)
          | inr other ↦
              second_stays (changes_of place index.lines planned.files) (no_first place index.lines planned.files) at.all host number
              (at.second host number (among_before names.old_hosts place host other out))
        ]

        stands : Stands n.digest_of (index_of (slots old)) at.shown (applied changes at.all) office.durable
        stands =
            subst (λ (cs : List Change). Stands n.digest_of (index_of (slots old)) at.shown (applied cs at.all) office.durable) (sym planned.are)
            (stands_alike at.all image alike (index_of (slots old)) n.digest_of at.shown office.durable at.stands)

        second_written : WriteNoFirst changes
        second_written = subst WriteNoFirst (sym planned.are) (no_first place index.lines planned.files)

        leads : LeadsTo n.digest_of (Migrate name) changes office names at.all
        leads = record {
          carried = record { answer = Done; after = office };
          judged = judged office names at;
          stands = record { index = index_of (slots old); shown = at.shown; stands = stands };
          second = second_written;
        }

      pub runs_write_failed : (new : StoreParts D N S d n) (refusal : Refusal) → Writes old changes (Err refusal) new
          → Runs old (Migrate name) (Err refusal) new
      runs_write_failed new refusal w = runs_write_refused old new (Migrate name) changes refusal w leads (λ office names at. inr refl)

      leaves : LeavesIndex changes
      leaves = subst LeavesIndex (sym planned.are) (record {
        one = other_file place index.lines planned.files F.PoolIndex (λ i line there same. absurd cc);
        each = λ byte. other_file place index.lines planned.files (F.PoolBucket byte) (λ i line there same. absurd cc);
      })

      module _ (are : AreChanges changes) (new : StoreParts D N S d n) (done : Unit {0}) (w : Writes old changes (Ok done) new) where
        running_written : (office : Office) (names : Names) → IsRunning old office names → IsRunning new office names
        running_written office names at =
            running_hosts old new new office office.hosts names at changes done at.shown w are leaves (stands office names at) at.view
            (subst (λ (c : List Items). AreCountsOf c at.shown) (sym w.counts_same) at.counted) (w.partials_same ∙ at.parked) at.sound
            (second_applied names.old_hosts at.all changes (second_written office names at) at.second) refl refl
            (w.catalog_same ∙ at.catalog_is) refl refl refl

        running_after : (office : Office) (names : Names) (at : IsRunning old office names) → IsRunning new office (renamed office names at)
        running_after office names at =
            running_renamed new office names (fewer office names at) (running_written office names at)
            (λ all is.
            let same : applied (changes_of place index.lines planned.files) at.all ≡ all =
            ap (λ (cs : List Change). applied cs at.all) (sym planned.are)
            ∙ some_same (applied changes at.all) all (sym (w.committed.done ∙ ap (option_map (applied changes)) at.told_is) ∙ is) in
            subst (AreSecondBut (fewer office names at)) same (second_image office names at))

        holds : (office : Office) (names : Names) (at : IsRunning old office names)
            → HoldsAs (Migrate name) Done changes office names at.all new
        unfolding leads
        holds office names at = record {
          leads = leads office names at;
          answer_is = refl;
          names' = renamed office names at;
          renamed = names_after office names at;
          running = running_after office names at;
        }

        pub runs_made : Runs old (Migrate name) (Ok Done) new
        runs_made = runs_written_as old new new (Migrate name) Done changes done w refl refl holds refl

      -- there are no changes
      pub runs_nothing : (mid : StoreParts D N S d n) → IsRead old mid → changes ≡ []
          → d.fault_count mid.journal.disk ≡ d.fault_count old.journal.disk → Runs old (Migrate name) (Ok Done) mid
      runs_nothing mid is_read none still = record {
        steps = λ office names at. record {
          next = Running office (renamed office names at);
          step = (judged office names at, names_after office names at);
          undamaged = tt;
          in_state = running_renamed mid office names (fewer office names at) (running_reads old mid office names at (reads_of old mid is_read))
              (λ all is.
              let same : applied (changes_of place index.lines planned.files) at.all ≡ all =
              ap (λ (cs : List Change). applied cs at.all) (sym planned.are ∙ none)
              ∙ some_same at.all all (sym (is_read.quiet.told_same ∙ at.told_is) ∙ is) in
              subst (AreSecondBut (fewer office names at)) same (second_image office names at));
        };
        crash = λ office names at.
            crash_quiet old mid office names at (reads_of old mid is_read) (meaning_of (Migrate name)).pools ((meaning_of (Migrate name)).carried office names);
        in_kind = refl;
        awake = λ e. absurd cc;
        halts = λ not. works_reads old mid (reads_of old mid is_read);
        counted = subst (λ (k : ℕ). Counted (d.fault_count old.journal.disk) k (Ok Done ≡ Err R.DiskFault)) (sym still)
            (counted_still (d.fault_count old.journal.disk) (Ok Done ≡ Err R.DiskFault) (λ e. absurd cc));
        untouched = λ none damage. absurd (damage tt);
      }

  -- ---- the parts behind what was read

  module _ (old start : StoreParts D N S d n) (name : List ℕ) (place : ℕ) (index : HostIndex) (here : IsHostHere old.catalog name place index)
      (changes : List Change) (planned : IsPlanned (told old.journal) place index.lines changes) (read : IsRead old start)
      (same : d.fault_count start.journal.disk ≡ d.fault_count old.journal.disk) where
    here_still : IsHostHere start.catalog name place index
    here_still = subst (λ (k : Known). IsHostHere k name place index) (sym (ap (λ (p : StoreParts D N S d n). p.catalog) read.others)) here

    planned_still : IsPlanned (told start.journal) place index.lines changes
    planned_still = subst (λ (t : Option Files). IsPlanned t place index.lines changes) (sym read.quiet.told_same) planned

    pub runs_not_written : (new : StoreParts D N S d n) (refusal : Refusal) → Writes start changes (Err refusal) new
        → Runs old (Migrate name) (Err refusal) new
    runs_not_written new refusal w =
        runs_behind old start new (Migrate name) (Err refusal) (reads_of old start read) same
        (runs_write_failed start name place index here_still changes planned_still new refusal w)

    pub runs_migrated : AreChanges changes → (new : StoreParts D N S d n) (done : Unit {0}) → Writes start changes (Ok done) new
        → Runs old (Migrate name) (Ok Done) new
    runs_migrated are new done w =
        runs_behind old start new (Migrate name) (Ok Done) (reads_of old start read) same
        (runs_made start name place index here_still changes planned_still are new done w)
