-- The files after a planned commit stand for the office after it.
--     stored_after      for the office that the parts hold
--     ids_committed      its ids
use Rattle.std.specs.Prelude.{◌≡◌, ℕ, ◌≤◌, true, false, not, List, ◌++◌, length, Option, Some, None, is_some, slice_get, slice_set}
use Rattle.std.specs.Option.{option_map}
use Rattle.std.proofs.Common.{refl, sym, ap, ◌∙◌, subst, arith}
use Rattle.std.proofs.lemmas.Option.{slice_get_within}
use Rattle.disk_trait.specs.declared.ids.PoolId.{PoolId}
use Rattle.disk_trait.specs.declared.ids.FileId.{FileId}
use Rattle.disk_trait.specs.declared.ids.FileId.TheVariants as F
use Rattle.disk_trait.specs.declared.disk.Disk.{Ghosts as DiskGhosts}
use Rattle.disk_trait.specs.Names.{is_metadata}
use Rattle.disk_trait.specs.Files.{Files}
use Rattle.pool_name.specs.declared.namer.Namer.{Ghosts as NamerGhosts}
use Rattle.intent_journal.specs.declared.changes.Change.{Change}
use Rattle.intent_journal.specs.Changes.{applied}
use Rattle.journal_view.specs.View.{told, uncertain}
use Rattle.backup_rules.specs.declared.lines.Line.{Line}
use Rattle.backup_index.specs.Index.{Index as HostIndex}
use Rattle.merge_view.specs.Views.{Rows}
use Rattle.pool_index.specs.Index.{Index, TellsByte, TellsBuckets}
use Rattle.pool_changes.specs.Listed.{index_of}
use Rattle.pool_changes.specs.Indexed.{after as relisted_after, relisted_by}
use Rattle.stored_trees.specs.Resolved.{resolved, AreTold}
use Rattle.ref_counts.specs.Numbers.{Items}
use Rattle.ref_counts.specs.Stored.{StoredHost}
use Rattle.ref_counts.specs.CountsFile.{counts_file}
use Rattle.host_partials.specs.declared.held.PartialHead.{PartialHead}
use Rattle.host_partials.specs.Held.{head_at}
use Rattle.open_sessions.specs.declared.sessions.OpenDump.{OpenDump}
use Rattle.open_sessions.specs.SessionLaws.{pairs_set}
use Rattle.office_catalog.specs.Held.{HoldsCatalog}
use Rattle.office_catalog.specs.Known.{Known, with_line}
use Rattle.office_model.specs.Office.{Office, Durable, Host, Names, IsSound, IsSoundDurable, IsSoundHost, backup_index}
use Rattle.office_model.specs.PlacesLaws.{slice_get-set_same}
use Rattle.office_model.specs.UsedNames.{AreIdsAfter}
use Rattle.office_model.specs.Parts.{lines_of}
use Rattle.office_model.specs.Pool.{Pool, with_tree}
use Rattle.office_model.specs.events.Commit.{new_backup, with_commit}
use Rattle.office_files.specs.Hosts.{index_of_host, IsShown, StandsHost}
use Rattle.office_files.specs.Layouts.{IsHostFile}
use Rattle.office_files.specs.Owners.{has_backup}
use Rattle.office_model.specs.PairsLaws.{other_at, pair_at}
use Rattle.office_files.specs.Pooled.{contents_of, IsListed}
use Rattle.office_files.specs.Stands.{Stands}
use Rattle.office_changes.specs.Commits.{IsListedWith}
use Rattle.office_changes.specs.CommitLaws.{backups_alone}
use Rattle.office_changes.specs.IdLaws.{ids_with}
use Rattle.store_parts.specs.KnownOffice.{stands_catalog}
use Rattle.office_changes.specs.ChangeLaws.{is_of_host, is_of_index}
use Rattle.office_changes.specs.PoolLaws.{listed_with, told_with}
use Rattle.store_parts.specs.declared.parts.StoreParts.{StoreParts}
use Rattle.store_parts.specs.Held.{given, AreCounts, head_of}
use Rattle.store_parts.specs.States.{slots, IsRunning}
use Rattle.store_parts.specs.StoredLaws.{contents_written}
use Rattle.store_commits.specs.declared.plan.Plan.{Plan}
use Rattle.store_commits.specs.AcceptLaws.{with_added}
use Rattle.store_commits.specs.Ids.{ids_in}
use Rattle.store_commits.specs.IdsLaws.{given_ids, all_given}
use Rattle.store_commits.specs.Former.{dropped_of, IsFolded}
use Rattle.store_commits.specs.Judged.{receipt_by}
use Rattle.store_commits.specs.Parked.{AreParked}
use Rattle.store_commits.specs.ParkedLaws.{head_there, parked_stored, parked_few, none_parked}
use Rattle.store_commits.specs.CountsLaws.{AreLeft, left_of}
use Rattle.store_commits.specs.Planned.{IsPlanned}
use Rattle.store_commits.specs.Written.{host_part}
use Rattle.store_commits.specs.WrittenLaws.{IsFormer, AreOfIndex, at_other, at_pool_index, at_pool_bucket}
use Rattle.store_commits.specs.CommittedLaws.{number_is, former_is, index_listed, changes_are, planned_changes, of_index}
use Rattle.store_commits.specs.HostLaws.{new_stored}
use Rattle.office_changes.specs.BoundLaws.{length-map_values}
use Rattle.store_commits.specs.LineLaws.{index_committed}
use Rattle.store_commits.specs.HostFileLaws.{index_after}
use Rattle.store_commits.specs.HostAfterLaws.{IsBuiltOf, HostAfter, host_after}
use Rattle.store_commits.specs.KeptLaws.{kept_after}
use Rattle.store_commits.specs.OfficeLaws.{listed_rows, office_committed}
use Rattle.store_commits.specs.MovedLaws.{ids_moved_by}
use Rattle.store_commits.specs.ReadyLaws.{index_there}
use Rattle.store_commits.specs.Committing.{office_after, named_by, IsMeant, IsStoredAfter}

some_same : {A : Type 0} (a b : A) → Some a ≡ Some b → a ≡ b
some_same a b e = cc

module _ {D N S : Type 0} {d : DiskGhosts D} {n : NamerGhosts N S} where
  module _ (parts : StoreParts D N S d n) (place : ℕ) (session : OpenDump) (line : Line) (plan : Plan) (office : Office) (names : Names)
      (at : IsRunning parts office names) (planned : IsPlanned parts session line plan) (m : IsMeant parts place session office names at)
      (sound : IsSound (office_after office place m.dump m.host line)) where
    abbrev number : ℕ
    number = m.dump.host

    abbrev rows : Rows
    rows = session.tree

    abbrev new : Host
    new = with_commit m.host m.dump line

    abbrev next : Index
    next = index_of (with_added (ids_in rows) (slots parts))

    -- ---- what memory says of the host

    index_is : planned.judged.index ≡ index_of_host number m.host
    index_is =
        some_same planned.judged.index (index_of_host number m.host)
        (sym (subst (λ (h : ℕ). slice_get parts.catalog.hosts h ≡ Some planned.judged.index) m.is.host planned.judged.here)
        ∙ ap (λ (k : Known). slice_get k.hosts number) at.catalog_is ∙ index_there office.hosts number m.host m.here)

    file_is : planned.lines.file ≡ number
    file_is = planned.judged.file ∙ m.is.host

    next_is : planned.lines.line.number ≡ line.number
    next_is = number_is parts session line plan planned

    free : m.host.next ≤ line.number
    free = subst (λ (k : ℕ). k ≤ line.number) (ap (λ (i : HostIndex). i.next) index_is) planned.judged.free

    receipt_is : planned.lines.receipt ≡ receipt_by m.dump.token m.dump.name line.number
    receipt_is = planned.judged.receipt ∙ (λ j. receipt_by (m.is.token j) (m.is.name j) line.number)

    dropped_is : planned.lines.dropped ≡ dropped_of m.host.rules (lines_of m.host.backups)
    dropped_is = planned.judged.dropped ∙ ap (λ (i : HostIndex). dropped_of i.rules i.lines) index_is

    -- ---- what the host had

    abbrev found : (of : StoredHost) × (slice_get at.shown number ≡ Some of)
        × StandsHost (IsListed (index_of (slots parts))) (contents_of at.all) at.all number m.host of
    found = pair_at (StandsHost (IsListed (index_of (slots parts))) (contents_of at.all) at.all) office.hosts at.shown at.stands.hosts number
        m.host m.here

    -- its counts
    abbrev had : (items : Items) × (slice_get parts.counts number ≡ Some items)
    had = other_at at.shown parts.counts number found.0 (sym at.counted.counted) found.1

    had_counted : AreCounts had.0 found.0
    had_counted = at.counted.each number had.0 found.0 had.1 found.1

    -- ---- its partial

    are_parked : AreParked (told parts.journal) (option_map head_of m.host.partial) number planned.parked
    are_parked = subst (λ (h : ℕ). AreParked (told parts.journal) (option_map head_of m.host.partial) h planned.parked) file_is
        (subst (λ (head : Option PartialHead). AreParked (told parts.journal) head planned.lines.file planned.parked) head planned.are_parked)
      where
        head : head_at parts.partials session.host ≡ option_map head_of m.host.partial
        head = (λ j. head_at (at.parked j) (m.is.host j)) ∙ head_there office.hosts number m.host m.here

    -- what was read is what is stored
    parked_is : planned.parked ≡ found.0.partial
    parked_is =
        parked_stored (IsListed (index_of (slots parts))) (contents_of at.all) number m.host.partial found.0.partial (told parts.journal) at.all
        planned.parked at.told_is found.2.partial are_parked

    left : AreLeft had.0 planned.parked found.0.backups
    left =
        left_of had.0 planned.parked found.0 had_counted parked_is
        (parked_few (told parts.journal) (option_map head_of m.host.partial) number at.all planned.parked at.told_is are_parked)

    -- without a partial it has no file
    no_file : planned.parked ≡ None → at.all (F.Partial number) ≡ None
    no_file none =
        none_parked (IsListed (index_of (slots parts))) (contents_of at.all) number m.host.partial found.0.partial (at.all (F.Partial number))
        found.2.partial (sym parked_is ∙ none)

    -- ---- what was built

    holds : HoldsCatalog at.all parts.catalog
    holds = subst (HoldsCatalog at.all) (sym at.catalog_is)
        (stands_catalog n.digest_of (index_of (slots parts)) at.shown at.all office.durable at.stands)

    -- what the file of the host's index gets
    abbrev bytes : Option (List ℕ)
    bytes = (index_listed parts session line plan planned).0

    index_built : IsHostFile (index_of_host number new) bytes
    index_built = subst (λ (i : HostIndex). IsHostFile i bytes)
        ((λ j. with_line (planned.judged.is j) (not (is_some (dropped_is j))) (receipt_is j) (index_is j))
        ∙ index_committed m.host m.dump line number m.unspent)
        (index_after at.all parts.catalog session.host
        (with_line planned.lines.line (not (is_some planned.lines.dropped)) planned.lines.receipt) planned.judged.index
        planned.built.listed bytes holds planned.judged.here planned.built.lists (index_listed parts session line plan planned).1)

    built : IsBuiltOf (told parts.journal) number m.host m.dump line rows planned.parked planned.folding had.0 planned.counts bytes planned.built.files
    built = record {
      index = index_built;
      table = planned.built.table;
      counts = (planned.built.counted.0, planned.built.counted.1 ∙ ap (λ (h : ℕ). counts_file h planned.counts) file_is);
      former = planned.built.former;
      free = free;
      is_former = subst (λ (k : ℕ). IsFormer k planned.built.files.former) next_is (former_is parts session line plan planned);
      folded = subst (λ (h : ℕ). IsFolded (told parts.journal) h (dropped_of m.host.rules (lines_of m.host.backups)) rows planned.folding) file_is
          (subst (λ (d : Option Line). IsFolded (told parts.journal) planned.lines.file d rows planned.folding) dropped_is planned.folded);
      parked_is = planned.built.parked_is;
      are_counted = planned.are_counted had.0 (ap (slice_get parts.counts) m.is.host ∙ had.1);
    }

    -- ---- the files after it

    abbrev image : Files
    image = applied plan.changes at.all

    abbrev pooled : List Change
    pooled = planned.built.pooled

    all_changes : plan.changes ≡ pooled ++ host_part number line.number bytes planned.built.files
    all_changes = changes_are parts session line plan planned ∙ (λ j. pooled ++ host_part (m.is.host j) (next_is j) bytes planned.built.files)

    image_is : applied (pooled ++ host_part number line.number bytes planned.built.files) at.all ≡ image
    image_is = ap (λ (changes : List Change). applied changes at.all) (sym all_changes)

    pooled_are : AreOfIndex pooled
    pooled_are = of_index parts.pool.in_one_file (index_of (slots parts)) (index_of (relisted_after plan.index (slots parts))) pooled planned.built.leads

    contents_are : contents_of image ≡ contents_of at.all
    contents_are = contents_written plan.changes at.all (planned_changes parts session line plan planned)

    listed : IsListedWith rows (contents_of at.all) (index_of (slots parts)) next
    listed = listed_rows n.digest_of (slots parts) (uncertain parts.journal) at.all at.fits rows m.is.tree_rows.told

    listed_still : (id : PoolId) → IsListed (index_of (slots parts)) id → IsListed next id × (contents_of at.all id ≡ contents_of image id)
    listed_still id was = (
      listed_with rows (contents_of at.all) (index_of (slots parts)) next listed id was,
      sym (ap (λ (c : PoolId → List ℕ). c id) contents_are),
    )

    fresh : IsShown (IsListed next) (contents_of image) (new_backup m.dump line) (new_stored rows)
    fresh = record {
      filled = sym planned.judged.filled;
      tree = m.is.tree ∙ ap (λ (c : PoolId → List ℕ). resolved c rows) (sym contents_are);
      whole = m.is.tree_rows.whole;
      told = subst (λ (c : PoolId → List ℕ). AreTold (IsListed next) c rows) (sym contents_are)
          (told_with rows (contents_of at.all) (index_of (slots parts)) next listed (given (slots parts)) m.is.tree_rows.told);
    }

    few : length rows ≤ 1048576
    few =
        let tree = at.sound.dumps.trees place m.dump m.there in
        let size : length m.dump.tree ≡ length rows = ap length m.is.tree ∙ length-map_values _ rows in
        omega (arith, size, tree.few)

    sound_new : IsSoundHost new
    sound_new = sound.hosts.each number new (slice_get-set_same office.hosts number new (slice_get_within office.hosts number m.host m.here))

    none_else : (k : ℕ) → is_some (backup_index m.host.backups k) ≡ false → at.all (F.Table number k) ≡ None
    none_else k e = at.stands.nothing_else (F.Table number k) (ap (λ (h : Option Host). has_backup h k) m.here ∙ e)

    host_then : HostAfter (IsListed next) (contents_of image) image number m.host new planned.counts found.0.backups
    host_then = subst (λ (i : Files). HostAfter (IsListed next) (contents_of image) i number m.host new planned.counts found.0.backups) image_is
        (host_after (IsListed (index_of (slots parts))) (IsListed next) (contents_of at.all) (contents_of image) listed_still (told parts.journal)
        at.all at.told_is number m.host m.dump line rows planned.parked planned.folding had.0 planned.counts pooled bytes planned.built.files pooled_are built
        (at.sound.hosts.each number m.host m.here).backups.numbered sound_new.numbers few sound_new.backups.numbered fresh none_else no_file
        found.0.backups found.0.partial found.2 left)

    stays : (file : FileId) → is_metadata file ≡ true → is_of_host number file ≡ false → is_of_index file ≡ false → image file ≡ at.all file
    stays file metadata out none =
        ap (λ (i : Files). i file) (sym image_is)
        ∙ at_other pooled number line.number bytes planned.built.files at.all pooled_are built.is_former file out none

    tells : TellsBuckets next image
    tells = subst (λ (i : Files). TellsBuckets next i) image_is (record {
      none = at_pool_index pooled number line.number bytes planned.built.files at.all pooled_are built.is_former ∙ was.none;
      each = λ byte within.
          subst (TellsByte byte next)
          (sym (at_pool_bucket pooled number line.number bytes planned.built.files at.all pooled_are built.is_former byte)) (was.each byte within);
      within = was.within;
    })
      where
        added : plan.index.added.items ≡ ids_in rows
        added = planned.built.of_ids.added_are
            ∙ all_given (slots parts) rows (given_ids (slots parts) (contents_of at.all) rows m.is.tree_rows.told)

        relisted : relisted_after plan.index (slots parts) ≡ with_added (ids_in rows) (slots parts)
        relisted = λ j. relisted_by (added j) (planned.built.of_ids.marked_are j) (planned.built.of_ids.unmarked_are j)
            (planned.built.of_ids.removed_are j) (slots parts)

        was : TellsBuckets next (applied pooled at.all)
        was = subst (λ s. TellsBuckets (index_of s) (applied pooled at.all)) relisted (planned.built.leads.leads at.all at.tells)

    abbrev with_pool : Pool → Durable
    with_pool pool = record office.durable { hosts = slice_set office.hosts number new; pool = pool }

    abbrev with_names : Pool → Durable
    with_names pool = record (with_pool pool) { ids = ids_with rows (contents_of at.all) office.ids }

    -- what is stored of the host then
    abbrev after : StoredHost
    after = backups_alone host_then.after

    stands : Stands n.digest_of next (slice_set at.shown number after) image (with_names (with_tree office.pool m.dump.tree))
    stands = subst (λ tree. Stands n.digest_of next (slice_set at.shown number after) image (with_names (with_tree office.pool tree)))
        (sym m.is.tree)
        (office_committed n.digest_of (slots parts) (uncertain parts.journal) at.all at.fits rows m.is.tree_rows.told at.shown image
        office.durable number m.host new after contents_are m.here refl stays host_then.beyond host_then.stands tells
        (subst (λ tree. IsSoundDurable (with_pool (with_tree office.pool tree))) m.is.tree sound.kept) at.stands)

    pub stored_after : IsStoredAfter parts at.all (ids_in rows) plan.changes (slice_set parts.counts number planned.counts)
        (named_by rows (contents_of at.all) (office_after office place m.dump m.host line))
    stored_after = record {
      shown = slice_set at.shown number after;
      stands = stands;
      tells = tells;
      counted = pairs_set AreCounts parts.counts at.shown at.counted number planned.counts after host_then.counted;
      view = kept_after office.hosts at.shown number m.host new found.0 after m.here found.1 host_then.still parts.views.kept at.view;
    }

    pub ids_committed : AreIdsAfter names office.durable (named_by rows (contents_of at.all) (office_after office place m.dump m.host line)).durable
    ids_committed =
        ids_moved_by parts office names at rows m.is.tree_rows.told plan.changes (slice_set at.shown number after)
        (named_by rows (contents_of at.all) (office_after office place m.dump m.host line)).durable (planned_changes parts session line plan planned)
        stands
