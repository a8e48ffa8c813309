-- The files after a planned park stand for the office after it.
--     office_parked      the office after the park of an open dump, but for the ids
--     planned_changes      the changes of a plan name metadata files, none twice
--     second_planned      and write no table of the first layout
--     stored_parked      for the office that the parts hold
--     ids_parked      its ids
use Rattle.std.specs.Prelude.{◌≡◌, ℕ, true, false, List, ◌++◌, Option, Some, None, is_some, slice_set}
use Rattle.std.proofs.Common.{refl, sym, ap, ◌∙◌, subst}
use Rattle.disk_trait.specs.declared.ids.PoolId.{PoolId}
use Rattle.disk_trait.specs.declared.ids.FileId.{FileId}
use Rattle.disk_trait.specs.declared.ids.FileId.TheVariants as F
use Rattle.disk_trait.specs.declared.disk.Disk.{Ghosts as DiskGhosts}
use Rattle.disk_trait.specs.Names.{is_metadata}
use Rattle.disk_trait.specs.Files.{Files}
use Rattle.pool_name.specs.declared.namer.Namer.{Ghosts as NamerGhosts}
use Rattle.intent_journal.specs.declared.changes.Change.{Change}
use Rattle.intent_journal.specs.Changes.{applied, AreChanges}
use Rattle.journal_view.specs.View.{told, uncertain}
use Rattle.merge_view.specs.Views.{Rows}
use Rattle.partial_files.specs.declared.partial.PartialFile.{PartialFile}
use Rattle.partial_files.specs.Layout.{IsPartial}
use Rattle.partial_files.specs.Partials.{partial_file}
use Rattle.pool_index.specs.Index.{Index, TellsByte, TellsBuckets}
use Rattle.pool_changes.specs.Listed.{index_of}
use Rattle.pool_changes.specs.Indexed.{after as relisted_after, relisted_by}
use Rattle.stored_trees.specs.Resolved.{resolved, AreTold}
use Rattle.ref_counts.specs.Stored.{StoredHost}
use Rattle.ref_counts.specs.CountsFile.{counts_file}
use Rattle.host_partials.specs.Held.{head_at}
use Rattle.open_sessions.specs.declared.sessions.OpenDump.{OpenDump}
use Rattle.open_sessions.specs.SessionLaws.{pairs_set}
use Rattle.office_model.specs.Office.{Office, Durable, Host, Dump, Names, IsSound, IsSoundDurable, backup_index, with_hosts, with_pool}
use Rattle.office_model.specs.UsedNames.{AreIdsAfter}
use Rattle.office_model.specs.Pool.{Pool, with_tree}
use Rattle.office_model.specs.events.Park.{partial_of, with_partial}
use Rattle.office_files.specs.Hosts.{StandsPartial, StandsHost}
use Rattle.office_files.specs.Layouts.{parked_of}
use Rattle.office_files.specs.Owners.{has_backup}
use Rattle.office_files.specs.Pooled.{contents_of, IsListed}
use Rattle.office_files.specs.Stands.{Stands}
use Rattle.office_files.specs.TableLayouts.{WriteNoFirst}
use Rattle.office_files.specs.TableLayoutLaws.{none_in_both}
use Rattle.office_changes.specs.Commits.{IsListedWith}
use Rattle.office_changes.specs.IdLaws.{ids_with}
use Rattle.office_changes.specs.ChangeLaws.{is_of_host, is_of_index}
use Rattle.office_changes.specs.PoolLaws.{listed_with, told_with}
use Rattle.office_changes.specs.LayoutLaws.{second_of_index}
use Rattle.store_parts.specs.declared.parts.StoreParts.{StoreParts}
use Rattle.store_parts.specs.Held.{given, AreCounts}
use Rattle.store_parts.specs.States.{slots, IsRunning}
use Rattle.store_parts.specs.StoredLaws.{contents_written}
use Rattle.store_commits.specs.AcceptLaws.{with_added}
use Rattle.store_commits.specs.Ids.{ids_in}
use Rattle.store_commits.specs.IdsLaws.{given_ids, all_given}
use Rattle.store_commits.specs.WrittenLaws.{AreOfIndex}
use Rattle.store_commits.specs.CommittedLaws.{of_index}
use Rattle.store_commits.specs.OfficeLaws.{listed_rows, office_committed}
use Rattle.store_commits.specs.MovedLaws.{ids_moved_by}
use Rattle.store_commits.specs.Committing.{named_by, IsMeant, IsStoredAfter}
use Rattle.store_partials.specs.declared.plan.ParkPlan.{ParkPlan}
use Rattle.store_partials.specs.Parked.{dump_file, IsRecounted, IsPlanned}
use Rattle.store_partials.specs.Written.{host_part}
use Rattle.store_partials.specs.WrittenLaws.{are_written, second_part, at_other, at_pool_index, at_pool_bucket}
use Rattle.store_partials.specs.AfterLaws.{host_parked, none_beyond}
use Rattle.store_partials.specs.MemoryLaws.{view_same}
use Rattle.store_partials.specs.HostLaws.{found, counted_then}

-- what a dump has so far becomes its host's partial, and its contents are pooled
abbrev pub office_parked : Office → Dump → Host → Office
office_parked office dump host =
    with_pool (with_hosts office (slice_set office.hosts dump.host (with_partial host (Some (partial_of dump))))) (with_tree office.pool dump.tree)

module _ {D N S : Type 0} {d : DiskGhosts D} {n : NamerGhosts N S} where
  module _ (parts : StoreParts D N S d n) (session : OpenDump) (plan : ParkPlan) (planned : IsPlanned parts session plan) where
    pub pooled_are : AreOfIndex planned.built.pooled
    pooled_are = of_index parts.pool.in_one_file (index_of (slots parts)) (index_of (relisted_after plan.index (slots parts))) planned.built.pooled
        planned.built.leads

    pub planned_changes : AreChanges plan.changes
    planned_changes =
        subst AreChanges (sym planned.built.changes)
        (are_written planned.built.pooled session.host (counts_file session.host planned.counts)
        (Some (partial_file session.host (dump_file session))) (λ file. None) pooled_are)

    pub second_planned : WriteNoFirst plan.changes
    second_planned =
        subst WriteNoFirst (sym planned.built.changes)
        (none_in_both planned.built.pooled
        (host_part session.host (counts_file session.host planned.counts) (Some (partial_file session.host (dump_file session))))
        (second_of_index planned.built.pooled pooled_are.only)
        (second_part session.host (counts_file session.host planned.counts) (Some (partial_file session.host (dump_file session)))))

  module _ (parts : StoreParts D N S d n) (place : ℕ) (session : OpenDump) (plan : ParkPlan) (office : Office) (names : Names)
      (at : IsRunning parts office names) (planned : IsPlanned parts session plan) (m : IsMeant parts place session office names at)
      (sound : IsSound (office_parked office m.dump m.host)) where
    abbrev number : ℕ
    number = m.dump.host

    abbrev rows : Rows
    rows = session.tree

    abbrev new : Host
    new = with_partial m.host (Some (partial_of m.dump))

    abbrev next : Index
    next = index_of (with_added (ids_in rows) (slots parts))

    abbrev pooled : List Change
    pooled = planned.built.pooled

    abbrev bytes : List ℕ
    bytes = partial_file number (dump_file session)

    -- ---- the files after it

    abbrev image : Files
    image = applied plan.changes at.all

    all_changes : plan.changes ≡ pooled ++ host_part number (counts_file number planned.counts) (Some bytes)
    all_changes =
        planned.built.changes
        ∙ ap (λ (h : ℕ). pooled ++ host_part h (counts_file h planned.counts) (Some (partial_file h (dump_file session)))) m.is.host

    image_is : applied (pooled ++ host_part number (counts_file number planned.counts) (Some bytes)) at.all ≡ image
    image_is = ap (λ (changes : List Change). applied changes at.all) (sym all_changes)

    are_of_index : AreOfIndex pooled
    are_of_index = pooled_are parts session plan planned

    contents_are : contents_of image ≡ contents_of at.all
    contents_are = contents_written plan.changes at.all (planned_changes parts session plan planned)

    listed : IsListedWith rows (contents_of at.all) (index_of (slots parts)) next
    listed = listed_rows n.digest_of (slots parts) (uncertain parts.journal) at.all at.fits rows m.is.tree_rows.told

    listed_still : (id : PoolId) → IsListed (index_of (slots parts)) id → IsListed next id × (contents_of at.all id ≡ contents_of image id)
    listed_still id was = (
      listed_with rows (contents_of at.all) (index_of (slots parts)) next listed id was,
      sym (ap (λ (c : PoolId → List ℕ). c id) contents_are),
    )

    -- ---- the host

    same_file : dump_file session ≡ parked_of m.dump.kind m.dump.start rows
    same_file = λ i. record { kind = m.is.kind i; start = m.is.start i; rows = session.tree }

    parked : StandsPartial (IsListed next) (contents_of image) number (Some (partial_of m.dump)) (Some rows) (Some bytes)
    parked = record {
      tree = m.is.tree ∙ ap (λ (c : PoolId → List ℕ). resolved c rows) (sym contents_are);
      whole = m.is.tree_rows.whole;
      told = subst (λ (c : PoolId → List ℕ). AreTold (IsListed next) c rows) (sym contents_are)
          (told_with rows (contents_of at.all) (index_of (slots parts)) next listed (given (slots parts)) m.is.tree_rows.told);
      file = record {
        fits = subst IsPartial same_file planned.fits;
        is = ap (λ (file : PartialFile). Some (partial_file number file)) same_file;
      };
    }

    -- what is stored of it
    abbrev of : StoredHost
    of = (found parts office names at number m.host m.here).0

    abbrev after : StoredHost
    after = record of { partial = Some rows }

    recounted : IsRecounted (told parts.journal) (head_at parts.partials number) number parts.counts number (Some rows) planned.counts
    recounted = subst (λ (h : ℕ). IsRecounted (told parts.journal) (head_at parts.partials h) h parts.counts h (Some rows) planned.counts) m.is.host
        planned.recounted

    counted : AreCounts planned.counts after
    counted = counted_then parts office names at number m.host m.here (Some rows) planned.counts recounted planned.fits.table.count

    stands_host : StandsHost (IsListed next) (contents_of image) image number new after
    stands_host = subst (λ (i : Files). StandsHost (IsListed next) (contents_of image) i number new after) image_is
        (host_parked (IsListed (index_of (slots parts))) (IsListed next) (contents_of at.all) (contents_of image) listed_still at.all number m.host of
        (found parts office names at number m.host m.here).2 pooled planned.counts (Some bytes) are_of_index planned.built.fits
        (Some (partial_of m.dump)) (Some rows) parked counted)

    none_else : (k : ℕ) → is_some (backup_index m.host.backups k) ≡ false → at.all (F.Table number k) ≡ None
    none_else k e = at.stands.nothing_else (F.Table number k) (ap (λ (h : Option Host). has_backup h k) m.here ∙ e)

    beyond : (k : ℕ) → is_some (backup_index new.backups k) ≡ false → image (F.Table number k) ≡ None
    beyond k e =
        ap (λ (i : Files). i (F.Table number k)) (sym image_is)
        ∙ none_beyond (IsListed (index_of (slots parts))) (IsListed next) (contents_of at.all) (contents_of image) listed_still at.all number m.host of
        (found parts office names at number m.host m.here).2 pooled planned.counts (Some bytes) are_of_index planned.built.fits
        (Some (partial_of m.dump)) (Some rows) parked counted none_else k e

    -- ---- the others

    stays : (file : FileId) → is_metadata file ≡ true → is_of_host number file ≡ false → is_of_index file ≡ false → image file ≡ at.all file
    stays file metadata out none =
        ap (λ (i : Files). i file) (sym image_is)
        ∙ at_other pooled number (counts_file number planned.counts) (Some bytes) at.all are_of_index file out none

    tells : TellsBuckets next image
    tells = subst (λ (i : Files). TellsBuckets next i) image_is (record {
      none = at_pool_index pooled number (counts_file number planned.counts) (Some bytes) at.all are_of_index ∙ was.none;
      each = λ byte within.
          subst (TellsByte byte next)
          (sym (at_pool_bucket pooled number (counts_file number planned.counts) (Some bytes) at.all are_of_index byte)) (was.each byte within);
      within = was.within;
    })
      where
        added : plan.index.added.items ≡ ids_in rows
        added = planned.built.of_ids.added_are
            ∙ all_given (slots parts) rows (given_ids (slots parts) (contents_of at.all) rows m.is.tree_rows.told)

        relisted : relisted_after plan.index (slots parts) ≡ with_added (ids_in rows) (slots parts)
        relisted = λ j. relisted_by (added j) (planned.built.of_ids.marked_are j) (planned.built.of_ids.unmarked_are j)
            (planned.built.of_ids.removed_are j) (slots parts)

        was : TellsBuckets next (applied pooled at.all)
        was = subst (λ s. TellsBuckets (index_of s) (applied pooled at.all)) relisted (planned.built.leads.leads at.all at.tells)

    abbrev with_the_pool : Pool → Durable
    with_the_pool pool = record office.durable { hosts = slice_set office.hosts number new; pool = pool }

    abbrev with_names : Pool → Durable
    with_names pool = record (with_the_pool pool) { ids = ids_with rows (contents_of at.all) office.ids }

    stands : Stands n.digest_of next (slice_set at.shown number after) image (with_names (with_tree office.pool m.dump.tree))
    stands = subst (λ tree. Stands n.digest_of next (slice_set at.shown number after) image (with_names (with_tree office.pool tree)))
        (sym m.is.tree)
        (office_committed n.digest_of (slots parts) (uncertain parts.journal) at.all at.fits rows m.is.tree_rows.told at.shown image
        office.durable number m.host new after contents_are m.here refl stays beyond stands_host tells
        (subst (λ tree. IsSoundDurable (with_the_pool (with_tree office.pool tree))) m.is.tree sound.kept) at.stands)

    pub stored_parked : IsStoredAfter parts at.all (ids_in rows) plan.changes (slice_set parts.counts number planned.counts)
        (named_by rows (contents_of at.all) (office_parked office m.dump m.host))
    stored_parked = record {
      shown = slice_set at.shown number after;
      stands = stands;
      tells = tells;
      counted = pairs_set AreCounts parts.counts at.shown at.counted number planned.counts after counted;
      view = view_same office.hosts at.shown number m.host of (Some (partial_of m.dump)) (Some rows) m.here
          (found parts office names at number m.host m.here).1 parts.views.kept at.view;
    }

    pub ids_parked : AreIdsAfter names office.durable (named_by rows (contents_of at.all) (office_parked office m.dump m.host)).durable
    ids_parked =
        ids_moved_by parts office names at rows m.is.tree_rows.told plan.changes (slice_set at.shown number after)
        (named_by rows (contents_of at.all) (office_parked office m.dump m.host)).durable (planned_changes parts session plan planned) stands
