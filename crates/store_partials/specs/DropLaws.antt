-- What a drop of a host's partial leaves.
--     runs_no_host, runs_no_partial      there is no host of the name, or it has no partial
--     head_none, head_some      what a look-up of its partial in memory says
--     runs_drop_refused      it couldn't be planned
--     drop_changes, drop_planned, counted_planned      what the write and what is behind it call for
--     IsDropped      the parts behind the write
--     runs_not_written, runs_dropped      the event's answer after the write
use Rattle.std.specs.Prelude.{◌≡◌, ◌⊎◌, ℕ, ◌<◌, Bool, true, false, not, List, [], length, Option, Some, None, Ok, Err, IsErrOf, is_some, is_none, slice_get, slice_set}
use Rattle.std.specs.Option.{option_map}
use Rattle.std.proofs.Common.{refl, sym, ap, ◌∙◌, subst, inl, inr}
use Rattle.std.proofs.lemmas.Bool.{false≢true}
use Rattle.fault_counts.specs.Counts.{Counted}
use Rattle.disk_trait.specs.declared.ids.PoolId.{PoolId}
use Rattle.disk_trait.specs.declared.ids.FileId.{FileId}
use Rattle.disk_trait.specs.declared.ids.FileId.TheVariants as F
use Rattle.disk_trait.specs.declared.disk.Disk.{Ghosts as DiskGhosts}
use Rattle.disk_trait.specs.Names.{is_same_file, is_metadata}
use Rattle.disk_trait.specs.Files.{Files}
use Rattle.pool_name.specs.declared.namer.Namer.{Ghosts as NamerGhosts}
use Rattle.intent_journal.specs.declared.changes.Change.{Change}
use Rattle.intent_journal.specs.Changes.{applied, AreChanges}
use Rattle.journal_view.specs.View.{Quiet}
use Rattle.pool_changes.specs.Listed.{index_of}
use Rattle.ref_counts.specs.Numbers.{Items}
use Rattle.ref_counts.specs.CountsFile.{counts_file}
use Rattle.ref_counts.specs.Stored.{StoredHost}
use Rattle.host_partials.specs.declared.held.PartialHead.{PartialHead}
use Rattle.host_partials.specs.Held.{head_at}
use Rattle.open_sessions.specs.SessionLaws.{pairs_set}
use Rattle.office_catalog.specs.Known.{known_of, host_named, names_of}
use Rattle.office_model.specs.declared.answer.Answer.TheVariants.{Done}
use Rattle.office_model.specs.declared.event.Event.TheVariants.{DropPartial}
use Rattle.office_model.specs.declared.refusal.BrokenRule.TheVariants.{NoHost, NoPartial}
use Rattle.office_model.specs.declared.refusal.Refusal.{Refusal}
use Rattle.office_model.specs.declared.refusal.Refusal.TheVariants.{Broken, Halted, DiskFault, Memory}
use Rattle.office_model.specs.Office.{Office, Host, Partial, Names, backup_index, with_hosts}
use Rattle.office_model.specs.UsedNames.{AreSound}
use Rattle.office_model.specs.Meaning.{Carried, Judged, Commits}
use Rattle.office_model.specs.Step.{Running, IsStep as IsModelStep, MayFault}
use Rattle.office_model.specs.History.{IsUndamaged}
use Rattle.office_model.specs.events.DropPartial as DropEvent
use Rattle.office_model.specs.events.Park.{with_partial}
use Rattle.office_model.specs.laws.StateLaws.{AreSound-carried}
use Rattle.office_files.specs.Owners.{has_backup}
use Rattle.office_files.specs.Pooled.{contents_of, IsListed}
use Rattle.office_files.specs.Hosts.{StandsHost}
use Rattle.office_files.specs.KeptLaws.{tells_kept, one_kept, pool_kept, ids_kept}
use Rattle.office_files.specs.Stands.{Stands}
use Rattle.office_files.specs.TableLayouts.{WriteNoFirst}
use Rattle.office_files.specs.TableLayoutLaws.{second_applied}
use Rattle.store_parts.specs.KnownOffice.{known_of_office, named_host}
use Rattle.office_changes.specs.ChangeLaws.{host_changed, is_of_host, is_of_index}
use Rattle.store_parts.specs.declared.parts.StoreParts.{StoreParts}
use Rattle.store_parts.specs.Held.{AreCounts, AreCountsOf, head_of, heads_of}
use Rattle.store_parts.specs.States.{slots, IsRunning}
use Rattle.store_parts.specs.Runs.{Runs}
use Rattle.store_parts.specs.HeadLaws.{heads-set}
use Rattle.store_parts.specs.Writes.{Writes}
use Rattle.store_parts.specs.StoredLaws.{contents_written}
use Rattle.store_parts.specs.RunLaws.{reads_behind, runs_behind, runs_reads}
use Rattle.store_parts.specs.StepLaws.{names_refused, step_memory}
use Rattle.store_parts.specs.RefusedLaws.{runs_no_host as runs_none_named, runs_broken}
use Rattle.store_parts.specs.WriteLaws.{LeadsTo, LeavesIndex, Holds, runs_write_refused, runs_written, running_hosts}
use Rattle.store_partials.specs.declared.plan.DropPlan.{DropPlan}
use Rattle.store_partials.specs.Parked.{IsRecounted, IsDropPlanned, IsDropFault}
use Rattle.store_partials.specs.Written.{host_part}
use Rattle.store_partials.specs.WrittenLaws.{none_of_index, are_host_part, second_part, at_other, at_pool_index, at_pool_bucket}
use Rattle.store_partials.specs.AfterLaws.{host_parked, none_beyond}
use Rattle.store_partials.specs.MemoryLaws.{catalog_same, view_same}
use Rattle.store_partials.specs.HostLaws.{found, head_is, counted_then, told_then}

-- ---- the event

-- a partial that is known is there
there_is : (partial : Option Partial) → is_some (option_map head_of partial) ≡ true → is_none partial ≡ false
there_is None known = absurd (false≢true known)
there_is (Some partial) known = refl

there_is_none : (partial : Option Partial) → option_map head_of partial ≡ None → is_none partial ≡ true
there_is_none None none = refl
there_is_none (Some partial) none = absurd cc

-- what a look-up in memory says
pub head_none : (heads : List (Option PartialHead)) (place : ℕ) (head : Option PartialHead) (test : Bool) → head ≡ head_at heads place
    → is_some head ≡ not test → test ≡ true → head_at heads place ≡ None
head_none heads place None test is asked none = sym is
head_none heads place (Some head) test is asked none = absurd (false≢true (sym (asked ∙ ap not none)))

pub head_some : (heads : List (Option PartialHead)) (place : ℕ) (head : Option PartialHead) (test : Bool) → head ≡ head_at heads place
    → is_some head ≡ not test → test ≡ false → is_some (head_at heads place) ≡ true
head_some heads place head test is asked some = ap is_some (sym is) ∙ asked ∙ ap not some

leaves_index : (host : ℕ) (counts : List ℕ) (partial : Option (List ℕ)) → LeavesIndex (host_part host counts partial)
unfolding is_same_file
leaves_index host counts partial = record { one = refl; each = λ byte. refl }

module _ {D N S : Type 0} {d : DiskGhosts D} {n : NamerGhosts N S} where
  pub runs_no_host : (old : StoreParts D N S d n) (name : List ℕ) → None ≡ host_named (names_of old.catalog.hosts) name
      → Runs old (DropPartial name) (Err (Broken NoHost)) old
  runs_no_host old name none = runs_none_named old (DropPartial name) name none (λ office names e. rw e refl)

  pub runs_no_partial : (old : StoreParts D N S d n) (name : List ℕ) (place : ℕ)
      → Some place ≡ host_named (names_of old.catalog.hosts) name → head_at old.partials place ≡ None
      → Runs old (DropPartial name) (Err (Broken NoPartial)) old
  runs_no_partial old name place named none = runs_broken old (DropPartial name) NoPartial (λ office names at.
      let w = named_host office.durable old.catalog name place at.catalog_is named in
      let gone : is_none w.host.partial ≡ true = there_is_none w.host.partial (sym (head_is old office names at place w.host w.is_host) ∙ none) in
      rw (w.judged, gone) refl)

  -- ---- what was planned

  pub drop_changes : (old : StoreParts D N S d n) (place : ℕ) (plan : DropPlan) → IsDropPlanned old place plan → AreChanges plan.changes
  drop_changes old place plan planned =
      subst AreChanges (sym planned.built.changes) (are_host_part place (counts_file place planned.counts) None)

  -- the parts behind the write
  pub record IsDropped (place : ℕ) (plan : DropPlan) (mid new : StoreParts D N S d n) : Type 0 where
    pub counts : new.counts ≡ slice_set mid.counts place plan.counts
    pub partials : new.partials ≡ slice_set mid.partials place None
    pub journal : new.journal ≡ mid.journal
    pub pool : new.pool ≡ mid.pool
    pub catalog : new.catalog ≡ mid.catalog
    pub sessions : new.sessions ≡ mid.sessions
    pub views : new.views ≡ mid.views
    pub halted : new.halted ≡ mid.halted

  module _ (old : StoreParts D N S d n) (name : List ℕ) (place : ℕ) (named : Some place ≡ host_named (names_of old.catalog.hosts) name)
      (known : is_some (head_at old.partials place) ≡ true) where
    -- what the event is to an office that the parts hold
    record IsStep (office : Office) (names : Names) (at : IsRunning old office names) : Type 0 where
      pub host : Host
      pub here : slice_get office.hosts place ≡ Some host
      pub judged : DropEvent.carried name office
          ≡ Ok (record { answer = Done; after = with_hosts office (slice_set office.hosts place (with_partial host None)) })
      pub sound : AreSound (with_hosts office (slice_set office.hosts place (with_partial host None))) names

    step_of : (office : Office) (names : Names) (at : IsRunning old office names) → IsStep office names at
    step_of office names at =
        let w = named_host office.durable old.catalog name place at.catalog_is named in
        let there : is_none w.host.partial ≡ false =
        there_is w.host.partial (ap is_some (sym (head_is old office names at place w.host w.is_host)) ∙ known) in
        let judged : DropEvent.carried name office
        ≡ Ok (record { answer = Done; after = with_hosts office (slice_set office.hosts place (with_partial w.host None)) }) =
        rw (w.judged, there) refl in
        record {
          host = w.host;
          here = w.is_host;
          judged = judged;
          sound = AreSound-carried office names (DropPartial name) Done (with_hosts office (slice_set office.hosts place (with_partial w.host None))) names
              at.sound judged refl;
        }

    -- a fault of the disk in the reading comes where no rule is broken
    step_fault : (office : Office) (names : Names) → IsRunning old office names
        → IsModelStep (Running office names) (DropPartial name) (Err DiskFault) (Running office names)
    step_fault office names at =
        let s = step_of office names at in (
          (subst (λ (j : Judged Carried). MayFault Commits j) (sym s.judged) tt, tt, refl),
          names_refused office names (DropPartial name) DiskFault at.used.distinct,
        )

    step_refused : (office : Office) (names : Names) → IsRunning old office names → (refusal : Refusal)
        → (refusal ≡ DiskFault) ⊎ (refusal ≡ Memory) → IsModelStep (Running office names) (DropPartial name) (Err refusal) (Running office names)
    step_refused office names at refusal (inl e) =
        subst (λ (r : Refusal). IsModelStep (Running office names) (DropPartial name) (Err r) (Running office names)) (sym e)
        (step_fault office names at)
    step_refused office names at refusal (inr e) =
        subst (λ (r : Refusal). IsModelStep (Running office names) (DropPartial name) (Err r) (Running office names)) (sym e)
        (step_memory office names (DropPartial name) at.used.distinct)

    undamaged : (refusal : Refusal) → (refusal ≡ DiskFault) ⊎ (refusal ≡ Memory) → IsUndamaged (Err refusal)
    undamaged refusal (inl e) = subst (λ (r : Refusal). IsUndamaged (Err r)) (sym e) tt
    undamaged refusal (inr e) = subst (λ (r : Refusal). IsUndamaged (Err r)) (sym e) tt

    fault_told : (office : Office) (names : Names) (at : IsRunning old office names) (refusal : Refusal) → IsDropFault old place refusal
        → (refusal ≡ DiskFault) ⊎ (refusal ≡ Memory)
    fault_told office names at refusal kind =
        let s = step_of office names at in kind at.all at.told_is (told_then old office names at place s.host s.here)

    pub runs_drop_refused : (mid : StoreParts D N S d n) (refusal : Refusal) → Quiet old.journal mid.journal
        → mid ≡ record old { journal = mid.journal } → IsDropFault old place refusal
        → (refusal ≡ Halted → ⊥)
        → Counted (d.fault_count old.journal.disk) (d.fault_count mid.journal.disk) (IsErrOf {T = DropPlan} (Err refusal) DiskFault)
        → Runs old (DropPartial name) (Err refusal) mid
    runs_drop_refused mid refusal quiet others kind awake counted =
        runs_reads old mid (DropPartial name) (Err refusal) (reads_behind old mid quiet others)
        (λ office names at. step_refused office names at refusal (fault_told office names at refusal kind))
        (λ office names at. undamaged refusal (fault_told office names at refusal kind)) tt
        (λ e. awake (let same : refusal ≡ Halted = cc in same)) (record {
          later = counted.later;
          rose = λ e. counted.rose (let same : refusal ≡ DiskFault = cc in ap (λ (r : Refusal). Err r) same);
          stays = λ not. counted.stays (λ e. not (let same : refusal ≡ DiskFault = cc in ap (λ (r : Refusal). Err r) same));
        })

    module _ (plan : DropPlan) (planned : IsDropPlanned old place plan) where
      -- an office that the parts hold, and its host
      module _ (office : Office) (names : Names) (at : IsRunning old office names) (host : Host) (here : slice_get office.hosts place ≡ Some host) where
        abbrev new_hosts : List Host
        new_hosts = slice_set office.hosts place (with_partial host None)

        abbrev image : Files
        image = applied (host_part place (counts_file place planned.counts) None) at.all

        contents_are : contents_of image ≡ contents_of at.all
        contents_are = contents_written (host_part place (counts_file place planned.counts) None) at.all
            (are_host_part place (counts_file place planned.counts) None)

        same : (id : PoolId) → IsListed (index_of (slots old)) id → contents_of at.all id ≡ contents_of image id
        same id listed = sym (ap (λ (c : PoolId → List ℕ). c id) contents_are)

        still : (id : PoolId) → IsListed (index_of (slots old)) id
            → IsListed (index_of (slots old)) id × (contents_of at.all id ≡ contents_of image id)
        still id listed = (listed, same id listed)

        abbrev of : StoredHost
        of = (found old office names at place host here).0

        abbrev after : StoredHost
        after = record of { partial = None }

        counted : AreCounts planned.counts after
        counted = counted_then old office names at place host here None planned.counts planned.recounted tt

        stands_host : StandsHost (IsListed (index_of (slots old))) (contents_of image) image place (with_partial host None) after
        stands_host =
            host_parked (IsListed (index_of (slots old))) (IsListed (index_of (slots old))) (contents_of at.all) (contents_of image) still at.all place host
            of (found old office names at place host here).2 [] planned.counts None none_of_index planned.built.fits None None refl counted

        none_else : (k : ℕ) → is_some (backup_index host.backups k) ≡ false → at.all (F.Table place k) ≡ None
        none_else k e = at.stands.nothing_else (F.Table place k) (ap (λ (h : Option Host). has_backup h k) here ∙ e)

        beyond : (k : ℕ) → is_some (backup_index (with_partial host None).backups k) ≡ false → image (F.Table place k) ≡ None
        beyond k e =
            none_beyond (IsListed (index_of (slots old))) (IsListed (index_of (slots old))) (contents_of at.all) (contents_of image) still at.all place
            host of (found old office names at place host here).2 [] planned.counts None none_of_index planned.built.fits None None refl counted
            none_else k e

        stays : (file : FileId) → is_metadata file ≡ true → is_of_host place file ≡ false → is_of_index file ≡ false → image file ≡ at.all file
        stays file metadata out none = at_other [] place (counts_file place planned.counts) None at.all none_of_index file out none

        stands : AreSound (with_hosts office new_hosts) names
            → Stands n.digest_of (index_of (slots old)) (slice_set at.shown place after) image (with_hosts office new_hosts).durable
        stands sound =
            host_changed n.digest_of (index_of (slots old)) (index_of (slots old)) at.shown at.all image office.durable place host (with_partial host None)
            after office.pool office.ids here refl stays still beyond stands_host
            (tells_kept at.all image (at_pool_index [] place (counts_file place planned.counts) None at.all none_of_index)
            (at_pool_bucket [] place (counts_file place planned.counts) None at.all none_of_index) (index_of (slots old)) at.stands.index_told)
            (one_kept (index_of (slots old)) (contents_of at.all) (contents_of image) same at.stands.one)
            (pool_kept (index_of (slots old)) (contents_of at.all) (contents_of image) same n.digest_of office.pool at.stands.pool)
            (ids_kept (index_of (slots old)) (contents_of at.all) (contents_of image) same office.ids at.stands.ids)
            sound.office.kept at.stands

      image_is : (all : Files) → applied (host_part place (counts_file place planned.counts) None) all ≡ applied plan.changes all
      image_is all = ap (λ (changes : List Change). applied changes all) (sym planned.built.changes)

      stands_after : (office : Office) (names : Names) (at : IsRunning old office names) (s : IsStep office names at)
          → Stands n.digest_of (index_of (slots old)) (slice_set at.shown place (after office names at s.host s.here)) (applied plan.changes at.all)
          (with_hosts office (slice_set office.hosts place (with_partial s.host None))).durable
      stands_after office names at s =
          subst (λ (i : Files). Stands n.digest_of (index_of (slots old)) (slice_set at.shown place (after office names at s.host s.here)) i
          (with_hosts office (slice_set office.hosts place (with_partial s.host None))).durable) (image_is at.all)
          (stands office names at s.host s.here s.sound)

      second : WriteNoFirst plan.changes
      second = subst WriteNoFirst (sym planned.built.changes) (second_part place (counts_file place planned.counts) None)

      leads_to : (office : Office) (names : Names) (at : IsRunning old office names) → IsStep office names at
          → LeadsTo n.digest_of (DropPartial name) plan.changes office names at.all
      leads_to office names at s = record {
        carried = record { answer = Done; after = with_hosts office (slice_set office.hosts place (with_partial s.host None)) };
        judged = s.judged;
        stands = record { index = _; shown = _; stands = stands_after office names at s };
        second = second;
      }

      runs_write_failed : (new : StoreParts D N S d n) (refusal : Refusal) → Writes old plan.changes (Err refusal) new
          → Runs old (DropPartial name) (Err refusal) new
      runs_write_failed new refusal w =
          runs_write_refused old new (DropPartial name) plan.changes refusal w (λ office names at. leads_to office names at (step_of office names at))
          (λ office names at. inl refl)

      module _ (mid new : StoreParts D N S d n) (done : Unit {0}) (w : Writes old plan.changes (Ok done) mid) (f : IsDropped place plan mid new) where
        counts_after : new.counts ≡ slice_set old.counts place planned.counts
        counts_after = f.counts ∙ (λ i. slice_set (w.counts_same i) place (planned.built.counts_are i))

        partials_after : (office : Office) (names : Names) (at : IsRunning old office names) (host : Host)
            → new.partials ≡ heads_of (slice_set office.hosts place (with_partial host None))
        partials_after office names at host =
            f.partials ∙ (λ i. slice_set ((w.partials_same ∙ at.parked) i) place None)
            ∙ sym (heads-set office.hosts place (with_partial host None))

        catalog_after : (office : Office) (names : Names) (at : IsRunning old office names) (host : Host) → slice_get office.hosts place ≡ Some host
            → new.catalog ≡ known_of_office (with_hosts office (slice_set office.hosts place (with_partial host None))).durable
        catalog_after office names at host here =
            f.catalog ∙ w.catalog_same ∙ at.catalog_is ∙ (λ i. known_of office.epoch (sym (catalog_same office.hosts place host None here) i))

        running_after : (office : Office) (names : Names) (at : IsRunning old office names) (s : IsStep office names at)
            → IsRunning new (with_hosts office (slice_set office.hosts place (with_partial s.host None))) names
        running_after office names at s =
            running_hosts old mid new office (slice_set office.hosts place (with_partial s.host None)) names at plan.changes done
            (slice_set at.shown place (after office names at s.host s.here)) w (drop_changes old place plan planned)
            (subst LeavesIndex (sym planned.built.changes) (leaves_index place (counts_file place planned.counts) None))
            (stands_after office names at s)
            (view_same office.hosts at.shown place s.host (found old office names at place s.host s.here).0 None None s.here
            (found old office names at place s.host s.here).1 old.views.kept at.view)
            (subst (λ (c : List Items). AreCountsOf c (slice_set at.shown place (after office names at s.host s.here))) (sym counts_after)
            (pairs_set AreCounts old.counts at.shown at.counted place planned.counts (after office names at s.host s.here)
            (counted office names at s.host s.here)))
            (partials_after office names at s.host) s.sound (second_applied names.old_hosts at.all plan.changes second at.second) f.journal f.pool
            (catalog_after office names at s.host s.here) f.sessions f.views f.halted

        holds_dropped : (office : Office) (names : Names) (at : IsRunning old office names)
            → Holds (DropPartial name) Done plan.changes office names at.all new
        unfolding leads_to
        holds_dropped office names at =
            let s = step_of office names at in
            record { leads = leads_to office names at s; answer_is = refl; running = running_after office names at s }

        runs_finished : Runs old (DropPartial name) (Ok Done) new
        runs_finished =
            runs_written old mid new (DropPartial name) Done plan.changes done w f.journal f.halted holds_dropped (λ office names. refl) refl

  -- ---- behind the plan

  drop_read : (old mid : StoreParts D N S d n) → Quiet old.journal mid.journal → mid ≡ record old { journal = mid.journal }
      → (place : ℕ) (plan : DropPlan) → IsDropPlanned old place plan → IsDropPlanned mid place plan
  drop_read old mid quiet others place plan p =
      subst (λ (parts : StoreParts D N S d n). IsDropPlanned parts place plan) (sym others) (record {
        counts = p.counts;
        recounted = subst (λ (t : Option Files). IsRecounted t (head_at old.partials place) place old.counts place None p.counts)
            (sym quiet.told_same) p.recounted;
        within = p.within;
        built = p.built;
      })

  module _ (old start : StoreParts D N S d n) (name : List ℕ) (place : ℕ) (plan : DropPlan)
      (named : Some place ≡ host_named (names_of old.catalog.hosts) name) (known : is_some (head_at old.partials place) ≡ true)
      (quiet : Quiet old.journal start.journal) (others : start ≡ record old { journal = start.journal })
      (planned : IsDropPlanned old place plan) where
    named_start : Some place ≡ host_named (names_of start.catalog.hosts) name
    named_start = named ∙ ap (λ (p : StoreParts D N S d n). host_named (names_of p.catalog.hosts) name) (sym others)

    known_start : is_some (head_at start.partials place) ≡ true
    known_start = ap (λ (p : StoreParts D N S d n). is_some (head_at p.partials place)) others ∙ known

    planned_start : IsDropPlanned start place plan
    planned_start = drop_read old start quiet others place plan planned

    pub drop_planned : AreChanges plan.changes
    drop_planned = drop_changes start place plan planned_start

    pub counted_planned : (counts : List Items) → counts ≡ start.counts → place < length counts
    counted_planned counts same = subst (λ (c : List Items). place < length c) (sym same) planned_start.within

    module _ (same : d.fault_count start.journal.disk ≡ d.fault_count old.journal.disk) where
      pub runs_not_written : (new : StoreParts D N S d n) (refusal : Refusal) → Writes start plan.changes (Err refusal) new
          → Runs old (DropPartial name) (Err refusal) new
      runs_not_written new refusal w =
          runs_behind old start new (DropPartial name) (Err refusal) (reads_behind old start quiet others) same
          (runs_write_failed start name place named_start known_start plan planned_start new refusal w)

      pub runs_dropped : (mid new : StoreParts D N S d n) (done : Unit {0}) → Writes start plan.changes (Ok done) mid
          → IsDropped place plan mid new → Runs old (DropPartial name) (Ok Done) new
      runs_dropped mid new done w f =
          runs_behind old start new (DropPartial name) (Ok Done) (reads_behind old start quiet others) same
          (runs_finished start name place named_start known_start plan planned_start mid new done w f)
