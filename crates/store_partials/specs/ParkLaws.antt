-- What a park that was planned and written leaves.
--     IsFinished      the parts behind accept_park
--     runs_no_session, runs_not_planned      refusals before anything is written
--     changes_planned, counted_planned, held_planned      what the write and what is behind it call for
--     runs_not_written, runs_parked      the event's answer after the write
use Rattle.std.specs.Prelude.{◌≡◌, ◌<◌, ℕ, ◌+◌, false, List, length, Option, Some, None, Ok, Err, IsErrOf, slice_get, slice_set}
use Rattle.std.proofs.Common.{refl, sym, ap, ◌∙◌, subst, inr, arith}
use Rattle.std.proofs.lemmas.Option.{slice_get_within}
use Rattle.fault_counts.specs.Counts.{Counted}
use Rattle.disk_trait.specs.declared.ids.PoolId.{PoolId}
use Rattle.disk_trait.specs.declared.disk.Disk.{Ghosts as DiskGhosts}
use Rattle.disk_trait.specs.Files.{Files}
use Rattle.pool_name.specs.declared.namer.Namer.{Ghosts as NamerGhosts}
use Rattle.intent_journal.specs.Changes.{AreChanges}
use Rattle.journal_view.specs.View.{Quiet}
use Rattle.backup_views.specs.declared.kept.Views.{Views}
use Rattle.ref_counts.specs.Numbers.{Items}
use Rattle.pool_changes.specs.declared.slot.Slot.{Slot}
use Rattle.pool_changes.specs.Slots.{Slots}
use Rattle.pool_changes.specs.Kept.{slots_of, IsSame}
use Rattle.pool_changes.specs.Indexed.{after as relisted_after, relisted_by}
use Rattle.host_partials.specs.declared.held.PartialHead.{PartialHead}
use Rattle.host_partials.specs.Held.{head_at}
use Rattle.open_sessions.specs.declared.sessions.OpenDump.{OpenDump}
use Rattle.open_sessions.specs.declared.sessions.Sessions.{Sessions}
use Rattle.open_sessions.specs.Opened.{AreSessions, claims_in}
use Rattle.office_catalog.specs.Known.{Known, known_of}
use Rattle.receipts.specs.declared.session.SessionName.{SessionName}
use Rattle.office_model.specs.declared.answer.Answer.TheVariants.{Done}
use Rattle.office_model.specs.declared.event.Event.TheVariants.{Park}
use Rattle.office_model.specs.declared.refusal.BrokenRule.TheVariants.{NoSession}
use Rattle.office_model.specs.declared.refusal.Refusal.{Refusal}
use Rattle.office_model.specs.declared.refusal.Refusal.TheVariants.{Broken, Halted, DiskFault}
use Rattle.office_model.specs.Office.{Office, Names, IsSound, dump_index}
use Rattle.office_model.specs.Meaning.{Carried}
use Rattle.office_model.specs.UsedNames.{AreSound}
use Rattle.office_model.specs.Parts.{dump_at}
use Rattle.office_model.specs.laws.Judging.{at_found}
use Rattle.office_model.specs.laws.StateLaws.{AreSound-carried}
use Rattle.office_model.specs.laws.StepLaws.{lawful}
use Rattle.office_model.specs.events.Park as ParkEvent
use Rattle.office_files.specs.Pooled.{contents_of}
use Rattle.office_changes.specs.BoundLaws.{length-map_values}
use Rattle.store_parts.specs.KnownOffice.{known_of_office, hosts_counted}
use Rattle.store_parts.specs.declared.parts.StoreParts.{StoreParts}
use Rattle.store_parts.specs.Held.{given, AreCountsOf, head_of, heads_of, IsKeptView}
use Rattle.store_parts.specs.States.{slots, IsRunning, staging_of}
use Rattle.store_parts.specs.Runs.{IsCarried, Runs}
use Rattle.store_parts.specs.HeadLaws.{heads-set, length-heads}
use Rattle.store_parts.specs.Writes.{Writes}
use Rattle.store_parts.specs.RunLaws.{reads_behind, runs_behind}
use Rattle.store_parts.specs.RefusedLaws.{runs_no_dump, runs_not_planned as runs_plan_refused}
use Rattle.store_parts.specs.WriteLaws.{LeadsTo, Holds, runs_write_refused, runs_written}
use Rattle.store_parts.specs.FoundLaws.{dump_place}
use Rattle.store_commits.specs.Ids.{ids_in}
use Rattle.store_commits.specs.IdsLaws.{given_ids, all_given}
use Rattle.store_commits.specs.AcceptLaws.{Loses, with_added, IsAccepted}
use Rattle.store_commits.specs.RunningLaws.{running_committed}
use Rattle.store_commits.specs.Committing.{named_by, IsMeant, IsStoredAfter}
use Rattle.store_commits.specs.CommittingLaws.{meant}
use Rattle.store_commits.specs.EventLaws.{place_is, there_within}
use Rattle.store_partials.specs.declared.plan.ParkPlan.{ParkPlan}
use Rattle.store_partials.specs.Parked.{IsRecounted, IsTold, IsPlanned, IsReady, IsPlanFault}
use Rattle.store_partials.specs.RowLaws.{whole_unmarked}
use Rattle.store_partials.specs.MemoryLaws.{catalog_same}
use Rattle.store_partials.specs.HostLaws.{told_then}
use Rattle.store_partials.specs.StoredLaws.{office_parked, planned_changes, second_planned, stored_parked, ids_parked}

-- no claim is let go
nothing_lost : (id : PoolId) (slot : Option Slot) → Loses 0 id slot slot
nothing_lost id slot = record {
  claims = omega arith;
  was_given = λ e. e;
  size = λ e. refl;
  given = λ g some. g;
  live = refl;
  used = refl;
}

accepted_same : (ids : List PoolId) (old new : Slots) → IsSame (with_added ids old) new → IsAccepted ids (λ id. 0) old new
accepted_same ids old new same = record {
  go = λ id. subst (λ (slot : Option Slot). Loses 0 id (with_added ids old id) slot) (sym (same id)) (nothing_lost id (with_added ids old id));
}

module _ {D N S : Type 0} {d : DiskGhosts D} {n : NamerGhosts N S} where
  -- the parts behind accept_park
  pub record IsFinished (plan : ParkPlan) (mid new : StoreParts D N S d n) : Type 0 where
    pub pool : IsSame (relisted_after plan.index (slots mid)) (slots new)
    pub form : new.pool.in_one_file ≡ false
    pub counts : new.counts ≡ slice_set mid.counts plan.host plan.counts
    pub partials : new.partials ≡ slice_set mid.partials plan.host (Some plan.head)
    pub journal : new.journal ≡ mid.journal
    pub catalog : new.catalog ≡ mid.catalog
    pub sessions : new.sessions ≡ mid.sessions
    pub views : new.views ≡ mid.views
    pub halted : new.halted ≡ mid.halted

  -- what a plan reads is there, of parts at work
  park_ready : (parts : StoreParts D N S d n) (place : ℕ) (session : OpenDump) (office : Office) (names : Names) (at : IsRunning parts office names)
      → slice_get parts.sessions.dumps.items place ≡ Some session → IsReady parts session at.all
  park_ready parts place session office names at e =
      let m = meant parts place session office names at e in
      let here : m.dump.host < length office.hosts = slice_get_within office.hosts m.dump.host m.host m.here in
      record {
        here = subst (λ (h : ℕ). h < length parts.catalog.hosts) (sym m.is.host)
            (subst (λ (k : ℕ). m.dump.host < k) (sym (ap (λ (k : Known). length k.hosts) at.catalog_is ∙ hosts_counted office.hosts)) here);
        held = subst (λ (h : ℕ). h < length parts.partials) (sym m.is.host)
            (subst (λ (k : ℕ). m.dump.host < k)
            (sym (ap (λ (heads : List (Option PartialHead)). length heads) at.parked ∙ length-heads office.hosts)) here);
        no_mark = whole_unmarked session.tree m.is.tree_rows.whole;
        tells = subst (λ (h : ℕ). IsTold at.all (head_at parts.partials h) h parts.counts h) (sym m.is.host)
            (told_then parts office names at m.dump.host m.host m.here);
      }

  module _ (old : StoreParts D N S d n) (name : SessionName) (place : ℕ) (session : OpenDump) (plan : ParkPlan)
      (found : Some place ≡ dump_place old name) (there : slice_get old.sessions.dumps.items place ≡ Some session)
      (planned : IsPlanned old session plan) where
    -- the office after it
    abbrev made : (office : Office) (names : Names) (at : IsRunning old office names) → IsMeant old place session office names at → Office
    made office names at m = named_by session.tree (contents_of at.all) (office_parked office m.dump m.host)

    -- what the event is to an office that the parts hold
    record IsStep (office : Office) (names : Names) (at : IsRunning old office names) : Type 0 where
      pub m : IsMeant old place session office names at
      pub carried : IsCarried (Park name) office names (record { answer = Done; after = made office names at m })
      pub sound : AreSound (made office names at m) names
      pub stored : IsStoredAfter old at.all (ids_in session.tree) plan.changes (slice_set old.counts m.dump.host planned.counts)
          (made office names at m)

    step_of : (office : Office) (names : Names) (at : IsRunning old office names) → IsStep office names at
    step_of office names at =
        let m : IsMeant old place session office names at = meant old place session office names at there in
        let at_place = place_is old name (Some place) found office names at in
        let is_at : dump_at office.dumps name ≡ Ok (record { index = place; value = m.dump }) =
        at_found NoSession office.dumps (dump_index office.dumps name) place m.dump at_place m.there in
        let c : Carried = record { answer = Done; after = office_parked office m.dump m.host } in
        let judged : ParkEvent.carried name office ≡ Ok c = rw (is_at, m.here) refl in
        let sound : IsSound (office_parked office m.dump m.host) = (lawful (Park name) office names c at.sound judged).sound in
        let carried : IsCarried (Park name) office names (record { answer = Done; after = made office names at m }) =
        (judged, ids_parked old place session plan office names at planned m sound) in
        record {
          m = m;
          carried = carried;
          sound = AreSound-carried office names (Park name) Done (made office names at m) names at.sound carried refl;
          stored = stored_parked old place session plan office names at planned m sound;
        }

    leads_to : (office : Office) (names : Names) (at : IsRunning old office names) → IsStep office names at
        → LeadsTo n.digest_of (Park name) plan.changes office names at.all
    leads_to office names at s = record {
      carried = record { answer = Done; after = made office names at s.m };
      judged = s.carried;
      stands = record { index = _; shown = s.stored.shown; stands = s.stored.stands };
      second = second_planned old session plan planned;
    }

    leads_parked : (office : Office) (names : Names) (at : IsRunning old office names)
        → LeadsTo n.digest_of (Park name) plan.changes office names at.all
    leads_parked office names at = leads_to office names at (step_of office names at)

    runs_write_failed : (new : StoreParts D N S d n) (refusal : Refusal) → Writes old plan.changes (Err refusal) new
        → Runs old (Park name) (Err refusal) new
    runs_write_failed new refusal w =
        runs_write_refused old new (Park name) plan.changes refusal w leads_parked (λ office names at. inr refl)

    -- what is known of the partial then
    same_head : (office : Office) (names : Names) (at : IsRunning old office names) (m : IsMeant old place session office names at)
        → plan.head ≡ head_of (ParkEvent.partial_of m.dump)
    same_head office names at m =
        planned.built.head_is ∙ (λ i. record { entries = size i; kind = m.is.kind i; start = m.is.start i })
      where
        size : length session.tree ≡ length m.dump.tree
        size = sym (ap length m.is.tree ∙ length-map_values _ session.tree)

    module _ (mid new : StoreParts D N S d n) (done : Unit {0}) (w : Writes old plan.changes (Ok done) mid) (f : IsFinished plan mid new) where
      relisted_is : (office : Office) (names : Names) → IsRunning old office names
          → relisted_after plan.index (slots mid) ≡ with_added (ids_in session.tree) (slots old)
      relisted_is office names at =
          let o = planned.built.of_ids in
          let m = meant old place session office names at there in
          let added : plan.index.added.items ≡ ids_in session.tree =
          o.added_are ∙ all_given (slots old) session.tree (given_ids (slots old) (contents_of at.all) session.tree m.is.tree_rows.told) in
          λ i. relisted_by (added i) (o.marked_are i) (o.unmarked_are i) (o.removed_are i) (slots_of (w.pool_same i).names)

      accepted : (office : Office) (names : Names) → IsRunning old office names
          → IsAccepted (ids_in session.tree) (λ id. 0) (slots old) (slots new)
      accepted office names at =
          accepted_same (ids_in session.tree) (slots old) (slots new)
          (subst (λ (s : Slots). IsSame s (slots new)) (relisted_is office names at) f.pool)

      sessions_are : new.sessions ≡ old.sessions
      sessions_are = f.sessions ∙ w.sessions_same

      claims_are : (id : PoolId) → claims_in new.sessions id + 0 ≡ claims_in old.sessions id
      claims_are id = let same = ap (λ (s : Sessions S). claims_in s id) sessions_are in omega (arith, same)

      host_is : (office : Office) (names : Names) (at : IsRunning old office names) (m : IsMeant old place session office names at)
          → plan.host ≡ m.dump.host
      host_is office names at m = planned.built.host_is ∙ m.is.host

      counts_after : (office : Office) (names : Names) (at : IsRunning old office names) (m : IsMeant old place session office names at)
          → new.counts ≡ slice_set old.counts m.dump.host planned.counts
      counts_after office names at m =
          f.counts ∙ (λ i. slice_set (w.counts_same i) (host_is office names at m i) (planned.built.counts_are i))

      partials_after : (office : Office) (names : Names) (at : IsRunning old office names) (m : IsMeant old place session office names at)
          → new.partials ≡ heads_of (office_parked office m.dump m.host).hosts
      partials_after office names at m =
          f.partials
          ∙ (λ i. slice_set ((w.partials_same ∙ at.parked) i) (host_is office names at m i) (Some (same_head office names at m i)))
          ∙ sym (heads-set office.hosts m.dump.host (ParkEvent.with_partial m.host (Some (ParkEvent.partial_of m.dump))))

      catalog_after : (office : Office) (names : Names) (at : IsRunning old office names) (m : IsMeant old place session office names at)
          → new.catalog ≡ known_of_office (office_parked office m.dump m.host).durable
      catalog_after office names at m =
          f.catalog ∙ w.catalog_same ∙ at.catalog_is
          ∙ (λ i. known_of office.epoch (sym (catalog_same office.hosts m.dump.host m.host (Some (ParkEvent.partial_of m.dump)) m.here) i))

      running_after : (office : Office) (names : Names) (at : IsRunning old office names) (s : IsStep office names at)
          → IsRunning new (made office names at s.m) names
      running_after office names at s =
          running_committed old mid new office (made office names at s.m) names at plan.changes done w
          (planned_changes old session plan planned) (ids_in session.tree) (λ id. 0) s.stored.shown
          (accepted office names at) f.form claims_are s.stored.stands s.stored.tells
          (subst (λ (o : Sessions S). AreSessions n.holds (given (slots old)) (contents_of at.all) (staging_of at.all names) office.volatile o)
          (sym sessions_are) at.sessions)
          (subst (λ (v : Views). IsKeptView v.kept (made office names at s.m).hosts s.stored.shown)
          (sym (f.views ∙ w.views_same)) s.stored.view)
          (subst (λ (c : List Items). AreCountsOf c s.stored.shown) (sym (counts_after office names at s.m)) s.stored.counted)
          (partials_after office names at s.m) s.sound (second_planned old session plan planned) f.journal (catalog_after office names at s.m) f.halted

      holds_parked : (office : Office) (names : Names) (at : IsRunning old office names)
          → Holds (Park name) Done plan.changes office names at.all new
      unfolding leads_to
      holds_parked office names at =
          let s = step_of office names at in
          record { leads = leads_to office names at s; answer_is = refl; running = running_after office names at s }

      runs_finished : Runs old (Park name) (Ok Done) new
      runs_finished = runs_written old mid new (Park name) Done plan.changes done w f.journal f.halted holds_parked (λ office names. refl) refl

  -- ---- refusals

  pub runs_no_session : (old : StoreParts D N S d n) (name : SessionName) → None ≡ dump_place old name
      → Runs old (Park name) (Err (Broken NoSession)) old
  runs_no_session old name e = runs_no_dump old (Park name) name e (λ office names none. rw none refl)

  -- the plan was refused
  pub runs_not_planned : (old mid : StoreParts D N S d n) (name : SessionName) (place : ℕ) (refusal : Refusal)
      → place < length old.sessions.dumps.items → Quiet old.journal mid.journal → mid ≡ record old { journal = mid.journal }
      → ((session : OpenDump) → slice_get old.sessions.dumps.items place ≡ Some session → IsPlanFault old session refusal)
      → (refusal ≡ Halted → ⊥)
      → Counted (d.fault_count old.journal.disk) (d.fault_count mid.journal.disk) (IsErrOf {T = ParkPlan} (Err refusal) DiskFault)
      → Runs old (Park name) (Err refusal) mid
  runs_not_planned old mid name place refusal within quiet others kind awake counted =
      let w = there_within old.sessions.dumps.items place within in
      runs_plan_refused old mid (Park name) refusal (reads_behind old mid quiet others) (λ office names at. refl)
      (λ office names at. kind w.0 w.1 at.all at.told_is (park_ready old place w.0 office names at w.1)) awake counted

  -- ---- behind the plan

  planned_read : (old mid : StoreParts D N S d n) → Quiet old.journal mid.journal → mid ≡ record old { journal = mid.journal }
      → (session : OpenDump) (plan : ParkPlan) → IsPlanned old session plan → IsPlanned mid session plan
  planned_read old mid quiet others session plan p =
      subst (λ (parts : StoreParts D N S d n). IsPlanned parts session plan) (sym others) (record {
        counts = p.counts;
        recounted = subst (λ (t : Option Files). IsRecounted t (head_at old.partials session.host) session.host old.counts session.host
            (Some session.tree) p.counts) (sym quiet.told_same) p.recounted;
        within = p.within;
        held = p.held;
        fits = p.fits;
        built = record {
          host_is = p.built.host_is;
          head_is = p.built.head_is;
          counts_are = p.built.counts_are;
          fits = p.built.fits;
          pooled = p.built.pooled;
          of_ids = p.built.of_ids;
          leads = p.built.leads;
          changes = p.built.changes;
        };
      })

  module _ (old start : StoreParts D N S d n) (name : SessionName) (place : ℕ) (plan : ParkPlan)
      (found : Some place ≡ dump_place old name) (within : place < length old.sessions.dumps.items)
      (quiet : Quiet old.journal start.journal) (others : start ≡ record old { journal = start.journal })
      (planned : (session : OpenDump) → slice_get old.sessions.dumps.items place ≡ Some session → IsPlanned old session plan) where
    abbrev dump : OpenDump
    dump = (there_within old.sessions.dumps.items place within).0

    items : start.sessions.dumps.items ≡ old.sessions.dumps.items
    items = ap (λ (p : StoreParts D N S d n). p.sessions.dumps.items) others

    found_start : Some place ≡ dump_place start name
    found_start = found ∙ ap (λ (p : StoreParts D N S d n). dump_place p name) (sym others)

    there_start : slice_get start.sessions.dumps.items place ≡ Some dump
    there_start = ap (λ (s : List OpenDump). slice_get s place) items ∙ (there_within old.sessions.dumps.items place within).1

    planned_start : IsPlanned start dump plan
    planned_start = planned_read old start quiet others dump plan (planned dump (there_within old.sessions.dumps.items place within).1)

    pub changes_planned : AreChanges plan.changes
    changes_planned = planned_changes start dump plan planned_start

    pub counted_planned : (counts : List Items) → counts ≡ start.counts → plan.host < length counts
    counted_planned counts same =
        subst (λ (c : List Items). plan.host < length c) (sym same)
        (subst (λ (h : ℕ). h < length start.counts) (sym planned_start.built.host_is) planned_start.within)

    pub held_planned : (heads : List (Option PartialHead)) → heads ≡ start.partials → plan.host < length heads
    held_planned heads same =
        subst (λ (c : List (Option PartialHead)). plan.host < length c) (sym same)
        (subst (λ (h : ℕ). h < length start.partials) (sym planned_start.built.host_is) planned_start.held)

    module _ (same : d.fault_count start.journal.disk ≡ d.fault_count old.journal.disk) where
      pub runs_not_written : (new : StoreParts D N S d n) (refusal : Refusal) → Writes start plan.changes (Err refusal) new
          → Runs old (Park name) (Err refusal) new
      runs_not_written new refusal w =
          runs_behind old start new (Park name) (Err refusal) (reads_behind old start quiet others) same
          (runs_write_failed start name place dump plan found_start there_start planned_start new refusal w)

      pub runs_parked : (mid new : StoreParts D N S d n) (done : Unit {0}) → Writes start plan.changes (Ok done) mid
          → IsFinished plan mid new → Runs old (Park name) (Ok Done) new
      runs_parked mid new done w f =
          runs_behind old start new (Park name) (Ok Done) (reads_behind old start quiet others) same
          (runs_finished start name place dump plan found_start there_start planned_start mid new done w f)
