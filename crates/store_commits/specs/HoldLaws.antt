-- What a commit that was planned and written leaves.
--     leads_committed      its changes lead to files that stand for the office after it
--     IsFinished      the parts behind accept_commit
--     holds_committed      they hold the office after it
--     runs_not_written, runs_committed      the event's answer after the write
use Rattle.std.specs.Prelude.{◌≡◌, ◌≤◌, ◌<◌, ℕ, false, not, List, length, Option, Some, None, Ok, Err, is_some, slice_get, slice_set, if◌then◌else◌}
use Rattle.std.specs.Option.{option_map}
use Rattle.std.proofs.Common.{refl, sym, ap, ◌∙◌, subst, inr, arith}
use Rattle.disk_trait.specs.declared.ids.PoolId.{PoolId}
use Rattle.disk_trait.specs.declared.disk.Disk.{Ghosts as DiskGhosts}
use Rattle.pool_name.specs.declared.namer.Namer.{Ghosts as NamerGhosts}
use Rattle.intent_journal.specs.Changes.{AreChanges}
use Rattle.journal_view.specs.View.{Quiet}
use Rattle.backup_rules.specs.declared.lines.Line.{Line}
use Rattle.backup_index.specs.Index.{Index}
use Rattle.backup_views.specs.declared.kept.Views.{Views}
use Rattle.ref_counts.specs.Numbers.{Items}
use Rattle.pool_changes.specs.Slots.{claims_of}
use Rattle.pool_changes.specs.Kept.{slots_of}
use Rattle.pool_changes.specs.Indexed.{after as relisted_after, relisted_by}
use Rattle.open_sessions.specs.declared.sessions.OpenDump.{OpenDump}
use Rattle.open_sessions.specs.declared.sessions.Sessions.{Sessions}
use Rattle.open_sessions.specs.Opened.{AreSessions, claims_of_dump}
use Rattle.open_sessions.specs.SessionLaws.{claims_in_dumps-remove}
use Rattle.office_catalog.specs.Known.{Known, with_change, with_line}
use Rattle.office_catalog.specs.Changed.{IsFor, after as known_after}
use Rattle.receipts.specs.declared.session.SessionName.{SessionName}
use Rattle.receipts.specs.declared.receipt.Receipt.{Receipt}
use Rattle.office_model.specs.declared.answer.Answer.{Answer}
use Rattle.office_model.specs.declared.answer.Answer.TheVariants.{Committed}
use Rattle.office_model.specs.Repeats.{again, receipt_named}
use Rattle.office_model.specs.declared.event.Event.{Event}
use Rattle.office_model.specs.declared.refusal.BrokenRule.TheVariants.{NoSession}
use Rattle.office_model.specs.declared.refusal.Refusal.{Refusal}
use Rattle.office_model.specs.Office.{Office, Names, IsSound, dump_index}
use Rattle.office_model.specs.Meaning.{Meaning, Carried}
use Rattle.office_model.specs.Step.{meaning_of}
use Rattle.office_model.specs.UsedNames.{AreSound}
use Rattle.office_model.specs.Parts.{dump_at}
use Rattle.office_model.specs.laws.Judging.{at_found}
use Rattle.office_model.specs.laws.Lookups.{named}
use Rattle.office_model.specs.laws.StateLaws.{AreSound-carried}
use Rattle.office_model.specs.laws.StepLaws.{lawful}
use Rattle.office_model.specs.events.Commit as CommitEvent
use Rattle.office_files.specs.Hosts.{index_of_host}
use Rattle.office_files.specs.Pooled.{contents_of}
use Rattle.store_parts.specs.KnownOffice.{known_of_office}
use Rattle.store_parts.specs.declared.parts.StoreParts.{StoreParts}
use Rattle.store_parts.specs.Held.{given, AreCountsOf, heads_of, IsKeptView}
use Rattle.store_parts.specs.States.{slots, IsRunning, staging_of}
use Rattle.store_parts.specs.Runs.{IsCarried, Runs}
use Rattle.store_parts.specs.Writes.{Writes}
use Rattle.store_parts.specs.HeadLaws.{heads-set}
use Rattle.store_parts.specs.RunLaws.{reads_behind, runs_behind}
use Rattle.store_parts.specs.StepLaws.{carried_pooling}
use Rattle.store_parts.specs.WriteLaws.{LeadsTo, Holds, runs_write_refused, runs_written}
use Rattle.store_dumps.specs.Claims.{LetsGo}
use Rattle.store_commits.specs.declared.plan.Plan.{Plan}
use Rattle.store_commits.specs.Ids.{ids_in}
use Rattle.store_commits.specs.IdsLaws.{given_ids, all_given}
use Rattle.store_commits.specs.Former.{dropped_of}
use Rattle.store_commits.specs.Judged.{receipt_by}
use Rattle.store_commits.specs.AcceptLaws.{with_added, claims_added}
use Rattle.store_commits.specs.Planned.{IsPlanned}
use Rattle.store_commits.specs.CommittedLaws.{number_is, planned_changes}
use Rattle.store_commits.specs.LayoutLaws.{second_planned}
use Rattle.store_commits.specs.RunningLaws.{running_committed}
use Rattle.store_commits.specs.Ending.{EndsDump}
use Rattle.store_commits.specs.EndingLaws.{AreSessions-dump_ended, claims_in-dump_ended}
use Rattle.store_commits.specs.Committing.{office_ended, office_after, named_by, EndsAs, IsMeant, IsStoredAfter}
use Rattle.store_commits.specs.CommittingLaws.{meant}
use Rattle.store_commits.specs.AfterLaws.{stored_after, ids_committed}
use Rattle.store_commits.specs.KnownLaws.{index_found, catalog_committed}
use Rattle.store_commits.specs.EventLaws.{named_still, place_is, there_within, planned_read}

-- the commit of an open dump repeats none
pub open_repeats_none : (name : SessionName) (office : Office) (place : ℕ) → dump_index office.dumps name ≡ Some place
    → CommitEvent.repeated name office.hosts office.dumps ≡ None
open_repeats_none name office place at =
    ap (λ (found : Option ℕ). if is_some found then None else option_map (λ (receipt : Receipt). Committed receipt.number) (receipt_named office.hosts name)) at

module _ {D N S : Type 0} {d : DiskGhosts D} {n : NamerGhosts N S} where
  -- the parts behind accept_commit
  pub record IsFinished (place : ℕ) (plan : Plan) (mid new : StoreParts D N S d n) : Type 0 where
    pub pool : (dump : OpenDump) → slice_get mid.sessions.dumps.items place ≡ Some dump → plan.rows ≡ dump.tree
        → ((id : PoolId) → claims_of_dump dump id ≤ claims_of (relisted_after plan.index (slots mid) id))
        → LetsGo (claims_of_dump dump) (relisted_after plan.index (slots mid)) (slots new)
    pub form : new.pool.in_one_file ≡ false
    pub catalog : new.catalog ≡ known_after plan.catalog mid.catalog
    pub counts : new.counts ≡ slice_set mid.counts plan.host plan.counts
    pub partials : new.partials ≡ slice_set mid.partials plan.host None
    pub ends : (dump : OpenDump) → slice_get mid.sessions.dumps.items place ≡ Some dump → EndsDump mid.sessions place dump new.sessions
    pub journal : new.journal ≡ mid.journal
    pub views : new.views ≡ mid.views
    pub halted : new.halted ≡ mid.halted

  module _ (old : StoreParts D N S d n) (event : Event) (name : SessionName) (place : ℕ) (line : Line) (session : OpenDump) (plan : Plan)
      (ends : EndsAs old event name place line) (there : slice_get old.sessions.dumps.items place ≡ Some session)
      (planned : IsPlanned old session line plan) where
    -- the host's index, which the catalog has
    index_is : (office : Office) (names : Names) (at : IsRunning old office names) (m : IsMeant old place session office names at)
        → planned.judged.index ≡ index_of_host m.dump.host m.host
    index_is office names at m =
        index_found office.hosts m.dump.host m.host planned.judged.index m.here
        (ap (λ (k : Known). slice_get k.hosts m.dump.host) (sym at.catalog_is) ∙ ap (slice_get old.catalog.hosts) (sym m.is.host)
        ∙ planned.judged.here)

    -- the line that the ending gives
    given_line : (office : Office) (names : Names) (at : IsRunning old office names) (m : IsMeant old place session office names at)
        → ends.ending m.host m.dump ≡ Ok line
    given_line office names at m =
        ends.gives session planned.judged.index there planned.judged.here m.host m.dump
        (ap (λ (i : Index). i.next) (index_is office names at m)) m.is.start m.is.kind

    -- the office after it
    abbrev made : (office : Office) (names : Names) (at : IsRunning old office names) → IsMeant old place session office names at → Office
    made office names at m = named_by session.tree (contents_of at.all) (office_after office place m.dump m.host line)

    -- what the event is to an office that the parts hold
    record IsStep (office : Office) (names : Names) (at : IsRunning old office names) : Type 0 where
      pub m : IsMeant old place session office names at
      pub carried : IsCarried event office names (record { answer = Committed line.number; after = made office names at m })
      pub sound : AreSound (made office names at m) names
      pub stored : IsStoredAfter old at.all (ids_in session.tree) plan.changes (slice_set old.counts m.dump.host planned.counts)
          (made office names at m)

    judged_as : (office : Office) (names : Names) (at : IsRunning old office names) (m : IsMeant old place session office names at)
        → (meaning_of event).carried office names
        ≡ Ok (record { answer = Committed line.number; after = office_after office place m.dump m.host line })
    judged_as office names at m =
        let at_place = place_is old name (Some place) ends.found office names at in
        let is_at : dump_at office.dumps name ≡ Ok (record { index = place; value = m.dump }) =
        at_found NoSession office.dumps (dump_index office.dumps name) place m.dump at_place m.there in
        let ended_by : CommitEvent.ended name ends.ending office
        ≡ Ok (record { answer = Committed line.number; after = office_ended name office place m.dump m.host line }) =
        rw (is_at, m.here, given_line office names at m) refl in
        let judged_by : CommitEvent.carried name ends.ending office
        ≡ Ok (record { answer = Committed line.number; after = office_ended name office place m.dump m.host line }) =
        ap (λ (repeated : Option Answer). again office repeated (CommitEvent.ended name ends.ending office))
        (open_repeats_none name office place at_place) ∙ ended_by in
        ap (λ (meaning : Meaning). meaning.carried office names) ends.means ∙ judged_by ∙ ap (λ (s : SessionName). Ok (record {
          answer = Committed line.number;
          after = office_ended s office place m.dump m.host line;
        }))
        (sym (named office.dumps name place m.dump at_place m.there))

    step_of : (office : Office) (names : Names) (at : IsRunning old office names) → IsStep office names at
    step_of office names at =
        let m : IsMeant old place session office names at = meant old place session office names at there in
        let c : Carried = record { answer = Committed line.number; after = office_after office place m.dump m.host line } in
        let judged : (meaning_of event).carried office names ≡ Ok c = judged_as office names at m in
        let sound : IsSound (office_after office place m.dump m.host line) = (lawful event office names c at.sound judged).sound in
        let carried : IsCarried event office names (record { answer = Committed line.number; after = made office names at m }) =
        carried_pooling event office names (record { answer = Committed line.number; after = made office names at m })
        (ap (λ (meaning : Meaning). meaning.pools) ends.means) judged
        (ids_committed old place session line plan office names at planned m sound) in
        record {
          m = m;
          carried = carried;
          sound = AreSound-carried office names event (Committed line.number) (made office names at m) names at.sound carried
              (named_still event name ends.ending ends.means office names (Committed line.number));
          stored = stored_after old place session line plan office names at planned m sound;
        }

    leads_to : (office : Office) (names : Names) (at : IsRunning old office names) → IsStep office names at
        → LeadsTo n.digest_of event plan.changes office names at.all
    leads_to office names at s = record {
      carried = record { answer = Committed line.number; after = made office names at s.m };
      judged = s.carried;
      stands = record { index = _; shown = s.stored.shown; stands = s.stored.stands };
      second = second_planned old session line plan planned;
    }

    pub leads_committed : (office : Office) (names : Names) (at : IsRunning old office names)
        → LeadsTo n.digest_of event plan.changes office names at.all
    leads_committed office names at = leads_to office names at (step_of office names at)

    pub runs_write_failed : (new : StoreParts D N S d n) (refusal : Refusal) → Writes old plan.changes (Err refusal) new
        → Runs old event (Err refusal) new
    runs_write_failed new refusal w =
        runs_write_refused old new event plan.changes refusal w leads_committed
        (λ office names at. inr (ap (λ (meaning : Meaning). meaning.touches office names) ends.means))

    catalog_after : (office : Office) (names : Names) (at : IsRunning old office names) (m : IsMeant old place session office names at)
        → known_after plan.catalog old.catalog ≡ known_of_office (office_after office place m.dump m.host line).durable
    catalog_after office names at m =
        planned.built.after_is
        ∙ ap (λ (h : ℕ). with_line_at h) m.is.host
        ∙ catalog_committed old.catalog office.durable m.dump.host m.host m.dump line planned.lines.line planned.lines.dropped
        planned.lines.receipt at.catalog_is m.here planned.judged.is
        (planned.judged.dropped ∙ ap (λ (i : Index). dropped_of i.rules i.lines) (index_is office names at m))
        (planned.judged.receipt ∙ receipt) m.unspent
      where
        receipt : receipt_by session.token session.name line.number ≡ receipt_by m.dump.token m.dump.name line.number
        receipt = λ i. receipt_by (m.is.token i) (m.is.name i) line.number

        with_line_at : ℕ → Known
        with_line_at h =
            with_change old.catalog h (with_line planned.lines.line (not (is_some planned.lines.dropped)) planned.lines.receipt)

    number_after : line.number ≡ plan.number
    number_after = sym (planned.built.number ∙ number_is old session line plan planned)

    module _ (mid new : StoreParts D N S d n) (done : Unit {0}) (w : Writes old plan.changes (Ok done) mid)
        (f : IsFinished place plan mid new) where
      relisted_is : (office : Office) (names : Names) → IsRunning old office names
          → relisted_after plan.index (slots mid) ≡ with_added (ids_in session.tree) (slots old)
      relisted_is office names at =
          let o = planned.built.of_ids in
          let m = meant old place session office names at there in
          let added : plan.index.added.items ≡ ids_in session.tree =
          o.added_are ∙ all_given (slots old) session.tree (given_ids (slots old) (contents_of at.all) session.tree m.is.tree_rows.told) in
          λ i. relisted_by (added i) (o.marked_are i) (o.unmarked_are i) (o.removed_are i) (slots_of (w.pool_same i).names)

      go : (office : Office) (names : Names) (at : IsRunning old office names)
          → LetsGo (claims_of_dump session) (with_added (ids_in session.tree) (slots old)) (slots new)
      go office names at =
          subst (λ s. LetsGo (claims_of_dump session) s (slots new)) (relisted_is office names at)
          (f.pool session (ap (λ (s : Sessions S). slice_get s.dumps.items place) w.sessions_same ∙ there) planned.built.rows_are
          (λ id. enough id (ap (λ s. claims_of (s id)) (relisted_is office names at) ∙ claims_added (ids_in session.tree) (slots old) id)))
        where
          enough : (id : PoolId) → claims_of (relisted_after plan.index (slots mid) id) ≡ claims_of (slots old id)
              → claims_of_dump session id ≤ claims_of (relisted_after plan.index (slots mid) id)
          enough id same = omega (arith, same, at.claimed id, claims_in_dumps-remove old.sessions.dumps.items id place session there)

      ends_is : EndsDump old.sessions place session new.sessions
      ends_is = subst (λ (s : Sessions S). EndsDump s place session new.sessions) w.sessions_same
          (f.ends session (ap (λ (s : Sessions S). slice_get s.dumps.items place) w.sessions_same ∙ there))

      sessions_after : (office : Office) (names : Names) (at : IsRunning old office names) (m : IsMeant old place session office names at)
          → AreSessions n.holds (given (slots old)) (contents_of at.all) (staging_of at.all names)
          (office_after office place m.dump m.host line).volatile new.sessions
      sessions_after office names at m =
          subst (λ (s : SessionName). AreSessions n.holds (given (slots old)) (contents_of at.all) (staging_of at.all names)
          (office_ended s office place m.dump m.host line).volatile new.sessions) m.is.name
          (AreSessions-dump_ended old.sessions new.sessions place session ends_is n.holds (given (slots old)) (contents_of at.all)
          (staging_of at.all names) office.volatile at.sessions)

      counts_after : (office : Office) (names : Names) (at : IsRunning old office names) (m : IsMeant old place session office names at)
          → new.counts ≡ slice_set old.counts m.dump.host planned.counts
      counts_after office names at m =
          let host : plan.host ≡ m.dump.host = planned.built.host_is ∙ m.is.host in
          f.counts ∙ (λ i. slice_set (w.counts_same i) (host i) (planned.built.counts_are i))

      parked_after : (office : Office) (names : Names) (at : IsRunning old office names) (m : IsMeant old place session office names at)
          → new.partials ≡ heads_of (office_after office place m.dump m.host line).hosts
      parked_after office names at m =
          let host : plan.host ≡ m.dump.host = planned.built.host_is ∙ m.is.host in
          f.partials ∙ (λ i. slice_set ((w.partials_same ∙ at.parked) i) (host i) None)
          ∙ sym (heads-set office.hosts m.dump.host (CommitEvent.with_commit m.host m.dump line))

      running_after : (office : Office) (names : Names) (at : IsRunning old office names) (s : IsStep office names at)
          → IsRunning new (made office names at s.m) names
      running_after office names at s =
          running_committed old mid new office (made office names at s.m) names at plan.changes done w
          (planned_changes old session line plan planned) (ids_in session.tree) (claims_of_dump session) s.stored.shown
          (record { go = go office names at }) f.form
          (claims_in-dump_ended old.sessions new.sessions place session ends_is there)
          s.stored.stands s.stored.tells
          (sessions_after office names at s.m)
          (subst (λ (v : Views). IsKeptView v.kept (made office names at s.m).hosts s.stored.shown)
          (sym (f.views ∙ w.views_same)) s.stored.view)
          (subst (λ (c : List Items). AreCountsOf c s.stored.shown) (sym (counts_after office names at s.m)) s.stored.counted)
          (parked_after office names at s.m) s.sound (second_planned old session line plan planned) f.journal
          (f.catalog ∙ ap (known_after plan.catalog) w.catalog_same ∙ catalog_after office names at s.m)
          f.halted

      holds_committed : (office : Office) (names : Names) (at : IsRunning old office names)
          → Holds event (Committed plan.number) plan.changes office names at.all new
      unfolding leads_to
      holds_committed office names at =
          let s = step_of office names at in
          record {
            leads = leads_to office names at s;
            answer_is = ap (λ (k : ℕ). Committed k) number_after;
            running = running_after office names at s;
          }

      pub runs_finished : Runs old event (Ok (Committed plan.number)) new
      runs_finished =
          runs_written old mid new event (Committed plan.number) plan.changes done w f.journal f.halted holds_committed
          (λ office names. named_still event name ends.ending ends.means office names (Committed plan.number))
          (sym (ap (λ (meaning : Meaning). meaning.kind) ends.means))

  -- behind the plan
  module _ (old start : StoreParts D N S d n) (place : ℕ) (line : Line) (plan : Plan)
      (within : place < length old.sessions.dumps.items)
      (quiet : Quiet old.journal start.journal) (others : start ≡ record old { journal = start.journal })
      (planned : (session : OpenDump) → slice_get old.sessions.dumps.items place ≡ Some session → IsPlanned old session line plan) where
    abbrev dump : OpenDump
    dump = (there_within old.sessions.dumps.items place within).0

    items : start.sessions.dumps.items ≡ old.sessions.dumps.items
    items = ap (λ (p : StoreParts D N S d n). p.sessions.dumps.items) others

    there_start : slice_get start.sessions.dumps.items place ≡ Some dump
    there_start = ap (λ (s : List OpenDump). slice_get s place) items ∙ (there_within old.sessions.dumps.items place within).1

    planned_start : IsPlanned start dump line plan
    planned_start = planned_read old start quiet others dump line plan (planned dump (there_within old.sessions.dumps.items place within).1)

    pub changes_planned : AreChanges plan.changes
    changes_planned = planned_changes start dump line plan planned_start

    pub fits_planned : (known : Known) → known ≡ start.catalog → IsFor known plan.catalog
    fits_planned known same = subst (λ (k : Known). IsFor k plan.catalog) (sym same) planned_start.built.fits

    pub within_planned : (counts : List Items) → counts ≡ start.counts → plan.host < length counts
    within_planned counts same =
        subst (λ (c : List Items). plan.host < length c) (sym same)
        (subst (λ (h : ℕ). h < length start.counts) (sym planned_start.built.host_is) planned_start.within)

    module _ (event : Event) (name : SessionName) (ends : EndsAs old event name place line)
        (same : d.fault_count start.journal.disk ≡ d.fault_count old.journal.disk) where
      ends_start : EndsAs start event name place line
      ends_start = subst (λ (parts : StoreParts D N S d n). EndsAs parts event name place line) (sym others)
          (record { ending = ends.ending; means = ends.means; found = ends.found; gives = ends.gives })

      pub runs_not_written : (new : StoreParts D N S d n) (refusal : Refusal) → Writes start plan.changes (Err refusal) new
          → Runs old event (Err refusal) new
      runs_not_written new refusal w =
          runs_behind old start new event (Err refusal) (reads_behind old start quiet others) same
          (runs_write_failed start event name place line dump plan ends_start there_start planned_start new refusal w)

      pub runs_committed : (mid new : StoreParts D N S d n) (done : Unit {0}) → Writes start plan.changes (Ok done) mid
          → IsFinished place plan mid new → Runs old event (Ok (Committed plan.number)) new
      runs_committed mid new done w f =
          runs_behind old start new event (Ok (Committed plan.number)) (reads_behind old start quiet others) same
          (runs_finished start event name place line dump plan ends_start there_start planned_start mid new done w f)
