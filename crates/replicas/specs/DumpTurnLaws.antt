-- What a turn of a pull leaves that lays a frame into a dump, adopts it or aborts it.
use Rattle.std.specs.Prelude.{◌≡◌, ℕ, ◌+◌, true, false, List, [], ◌∷◌, ◌++◌, length, map, Option, Some, Ok, Err, slice_get, ◌⊎◌}
use Rattle.std.proofs.Common.{refl, sym, ap, ◌∙◌, subst, append_assoc, length-append, inl, inr}
use Rattle.attr_records.specs.Items.{Tree, is_dir}
use Rattle.attr_records.specs.Trees.{IsTree}
use Rattle.receipts.specs.declared.session.SessionName.{SessionName}
use Rattle.tree_frames.specs.declared.nodes.Frame.{Frame}
use Rattle.tree_frames.specs.declared.nodes.Frame.TheVariants.{Deleted, Entry, Piece, End}
use Rattle.tree_frames.specs.Frames.{frames_since}
use Rattle.backup_rules.specs.declared.lines.Line.{Line}
use Rattle.office_model.specs.declared.event.Event.{Event}
use Rattle.office_model.specs.declared.event.Event.TheVariants as E
use Rattle.office_model.specs.declared.answer.Answer.{Answer}
use Rattle.office_model.specs.declared.refusal.Refusal.{Refusal}
use Rattle.office_model.specs.declared.refusal.Refusal.TheVariants.{DiskFault}
use Rattle.office_model.specs.Office.{Durable, Host, Backup}
use Rattle.office_model.specs.PlacesLaws.{in_longer}
use Rattle.office_model.specs.Step.{Call, State, Running, Halted}
use Rattle.office_model.specs.History.{Leads}
use Rattle.frame_puts.specs.declared.laying.Laying.{Laying}
use Rattle.frame_puts.specs.declared.laying.Laying.TheVariants.{Nothing, Small, Large, Ended}
use Rattle.frame_puts.specs.Steps.{Step as FrameStep, frame_step}
use Rattle.frame_puts.specs.Runs.{Lays}
use Rattle.frame_puts.specs.RunLaws.{lays_tree, lays_more}
use Rattle.restore_histories.specs.Given.{HaveNoEnd}
use Rattle.restore_histories.specs.RunLaws.{run_begins}
use Rattle.restore_histories.specs.Listed.{Shown, shown_as, shown_of}
use Rattle.adopted_dumps.specs.Adopted.{host_named, shows_of, base_of, Gains, adopt_event, IsLaidOpen, MayGain, AdoptsNone, AdoptNone, IsPart, IsRefused}
use Rattle.adopted_dumps.specs.AdoptedLaws.{dump_is_adopted, dump_may_be_adopted}
use Rattle.pull_work.specs.declared.ends.PullEnd.{PullEnd}
use Rattle.pull_work.specs.declared.ends.PullEnd.TheVariants.{Refused}
use Rattle.pull_work.specs.Steps.{Step, Home, calls_in}
use Rattle.pull_work.specs.Script.{Job, Intake, Adopting, Aborting, due, due_in, after, kind_for, taken}
use Rattle.replicas.specs.Replicas.{shown_in, BringsIn}
use Rattle.replicas.specs.FrameLaws.{is_end, is_ended, AreParts, AreParts-append, AreParts-front, AreParts-back, part_adopts, parts_adopt, AdoptNone-append, frame_fine}
use Rattle.replicas.specs.HomeLaws.{brought_is, gained, newest_shown}
use Rattle.replicas.specs.AnswerLaws.{adopt_answer}
use Rattle.replicas.specs.RunLaws.{is_tree, run_of}
use Rattle.replicas.specs.Courses.{Course, wants, InJob, InBringing, InReading, IsWhole, Ends, IsOver, Stands}
use Rattle.replicas.specs.EndLaws.{calls_home, heard_home, reading_ends, whole_ends, ends_behind}
use Rattle.replicas.specs.HomeTurnLaws.{calls_are}
use Rattle.replicas.specs.JobTurnLaws.{job_on, opened_on, opened_hears, hears_on}

-- ---- a frame that fits

end_is : (frame : Frame) → is_end frame ≡ true → (count : ℕ) × (frame ≡ End count)
end_is (End count) e = (count, refl)
end_is (Deleted path) e = absurd (cc)
end_is (Entry path node) e = absurd (cc)
end_is (Piece bytes) e = absurd (cc)

no_end_more : (frames : List Frame) (frame : Frame) → HaveNoEnd frames → is_end frame ≡ false → HaveNoEnd (frames ++ frame ∷ [])
no_end_more frames frame none other k count e = by (in_longer frames frame k (End count) e)
  where
    by : (slice_get frames k ≡ Some (End count)) ⊎ ((k ≡ length frames) × (End count ≡ frame)) → ⊥
    by (inl f) = none k count f
    by (inr w) = let f : true ≡ false = ap is_end w.1 ∙ other in absurd (cc)

module _ (p : Course) (intake : Intake) (frame : Frame) (frames : List Frame) (stage : ℕ) (made : FrameStep) (more : List Step)
    (is_step : frame_step intake.dump intake.laying stage frame ≡ Some made)
    (r : InReading p intake frames (frames ++ frame ∷ []) (map Home made.calls ++ more)) where
  block_on : List Call
  block_on = r.block ++ made.calls

  fits_on : r.block ++ calls_in (map Home made.calls ++ more) ≡ (r.block ++ made.calls) ++ calls_in more
  fits_on =
      ap (λ (calls : List Call). r.block ++ calls) (calls_home made.calls more) ∙ sym (append_assoc r.block made.calls (calls_in more))

  all_lain : Lays intake.dump Nothing (frames ++ frame ∷ []) (r.lain.laid ++ made.calls) made.laying
  all_lain = lays_more intake.dump Nothing intake.laying frames frame r.lain.laid stage made r.lain.lays is_step

  still_reading : (laying : Laying) → made.laying ≡ laying → is_ended laying ≡ false
      → (all : List Frame) × InReading p (record intake { laying = laying; read = intake.read + 1 }) all all more
  still_reading laying is other =
      let fine = frame_fine intake.dump intake.laying stage frame made is_step in (
        frames ++ frame ∷ [],
        record {
          there = r.there;
          opened = opened_on p r.there intake.job intake.restore (frames ++ frame ∷ []) (map Home made.calls ++ more) more
              (heard_home p.plan.host made.calls more) r.opened;
          block = r.block ++ made.calls;
          job_is = job_on p r.there intake.job r.block (r.block ++ made.calls) (map Home made.calls ++ more) more fits_on r.job_is;
          lain = record {
            laid = r.lain.laid ++ made.calls;
            lays = subst (λ (l : Laying). Lays intake.dump Nothing (frames ++ frame ∷ []) (r.lain.laid ++ made.calls) l) is all_lain;
            block_is = ap (λ (calls : List Call). calls ++ made.calls) r.lain.block_is;
            parts = AreParts-append r.lain.laid made.calls r.lain.parts fine.1;
          };
          no_end = no_end_more frames frame r.no_end (sym fine.0 ∙ ap is_ended is ∙ other);
        },
      )

  was_last : made.laying ≡ Ended → IsWhole p intake.job intake.dump more
  unfolding job_on
  was_last is =
      let fine = frame_fine intake.dump intake.laying stage frame made is_step in
      let from : Option Tree = base_of (kind_for intake.job.base) r.job_is.own.backups in
      let tree : Tree = r.job_is.backup.tree in
      let end = end_is frame (sym fine.0 ∙ ap is_ended is) in
      let w = run_begins from tree frames frame
      (run_of p r.there intake.job intake.restore (frames ++ frame ∷ []) (map Home made.calls ++ more) (map Home made.calls ++ more) r.block r.opened r.job_is)
      r.no_end in
      let all : frames_since from tree ≡ frames ++ frame ∷ [] = w.1 ∙ ap (λ (rest : List Frame). frames ++ frame ∷ rest) (w.2 end.0 end.1) in
      record {
        there = r.there;
        hears = opened_hears p r.there intake.job intake.restore (frames ++ frame ∷ []) more
            (opened_on p r.there intake.job intake.restore (frames ++ frame ∷ []) (map Home made.calls ++ more) more
            (heard_home p.plan.host made.calls more) r.opened);
        block = r.block ++ made.calls;
        job_is = job_on p r.there intake.job r.block (r.block ++ made.calls) (map Home made.calls ++ more) more fits_on r.job_is;
        laid = r.lain.laid ++ made.calls;
        is_laid = (lays_tree intake.dump from tree (r.lain.laid ++ made.calls) made.laying
            (subst (λ (fs : List Frame). Lays intake.dump Nothing fs (r.lain.laid ++ made.calls) made.laying) (sym all) all_lain)).0;
        block_is = ap (λ (calls : List Call). calls ++ made.calls) r.lain.block_is;
        parts = AreParts-append r.lain.laid made.calls r.lain.parts fine.1;
      }

  pub taken_by : (laying : Laying) → made.laying ≡ laying → Stands p (taken intake laying) more
  taken_by Nothing is = still_reading Nothing is refl
  taken_by (Small file) is = still_reading (Small file) is refl
  taken_by (Large file) is = still_reading (Large file) is refl
  taken_by Ended is = was_last is

-- a call of it was refused
pub call_refused : (p : Course) (intake : Intake) (frame : Frame) (frames : List Frame) (stage : ℕ) (made : FrameStep) (done : List Call) (call : Call)
    (rest : List Call) (refusal : Refusal) (more : List Step) → frame_step intake.dump intake.laying stage frame ≡ Some made
    → made.calls ≡ done ++ call ∷ rest
    → InReading p intake frames (frames ++ frame ∷ []) (map Home (done ++ (call.0, Err refusal) ∷ []) ++ more) → IsOver p (Refused refusal) more
call_refused p intake frame frames stage made done call rest refusal more is_step calls_are r =
    let parts : AreParts (done ++ call ∷ rest) = subst AreParts calls_are (frame_fine intake.dump intake.laying stage frame made is_step).1 in
    let back = AreParts-back done (call ∷ rest) parts in
    let none : AdoptNone (done ++ (call.0, Err refusal) ∷ []) =
    AdoptNone-append done ((call.0, Err refusal) ∷ []) (parts_adopt done (AreParts-front done (call ∷ rest) parts))
    (part_adopts call.0 (Err refusal) back.0, tt) in
    record {
      ends = ends_behind p (done ++ (call.0, Err refusal) ∷ []) (map Home (done ++ (call.0, Err refusal) ∷ []) ++ more) more
          (calls_home (done ++ (call.0, Err refusal) ∷ []) more) none
          (reading_ends p intake frames (frames ++ frame ∷ []) (map Home (done ++ (call.0, Err refusal) ∷ []) ++ more) r);
      well = tt;
    }

-- ---- the dump is adopted

shown_is : (line : Line) (backup : Backup) → line ≡ backup.line → shown_as line backup.tree ≡ shown_of backup
shown_is line backup e = ap (λ (l : Line). shown_as l backup.tree) e

laid_open : (p : Course) (job : Job) (dump : SessionName) (steps : List Step) → (w : IsWhole p job dump steps)
    → IsLaidOpen w.job_is.work.office p.plan.host (kind_for job.base) dump w.job_is.backup.tree w.block
laid_open p job dump steps w = record {
  start = p.plan.start;
  host = w.job_is.own;
  laid = w.laid;
  is_host = w.job_is.is_own;
  is_laid = w.is_laid;
  calls_are = w.block_is;
}

whole_tree : (p : Course) (job : Job) (dump : SessionName) (steps : List Step) → (w : IsWhole p job dump steps) → IsTree is_dir w.job_is.backup.tree
whole_tree p job dump steps w =
    is_tree p.first.hosts p.plan.host w.there w.job_is.backup p.sound_there.office.hosts w.hears.is_there w.job_is.here

was_adopted : (p : Course) (job : Job) (dump : SessionName) (asked : Event) (answer : Answer) (more : List Step) → asked ≡ adopt_event dump job.line
    → IsWhole p job dump (Home (asked, Ok answer) ∷ more) → InBringing p (Some job.line.number) job.left (job.done + 1) more
was_adopted p job dump asked answer more is w =
    let host = p.plan.host in
    let j = w.job_is in
    let filled = laid_open p job dump (Home (asked, Ok answer) ∷ more) w in
    let tree_is = whole_tree p job dump (Home (asked, Ok answer) ∷ more) w in
    let leads = subst (λ (event : Event). Leads (Running j.work.office j.work.names) j.work.faults (w.block ++ (event, Ok answer) ∷ calls_in more) p.last p.last_faults)
    is j.work.leads in
    let answer_is = adopt_answer j.work.office j.work.names j.work.faults host (kind_for job.base) dump job.line j.backup.tree answer w.block
    (calls_in more) p.last p.last_faults tree_is filled leads in
    let a = dump_is_adopted j.work.office j.work.names j.work.faults host (kind_for job.base) dump job.line j.backup.tree w.block (calls_in more)
    p.last p.last_faults tree_is filled
    (subst (λ (given : Answer). Leads (Running j.work.office j.work.names) j.work.faults (w.block ++ (adopt_event dump job.line, Ok given) ∷ calls_in more) p.last p.last_faults)
    answer_is leads) in
    let gains : Gains j.work.office.hosts a.office.hosts host (shown_of j.backup) =
    subst (Gains j.work.office.hosts a.office.hosts host) (shown_is job.line j.backup j.line_is) a.gains in
    let newest = newest_shown gains.after.backups (shows_of gains.before.backups) (shown_of j.backup) gains.shows in
    record {
      there = w.there;
      hears = hears_on p w.there (Home (asked, Ok answer) ∷ more) more refl w.hears;
      brought = record {
        work = record { office = a.office; names = a.names; faults = a.faults; sound = a.sound; leads = a.rest };
        own = gains.after;
        is_own = gains.is;
        brought = j.brought ++ shown_of j.backup ∷ [];
        left = j.left;
        shown = gained j.work.office.hosts a.office.hosts host (shown_of j.backup) gains
            ∙ ap (λ (xs : List Shown). xs ++ shown_of j.backup ∷ []) j.shown
            ∙ append_assoc (shown_in p.home.hosts host) j.brought (shown_of j.backup ∷ []);
        others = λ other apart. gains.others other apart ∙ j.others other apart;
        wants_are = j.wants_are ∙ sym (append_assoc j.brought (shown_of j.backup ∷ []) (shows_of j.left));
        lines_are = j.left_are;
        among = j.among;
        count = ap (λ (n : ℕ). n + 1) j.count ∙ sym (length-append j.brought (shown_of j.backup ∷ []));
        base = record {
          own = newest.0;
          other = j.backup;
          is_newest = newest.1;
          among = j.here;
          numbered = sym (ap (λ (l : Line). l.number) j.line_is);
          same = ap (λ (s : Shown). s.tree) newest.2;
        };
      };
    }

may_bring : (p : Course) (there : Host) (job : Job) (block : List Call) (steps : List Step) → (j : InJob p there job block steps) → (state : State)
    → MayGain j.work.office p.plan.host (shown_of j.backup) state → BringsIn p.home.hosts (wants p) p.plan.host state
may_bring p there job block steps j (Running new n) may =
    brought_is p.home.hosts (wants p) j.brought (shown_of j.backup ∷ shows_of j.left) p.plan.host new.hosts j.wants_are
    (ap (λ (kept : Durable). shown_in kept.hosts p.plan.host) may ∙ j.shown)
    (λ other apart. ap (λ (kept : Durable). host_named kept.hosts other) may ∙ j.others other apart)
may_bring p there job block steps j (Halted before next n) may = (
  brought_is p.home.hosts (wants p) j.brought (shown_of j.backup ∷ shows_of j.left) p.plan.host before.hosts j.wants_are
      (ap (λ (kept : Durable). shown_in kept.hosts p.plan.host) may.0 ∙ j.shown)
      (λ other apart. ap (λ (kept : Durable). host_named kept.hosts other) may.0 ∙ j.others other apart),
  brought_is p.home.hosts (wants p) (j.brought ++ shown_of j.backup ∷ []) (shows_of j.left) p.plan.host next.hosts
      (j.wants_are ∙ sym (append_assoc j.brought (shown_of j.backup ∷ []) (shows_of j.left)))
      (gained j.work.office.hosts next.hosts p.plan.host (shown_of j.backup) may.1
      ∙ ap (λ (xs : List Shown). xs ++ shown_of j.backup ∷ []) j.shown
      ∙ append_assoc (shown_in p.home.hosts p.plan.host) j.brought (shown_of j.backup ∷ []))
      (λ other apart. may.1.others other apart ∙ j.others other apart),
)

-- the disk failed
may_be_adopted : (p : Course) (job : Job) (dump : SessionName) (asked : Event) (more : List Step) → asked ≡ adopt_event dump job.line
    → IsWhole p job dump (Home (asked, Err DiskFault) ∷ more) → Ends p more
may_be_adopted p job dump asked more is w =
    let host = p.plan.host in
    let j = w.job_is in
    let a = dump_may_be_adopted j.work.office j.work.names j.work.faults host (kind_for job.base) dump job.line j.backup.tree w.block (calls_in more)
    p.last p.last_faults (whole_tree p job dump (Home (asked, Err DiskFault) ∷ more) w) (laid_open p job dump (Home (asked, Err DiskFault) ∷ more) w)
    (subst (λ (event : Event). Leads (Running j.work.office j.work.names) j.work.faults (w.block ++ (event, Err DiskFault) ∷ calls_in more) p.last p.last_faults)
    is j.work.leads) in
    record {
      state = a.state;
      faults = a.faults;
      block = [];
      brings = may_bring p w.there job w.block (Home (asked, Err DiskFault) ∷ more) j a.state
          (subst (λ (shown : Shown). MayGain j.work.office host shown a.state) (shown_is job.line j.backup j.line_is) a.may);
      none = tt;
      leads = a.rest;
    }

-- it was refused otherwise
unadopted : (p : Course) (job : Job) (dump : SessionName) (asked : Event) (refusal : Refusal) (more : List Step) → asked ≡ adopt_event dump job.line
    → IsRefused (Err refusal) → IsWhole p job dump (Home (asked, Err refusal) ∷ more) → Ends p more
unadopted p job dump asked refusal more is refused w =
    ends_behind p ((asked, Err refusal) ∷ []) (Home (asked, Err refusal) ∷ more) more refl
    (subst (λ (event : Event). AdoptsNone event (Err refusal)) (sym is) refused, tt)
    (whole_ends p job dump (Home (asked, Err refusal) ∷ more) w)

adopt_refused : (p : Course) (job : Job) (dump : SessionName) (asked : Event) (refusal : Refusal) (more : List Step) → asked ≡ adopt_event dump job.line
    → IsWhole p job dump (Home (asked, Err refusal) ∷ more) → Ends p more
adopt_refused p job dump asked DiskFault more is w = may_be_adopted p job dump asked more is w
adopt_refused p job dump asked refusal more is w = unadopted p job dump asked refusal more is tt w

pub adopting_step : (p : Course) (job : Job) (dump : SessionName) (step : Step) (more : List Step)
    → due p.plan (Adopting job dump) ≡ Some (due_in step) → IsWhole p job dump (step ∷ more) → Stands p (after (Adopting job dump) step) more
adopting_step p job dump (Home (asked, Ok answer)) more d w = was_adopted p job dump asked answer more (calls_are _ asked d) w
adopting_step p job dump (Home (asked, Err refusal)) more d w =
    record { ends = adopt_refused p job dump asked refusal more (calls_are _ asked d) w; well = tt }
adopting_step p job dump step more d w = absurd (cc)

-- ---- or aborted

aborted_none : (dump : SessionName) (call : Call) → call.0 ≡ E.Abort dump → AdoptNone (call ∷ [])
aborted_none dump call is = (part_adopts call.0 call.1 (subst IsPart (sym is) tt), tt)

was_aborted : (p : Course) (dump : SessionName) (end : PullEnd) (call : Call) (more : List Step) → call.0 ≡ E.Abort dump
    → IsOver p end (Home call ∷ more) → IsOver p end more
unfolding ends_behind
was_aborted p dump end call more is o =
    record { ends = ends_behind p (call ∷ []) (Home call ∷ more) more refl (aborted_none dump call is) o.ends; well = o.well }

pub aborting_step : (p : Course) (dump : SessionName) (end : PullEnd) (step : Step) (more : List Step)
    → due p.plan (Aborting dump end) ≡ Some (due_in step) → IsOver p end (step ∷ more) → Stands p (after (Aborting dump end) step) more
aborting_step p dump end (Home call) more d o = was_aborted p dump end call more (calls_are _ call.0 d) o
aborting_step p dump end step more d o = absurd (cc)
