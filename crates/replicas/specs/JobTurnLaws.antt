-- What a turn of a pull leaves that brings a backup.
use Rattle.std.specs.Prelude.{◌≡◌, ℕ, suc, ◌==◌, Bool, true, false, List, [], ◌∷◌, ◌++◌, length, Option, Some, None, Ok, Err, if◌then◌else◌}
use Rattle.std.proofs.Common.{refl, sym, ap, ◌∙◌, subst}
use Rattle.std.proofs.lemmas.List.{append-nil}
use Rattle.backup_rules.specs.declared.lines.Line.{Line}
use Rattle.receipts.specs.declared.session.SessionName.{SessionName}
use Rattle.tree_frames.specs.declared.nodes.Frame.{Frame}
use Rattle.office_model.specs.declared.event.Event.{Event}
use Rattle.office_model.specs.declared.event.Event.TheVariants as E
use Rattle.office_model.specs.declared.answer.Answer.TheVariants as A
use Rattle.office_model.specs.Office.{Durable, Host, Backup}
use Rattle.office_model.specs.UsedNames.{Among}
use Rattle.office_model.specs.Parts.{lines_of}
use Rattle.office_model.specs.Places.{AtEach}
use Rattle.office_model.specs.Step.{Call, Running}
use Rattle.office_model.specs.History.{Leads}
use Rattle.folder_laws.specs.Calls.{open_call}
use Rattle.frame_puts.specs.declared.laying.Laying.TheVariants.{Nothing}
use Rattle.restore_histories.specs.Given.{given_in, HaveNoEnd}
use Rattle.restore_histories.specs.Listed.{Shown}
use Rattle.adopted_dumps.specs.Adopted.{shows_of, host_named, IsPart}
use Rattle.pull_work.specs.declared.ends.PullEnd.TheVariants.{Done}
use Rattle.pull_work.specs.Steps.{Step, Home, Lists, Opens, Reads, Closes, calls_in}
use Rattle.pull_work.specs.Script.{ListsThere, Job, Intake, Bringing, Opening, Reading, Closing, Due, Calls, OpensThere, ReadsThere, ClosesThere, due, due_in, after, opening, kind_for, job_of, frame_limit}
use Rattle.replicas.specs.Replicas.{heard_in, Marked, all_in, shown_in}
use Rattle.replicas.specs.ListLaws.{heads, opened_behind, read_behind}
use Rattle.replicas.specs.FrameLaws.{part_adopts}
use Rattle.replicas.specs.HeardLaws.{next_own, all_in-append, given_in-append, given_one}
use Rattle.replicas.specs.HomeLaws.{part_done}
use Rattle.replicas.specs.Courses.{Course, wants, listing_call, opening_call, AtWork, Hears, Opened, Brought, InJob, InBringing, InOpening, InReading, IsWhole, IsOver, Stands}
use Rattle.replicas.specs.EndLaws.{brought_ends, job_ends, reading_ends, whole_ends, ends_behind, not_well}
use Rattle.replicas.specs.HomeTurnLaws.{calls_are}

-- ---- what is due

opens_are : (number number' : ℕ) (base base' : Option ℕ) → (let due : Option Due = Some (OpensThere number base) in due ≡ Some (OpensThere number' base'))
    → (number' ≡ number) × (base' ≡ base)
opens_are number number' base base' e = (cc, cc)

reads_are : (restore restore' : SessionName) → ReadsThere restore ≡ ReadsThere restore' → restore' ≡ restore
reads_are restore restore' e = cc

closes_are : (restore restore' : SessionName) → (let due : Option Due = Some (ClosesThere restore) in due ≡ Some (ClosesThere restore')) → restore' ≡ restore
closes_are restore restore' e = cc

reading_due : (spent : Bool) (a b : Due) → (if spent then None else Some a) ≡ Some b → a ≡ b
reading_due true a b e = absurd (cc)
reading_due false a b e = cc

-- ---- other steps to come

-- the same calls at home
worked_on : (p : Course) (block block' : List Call) (steps more : List Step) → block ++ calls_in steps ≡ block' ++ calls_in more → AtWork p block steps
    → AtWork p block' more
worked_on p block block' steps more same w = record {
  office = w.office;
  names = w.names;
  faults = w.faults;
  sound = w.sound;
  leads = subst (λ (calls : List Call). Leads (Running w.office w.names) w.faults calls p.last p.last_faults) same w.leads;
}

unfoldable pub job_on : (p : Course) (there : Host) (job : Job) (block block' : List Call) (steps more : List Step)
    → block ++ calls_in steps ≡ block' ++ calls_in more → InJob p there job block steps → InJob p there job block' more
unfolding worked_on
job_on p there job block block' steps more same j = record {
  work = worked_on p block block' steps more same j.work;
  own = j.own;
  is_own = j.is_own;
  brought = j.brought;
  backup = j.backup;
  left = j.left;
  shown = j.shown;
  others = j.others;
  wants_are = j.wants_are;
  line_is = j.line_is;
  left_are = j.left_are;
  here = j.here;
  among = j.among;
  count = j.count;
  base = j.base;
}

pub opened_on : (p : Course) (there : Host) (job : Job) (restore : SessionName) (frames : List Frame) (steps more : List Step)
    → heard_in p.plan.host steps ≡ heard_in p.plan.host more → Opened p there job restore frames steps → Opened p there job restore frames more
opened_on p there job restore frames steps more same o = record {
  listing = o.listing;
  is_there = o.is_there;
  lines_are = o.lines_are;
  between = o.between;
  since = o.since;
  rest = o.rest;
  are = o.are;
  own = o.own ∙ same;
  alone = o.alone;
  given = o.given;
}

pub hears_on : (p : Course) (there : Host) (steps more : List Step) → heard_in p.plan.host steps ≡ heard_in p.plan.host more → Hears p there steps
    → Hears p there more
hears_on p there steps more same h = record {
  listing = h.listing;
  is_there = h.is_there;
  lines_are = h.lines_are;
  between = h.between;
  rest = h.rest;
  are = h.are;
  own = h.own ∙ same;
  alone = h.alone;
}

-- a restore that is open, or was
pub opened_hears : (p : Course) (there : Host) (job : Job) (restore : SessionName) (frames : List Frame) (steps : List Step)
    → Opened p there job restore frames steps → Hears p there steps
opened_hears p there job restore frames steps o = record {
  listing = o.listing;
  is_there = o.is_there;
  lines_are = o.lines_are;
  between = o.between ++ (true, opening_call p.plan.host job restore) ∷ o.since;
  rest = o.rest;
  are = o.are;
  own = o.own;
  alone = o.alone;
}

-- one more call was heard
heard_more : (p : Course) (there : Host) (call : Call) (steps more : List Step)
    → heard_in p.plan.host steps ≡ call ∷ heard_in p.plan.host more → Hears p there steps → Hears p there more
heard_more p there call steps more is h =
    let n = next_own h.rest call (heard_in p.plan.host more) (h.own ∙ is) h.alone in
    record {
      listing = h.listing;
      is_there = h.is_there;
      lines_are = h.lines_are;
      between = (h.between ++ n.others) ++ (true, call) ∷ [];
      rest = n.rest;
      are = opened_behind p.marked h.between h.rest n.others n.rest (true, listing_call p.plan.host h.listing) (true, call) h.are n.are;
      own = n.own_is;
      alone = n.alone;
    }

-- ---- a restore is opened there

heard_open : (p : Course) (there : Host) (job : Job) (restore : SessionName) (steps more : List Step)
    → heard_in p.plan.host steps ≡ opening_call p.plan.host job restore ∷ heard_in p.plan.host more → Hears p there steps
    → Opened p there job restore [] more
heard_open p there job restore steps more is h =
    let n = next_own h.rest (opening_call p.plan.host job restore) (heard_in p.plan.host more) (h.own ∙ is) h.alone in
    record {
      listing = h.listing;
      is_there = h.is_there;
      lines_are = h.lines_are;
      between = h.between ++ n.others;
      since = [];
      rest = n.rest;
      are = opened_behind p.marked h.between h.rest n.others n.rest (true, listing_call p.plan.host h.listing)
          (true, opening_call p.plan.host job restore) h.are n.are;
      own = n.own_is;
      alone = n.alone;
      given = refl;
    }

next_job : (p : Course) (there : Host) (newest : Option ℕ) (line : Line) (lines : List Line) (done : ℕ) (steps more : List Step)
    → calls_in steps ≡ calls_in more → Brought p there newest (line ∷ lines) done steps → InJob p there (job_of newest line lines done) [] more
next_job p there newest line lines done steps more same w = by w.left w.wants_are w.lines_are w.among
  where
    by : (left : List Backup) → wants p ≡ w.brought ++ shows_of left → line ∷ lines ≡ lines_of left → AtEach (Among there.backups) left
        → InJob p there (job_of newest line lines done) [] more
    by [] wants_are lines_are among = absurd (cc)
    by (backup ∷ left) wants_are lines_are among =
        let h = heads line backup.line lines (lines_of left) lines_are in
        record {
          work = record {
            office = w.work.office;
            names = w.work.names;
            faults = w.work.faults;
            sound = w.work.sound;
            leads = subst (λ (calls : List Call). Leads (Running w.work.office w.work.names) w.work.faults calls p.last p.last_faults) same w.work.leads;
          };
          own = w.own;
          is_own = w.is_own;
          brought = w.brought;
          backup = backup;
          left = left;
          shown = w.shown;
          others = w.others;
          wants_are = wants_are;
          line_is = h.0;
          left_are = h.1;
          here = among 0 backup refl;
          among = λ i x e. among (suc i) x e;
          count = w.count;
          base = w.base;
        }

was_opened : (p : Course) (newest : Option ℕ) (line : Line) (lines : List Line) (done number : ℕ) (base : Option ℕ) (restore : SessionName) (more : List Step)
    → number ≡ line.number → base ≡ newest → InBringing p newest (line ∷ lines) done (Opens number base (Ok restore) ∷ more)
    → InOpening p (job_of newest line lines done) restore more
was_opened p newest line lines done number base restore more n_is b_is b = record {
  there = b.there;
  opened = heard_open p b.there (job_of newest line lines done) restore (Opens number base (Ok restore) ∷ more) more
      (λ i. (E.OpenRead p.plan.host (n_is i) (b_is i), Ok (A.Restore restore)) ∷ heard_in p.plan.host more) b.hears;
  job_is = next_job p b.there newest line lines done (Opens number base (Ok restore) ∷ more) more refl b.brought;
}

pub bringing_step : (p : Course) (newest : Option ℕ) (lines : List Line) (done : ℕ) (step : Step) (more : List Step)
    → due p.plan (Bringing newest lines done) ≡ Some (due_in step) → InBringing p newest lines done (step ∷ more)
    → Stands p (after (Bringing newest lines done) step) more
bringing_step p newest [] done step more d b = absurd (cc)
bringing_step p newest (line ∷ lines) done (Opens number base (Ok restore)) more d b =
    let same = opens_are line.number number newest base d in
    was_opened p newest line lines done number base restore more same.0 same.1 b
bringing_step p newest (line ∷ lines) done (Opens number base (Err fault)) more d b =
    let ends = ends_behind p [] (Opens number base (Err fault) ∷ more) more refl tt
    (brought_ends p b.there newest (line ∷ lines) done (Opens number base (Err fault) ∷ more) b.brought) in
    record { ends = ends; well = not_well p fault ends.state }
bringing_step p newest (line ∷ lines) done step more d b = absurd (cc)

-- all were brought
pub all_brought : (p : Course) (newest : Option ℕ) (done : ℕ) (more : List Step) → InBringing p newest [] done more → IsOver p (Done done) more
unfolding brought_ends
all_brought p newest done more b =
    let w = b.brought in
    let all : wants p ≡ w.brought = by w.left w.wants_are w.lines_are in
    record {
      ends = brought_ends p b.there newest [] done more w;
      well = (w.count ∙ ap length (sym all), w.shown ∙ ap (λ (xs : List Shown). shown_in p.home.hosts p.plan.host ++ xs) (sym all));
    }
  where
    by : (left : List Backup) → wants p ≡ b.brought.brought ++ shows_of left → (let none : List Line = [] in none ≡ lines_of left) → wants p ≡ b.brought.brought
    by [] wants_are none = wants_are ∙ append-nil b.brought.brought
    by (backup ∷ left) wants_are none = absurd (cc)

-- ---- a dump is opened at home

-- a part that was called leaves the job as it is
part_called : (p : Course) (there : Host) (job : Job) (call : Call) (more : List Step) → IsPart call.0 → InJob p there job [] (Home call ∷ more)
    → InJob p there job [] more
part_called p there job call more part j =
    let d = part_done j.work.office j.work.names j.work.faults call (calls_in more) p.last p.last_faults (part_adopts call.0 call.1 part) j.work.leads in
    record {
      work = record { office = d.after; names = d.names; faults = d.faults; sound = d.sound; leads = d.rest };
      own = j.own;
      is_own = ap (λ (kept : Durable). host_named kept.hosts p.plan.host) d.kept ∙ j.is_own;
      brought = j.brought;
      backup = j.backup;
      left = j.left;
      shown = ap (λ (kept : Durable). shown_in kept.hosts p.plan.host) d.kept ∙ j.shown;
      others = λ other apart. ap (λ (kept : Durable). host_named kept.hosts other) d.kept ∙ j.others other apart;
      wants_are = j.wants_are;
      line_is = j.line_is;
      left_are = j.left_are;
      here = j.here;
      among = j.among;
      count = j.count;
      base = j.base;
    }

none_ends : HaveNoEnd []
none_ends k count e = absurd (cc)

dump_opened : (p : Course) (job : Job) (restore dump : SessionName) (asked : Event) (more : List Step) → asked ≡ opening p.plan job.base
    → InOpening p job restore (Home (asked, Ok (A.Dump dump)) ∷ more)
    → InReading p (record { job = job; restore = restore; dump = dump; laying = Nothing; read = 0 }) [] [] more
dump_opened p job restore dump asked more is o = record {
  there = o.there;
  opened = opened_on p o.there job restore [] (Home (asked, Ok (A.Dump dump)) ∷ more) more refl o.opened;
  block = open_call p.plan.host (kind_for job.base) p.plan.start dump ∷ [];
  job_is = job_on p o.there job [] (open_call p.plan.host (kind_for job.base) p.plan.start dump ∷ []) (Home (asked, Ok (A.Dump dump)) ∷ more) more
      (λ i. (is i, Ok (A.Dump dump)) ∷ calls_in more) o.job_is;
  lain = record { laid = []; lays = (refl, refl); block_is = refl; parts = tt };
  no_end = none_ends;
}

opening_part : (p : Course) (job : Job) (asked : Event) → asked ≡ opening p.plan job.base → IsPart asked
opening_part p job asked is = subst IsPart (sym is) tt

pub opening_step : (p : Course) (job : Job) (restore : SessionName) (step : Step) (more : List Step)
    → due p.plan (Opening job restore) ≡ Some (due_in step) → InOpening p job restore (step ∷ more) → Stands p (after (Opening job restore) step) more
opening_step p job restore (Home (asked, Ok (A.Dump dump))) more d o = ([], dump_opened p job restore dump asked more (calls_are _ asked d) o)
opening_step p job restore (Home (asked, Ok (A.Already number))) more d o = record {
  ends = job_ends p o.there job [] more
      (part_called p o.there job (asked, Ok (A.Already number)) more (opening_part p job asked (calls_are _ asked d)) o.job_is) tt;
  well = tt;
}
opening_step p job restore (Home (asked, Ok answer)) more d o = record {
  there = o.there;
  opened = opened_on p o.there job restore [] (Home (asked, Ok answer) ∷ more) more refl o.opened;
  job_is = part_called p o.there job (asked, Ok answer) more (opening_part p job asked (calls_are _ asked d)) o.job_is;
}
opening_step p job restore (Home (asked, Err refusal)) more d o = record {
  ends = job_ends p o.there job [] more
      (part_called p o.there job (asked, Err refusal) more (opening_part p job asked (calls_are _ asked d)) o.job_is) tt;
  well = tt;
}
opening_step p job restore step more d o = absurd (cc)

-- ---- a frame is read

-- one frame more was heard
heard_frame : (p : Course) (there : Host) (job : Job) (restore : SessionName) (frames : List Frame) (frame : Frame) (steps more : List Step)
    → heard_in p.plan.host steps ≡ (E.ReadNext restore, Ok (A.Next frame)) ∷ heard_in p.plan.host more → Opened p there job restore frames steps
    → Opened p there job restore (frames ++ frame ∷ []) more
heard_frame p there job restore frames frame steps more is o =
    let read : Call = (E.ReadNext restore, Ok (A.Next frame)) in
    let n = next_own o.rest read (heard_in p.plan.host more) (o.own ∙ is) o.alone in
    let none : given_in restore (all_in n.others) ≡ [] =
    n.quiet restore frame (given_in restore (heard_in p.plan.host more)) (given_one restore frame (heard_in p.plan.host more)) in
    record {
      listing = o.listing;
      is_there = o.is_there;
      lines_are = o.lines_are;
      between = o.between;
      since = (o.since ++ n.others) ++ (true, read) ∷ [];
      rest = n.rest;
      are = read_behind p.marked o.between o.since o.rest n.others n.rest (true, listing_call p.plan.host o.listing)
          (true, opening_call p.plan.host job restore) (true, read) o.are n.are;
      own = n.own_is;
      alone = n.alone;
      given = given_then restore o.since n.others frame frames none o.given;
    }
  where
    given_then : (restore : SessionName) (since others : Marked) (frame : Frame) (frames : List Frame) → given_in restore (all_in others) ≡ []
        → given_in restore (all_in since) ≡ frames
        → given_in restore (all_in ((since ++ others) ++ (true, (E.ReadNext restore, Ok (A.Next frame))) ∷ [])) ≡ frames ++ frame ∷ []
    given_then restore since others frame frames none given =
        ap (given_in restore) (all_in-append (since ++ others) ((true, (E.ReadNext restore, Ok (A.Next frame))) ∷ []))
        ∙ given_in-append restore (all_in (since ++ others)) ((E.ReadNext restore, Ok (A.Next frame)) ∷ [])
        ∙ ap (λ (xs : List Frame). xs ++ given_in restore ((E.ReadNext restore, Ok (A.Next frame)) ∷ []))
        (ap (given_in restore) (all_in-append since others) ∙ given_in-append restore (all_in since) (all_in others)
        ∙ ap (λ (xs : List Frame). given_in restore (all_in since) ++ xs) none ∙ append-nil (given_in restore (all_in since)) ∙ given)
        ∙ ap (λ (xs : List Frame). frames ++ xs) (given_one restore frame [])

was_read : (p : Course) (intake : Intake) (restore : SessionName) (frame : Frame) (frames : List Frame) (more : List Step) → restore ≡ intake.restore
    → InReading p intake frames frames (Reads restore (Ok frame) ∷ more) → InReading p intake frames (frames ++ frame ∷ []) more
was_read p intake restore frame frames more is r = record {
  there = r.there;
  opened = heard_frame p r.there intake.job intake.restore frames frame (Reads restore (Ok frame) ∷ more) more
      (λ i. (E.ReadNext (is i), Ok (A.Next frame)) ∷ heard_in p.plan.host more) r.opened;
  block = r.block;
  job_is = job_on p r.there intake.job r.block r.block (Reads restore (Ok frame) ∷ more) more refl r.job_is;
  lain = r.lain;
  no_end = r.no_end;
}

pub reading_step : (p : Course) (intake : Intake) (step : Step) (more : List Step) → due p.plan (Reading intake) ≡ Some (due_in step)
    → Stands p (Reading intake) (step ∷ more) → Stands p (after (Reading intake) step) more
reading_step p intake (Reads restore (Ok frame)) more d s = (
  s.0,
  was_read p intake restore frame s.0 more
      (reads_are intake.restore restore (reading_due (intake.read == frame_limit) (ReadsThere intake.restore) (ReadsThere restore) d)) s.1,
)
reading_step p intake (Reads restore (Err fault)) more d s =
    let ends = ends_behind p [] (Reads restore (Err fault) ∷ more) more refl tt (reading_ends p intake s.0 s.0 (Reads restore (Err fault) ∷ more) s.1) in
    record { ends = ends; well = not_well p fault ends.state }
reading_step p intake (Home call) more d s =
    let e : ReadsThere intake.restore ≡ Calls call.0 = reading_due (intake.read == frame_limit) (ReadsThere intake.restore) (Calls call.0) d in absurd (cc)
reading_step p intake (Lists result) more d s =
    let e : ReadsThere intake.restore ≡ ListsThere =
    reading_due (intake.read == frame_limit) (ReadsThere intake.restore) ListsThere d in absurd (cc)
reading_step p intake (Opens number base result) more d s =
    let e : ReadsThere intake.restore ≡ OpensThere number base =
    reading_due (intake.read == frame_limit) (ReadsThere intake.restore) (OpensThere number base) d in absurd (cc)
reading_step p intake (Closes restore result) more d s =
    let e : ReadsThere intake.restore ≡ ClosesThere restore =
    reading_due (intake.read == frame_limit) (ReadsThere intake.restore) (ClosesThere restore) d in absurd (cc)

-- ---- a restore is closed

was_closed : (p : Course) (job : Job) (restore closed dump : SessionName) (done : Unit {0}) (more : List Step)
    → IsWhole p job dump (Closes closed (Ok done) ∷ more) → IsWhole p job dump more
unfolding job_on worked_on
was_closed p job restore closed dump done more w = record {
  there = w.there;
  hears = heard_more p w.there (E.CloseRead closed, Ok A.Done) (Closes closed (Ok done) ∷ more) more refl w.hears;
  block = w.block;
  job_is = job_on p w.there job w.block w.block (Closes closed (Ok done) ∷ more) more refl w.job_is;
  laid = w.laid;
  is_laid = w.is_laid;
  block_is = w.block_is;
  parts = w.parts;
}

pub closing_step : (p : Course) (job : Job) (restore dump : SessionName) (step : Step) (more : List Step)
    → due p.plan (Closing job restore dump) ≡ Some (due_in step) → IsWhole p job dump (step ∷ more)
    → Stands p (after (Closing job restore dump) step) more
closing_step p job restore dump (Closes closed (Ok done)) more d w = was_closed p job restore closed dump done more w
closing_step p job restore dump (Closes closed (Err fault)) more d w =
    let ends = ends_behind p [] (Closes closed (Err fault) ∷ more) more refl tt (whole_ends p job dump (Closes closed (Err fault) ∷ more) w) in
    record { ends = ends; well = not_well p fault ends.state }
closing_step p job restore dump step more d w = absurd (cc)
