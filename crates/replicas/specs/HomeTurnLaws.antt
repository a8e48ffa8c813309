-- What a turn of a pull leaves that calls at home, or asks for the listing.
use Rattle.std.specs.Prelude.{◌≡◌, ℕ, nat_le, Bool, true, false, List, [], ◌∷◌, Option, Some, Ok, Err, slice_get, if◌then◌else◌}
use Rattle.std.specs.List.{filter}
use Rattle.std.proofs.Common.{refl, sym, ap, ◌∙◌, subst}
use Rattle.std.proofs.lemmas.List.{append-nil}
use Rattle.backup_rules.specs.declared.lines.Line.{Line}
use Rattle.receipts.specs.declared.session.SessionName.{SessionName}
use Rattle.office_model.specs.declared.event.Event.{Event}
use Rattle.office_model.specs.declared.event.Event.TheVariants as E
use Rattle.office_model.specs.declared.answer.Answer.{Answer}
use Rattle.office_model.specs.declared.answer.Answer.TheVariants as A
use Rattle.office_model.specs.declared.refusal.Refusal.{Refusal}
use Rattle.office_model.specs.Office.{Office, Durable, Host, Backup}
use Rattle.office_model.specs.UsedNames.{Among}
use Rattle.office_model.specs.Meaning.{Reply}
use Rattle.office_model.specs.Parts.{lines_of}
use Rattle.office_model.specs.Step.{Call, State, Running, Halted}
use Rattle.office_model.specs.History.{Leads, last_state, last_faults}
use Rattle.call_scripts.specs.FirstCalls.{answered}
use Rattle.restore_histories.specs.Listed.{Shown, shown_of}
use Rattle.adopted_dumps.specs.Adopted.{shows_of, host_named, AdoptsNone}
use Rattle.adopted_dumps.specs.PartLaws.{part_keeps}
use Rattle.listing_back.specs.declared.listing.Listing.{Listing}
use Rattle.pull_work.specs.declared.ends.PullEnd.TheVariants.{Refused}
use Rattle.pull_work.specs.Compared.{base_in, new_lines}
use Rattle.pull_work.specs.Steps.{Step, Home, Lists, calls_in}
use Rattle.pull_work.specs.Script.{Asking, Adding, AskingAgain, Comparing, Over, Due, Calls, due, due_in, after, is_no_host}
use Rattle.replicas.specs.Replicas.{heard_in, all_in, shown_in, next_in, BringsIn}
use Rattle.replicas.specs.ListLaws.{AtEach-filter, AtEach-all, filter_made}
use Rattle.replicas.specs.HeardLaws.{begun}
use Rattle.replicas.specs.HomeLaws.{shown_there, next_there, none_brought, IsListed, listed, part_done, Alike, alike_then, added, ShowsAs, add_refused, IsBase, base_common}
use Rattle.replicas.specs.Courses.{Course, wants, listing_call, AtWork, Before, Compares, InBringing, Ends, Stands}
use Rattle.replicas.specs.EndLaws.{before_ends, not_well}

-- ---- the event that is due

pub calls_are : (a b : Event) → (let due : Option Due = Some (Calls a) in due ≡ Some (Calls b)) → b ≡ a
calls_are a b e = cc

-- ---- home's backups are asked for

asked_before : (p : Course) (asked : Event) (reply : Reply) (more : List Step) → asked ≡ E.Backups p.plan.host
    → Before p (Home (asked, reply) ∷ more) → Before p more
asked_before p asked reply more is b =
    let none : AdoptsNone asked reply = subst (λ (event : Event). AdoptsNone event reply) (sym is) tt in
    let d = part_done b.work.office b.work.names b.work.faults (asked, reply) (calls_in more) p.last p.last_faults none b.work.leads in
    record {
      work = record { office = d.after; names = d.names; faults = d.faults; sound = d.sound; leads = d.rest };
      alike = subst (λ (kept : Durable). Alike p.home.hosts kept.hosts p.plan.host) (sym d.kept) b.alike;
      own = b.own;
      alone = b.alone;
      begins = b.begins;
    }

asked_listed : (p : Course) (asked : Event) (lines : List Line) (next : ℕ) (dump : Option SessionName) (more : List Step)
    → asked ≡ E.Backups p.plan.host → Before p (Home (asked, Ok (A.Backups lines next dump)) ∷ more) → Compares p lines next more
asked_listed p asked lines next dump more is b =
    let a = answered b.work.office b.work.names b.work.faults (E.Backups p.plan.host) (A.Backups lines next dump) (calls_in more) p.last p.last_faults
    (subst (λ (event : Event). Leads (Running b.work.office b.work.names) b.work.faults ((event, Ok (A.Backups lines next dump)) ∷ calls_in more) p.last p.last_faults)
    is b.work.leads) in
    let kept : a.after.durable ≡ b.work.office.durable =
    part_keeps (E.Backups p.plan.host) tt b.work.office b.work.names (record { answer = A.Backups lines next dump; after = a.after }) a.carried in
    record {
      before = record {
        work = record { office = a.after; names = a.after_names; faults = a.faults; sound = a.sound; leads = a.rest };
        alike = subst (λ (d : Durable). Alike p.home.hosts d.hosts p.plan.host) (sym kept) b.alike;
        own = b.own;
        alone = b.alone;
        begins = b.begins;
      };
      listed = subst (λ (d : Durable). IsListed d.hosts p.plan.host lines next) (sym kept)
          (listed b.work.office p.plan.host lines next dump a.after a.carried);
    }

refused_asking : (p : Course) (no_host : Bool) (refusal : Refusal) (more : List Step) → Before p more
    → Stands p (if no_host then Adding else Over (Refused refusal)) more
refused_asking p true refusal more b = b
refused_asking p false refusal more b = record { ends = before_ends p more b; well = tt }

pub asking_step : (p : Course) (step : Step) (more : List Step) → due p.plan Asking ≡ Some (due_in step) → Before p (step ∷ more)
    → Stands p (after Asking step) more
asking_step p (Home (asked, Ok (A.Backups lines next dump))) more d b = asked_listed p asked lines next dump more (calls_are _ asked d) b
asking_step p (Home (asked, Ok answer)) more d b = asked_before p asked (Ok answer) more (calls_are _ asked d) b
asking_step p (Home (asked, Err refusal)) more d b =
    refused_asking p (is_no_host refusal) refusal more (asked_before p asked (Err refusal) more (calls_are _ asked d) b)
asking_step p step more d b = absurd (cc)

pub asking_again_step : (p : Course) (step : Step) (more : List Step) → due p.plan AskingAgain ≡ Some (due_in step) → Before p (step ∷ more)
    → Stands p (after AskingAgain step) more
asking_again_step p (Home (asked, Ok (A.Backups lines next dump))) more d b = asked_listed p asked lines next dump more (calls_are _ asked d) b
asking_again_step p (Home (asked, Ok answer)) more d b = asked_before p asked (Ok answer) more (calls_are _ asked d) b
asking_again_step p (Home (asked, Err refusal)) more d b =
    record { ends = before_ends p more (asked_before p asked (Err refusal) more (calls_are _ asked d) b); well = tt }
asking_again_step p step more d b = absurd (cc)

-- ---- the host is added

shows_bring : (p : Course) (old : Office) (state : State) → Alike p.home.hosts old.hosts p.plan.host → ShowsAs old p.plan.host state
    → BringsIn p.home.hosts (wants p) p.plan.host state
shows_bring p old (Running new n) alike shows = none_brought p.home.hosts (wants p) p.plan.host new.hosts
    (alike_then p.home.hosts old.hosts new.hosts p.plan.host alike shows)
shows_bring p old (Halted before next n) alike shows = (
  none_brought p.home.hosts (wants p) p.plan.host before.hosts
      (alike_then p.home.hosts old.hosts before.hosts p.plan.host alike shows.0),
  none_brought p.home.hosts (wants p) p.plan.host next.hosts (alike_then p.home.hosts old.hosts next.hosts p.plan.host alike shows.1),
)

was_added : (p : Course) (asked : Event) (answer : Answer) (more : List Step) → asked ≡ E.AddHost p.plan.host p.plan.rules
    → Before p (Home (asked, Ok answer) ∷ more) → Before p more
was_added p asked answer more is b =
    let a = added b.work.office b.work.names b.work.faults p.plan.host p.plan.rules answer (calls_in more) p.last p.last_faults
    (subst (λ (event : Event). Leads (Running b.work.office b.work.names) b.work.faults ((event, Ok answer) ∷ calls_in more) p.last p.last_faults)
    is b.work.leads) in
    record {
      work = record { office = a.after; names = a.names; faults = a.faults; sound = a.sound; leads = a.rest };
      alike = alike_then p.home.hosts b.work.office.hosts a.after.hosts p.plan.host b.alike a.alike;
      own = b.own;
      alone = b.alone;
      begins = b.begins;
    }

was_refused : (p : Course) (asked : Event) (refusal : Refusal) (more : List Step) → asked ≡ E.AddHost p.plan.host p.plan.rules
    → Before p (Home (asked, Err refusal) ∷ more) → Ends p more
was_refused p asked refusal more is b =
    let a = add_refused b.work.office b.work.names b.work.faults p.plan.host p.plan.rules refusal (calls_in more) p.last p.last_faults b.work.sound
    (subst (λ (event : Event). Leads (Running b.work.office b.work.names) b.work.faults ((event, Err refusal) ∷ calls_in more) p.last p.last_faults)
    is b.work.leads) in
    record {
      state = a.state;
      faults = a.faults;
      block = [];
      brings = shows_bring p b.work.office a.state b.alike a.shows;
      none = tt;
      leads = a.rest;
    }

pub adding_step : (p : Course) (step : Step) (more : List Step) → due p.plan Adding ≡ Some (due_in step) → Before p (step ∷ more)
    → Stands p (after Adding step) more
adding_step p (Home (asked, Ok answer)) more d b = was_added p asked answer more (calls_are _ asked d) b
adding_step p (Home (asked, Err refusal)) more d b = record { ends = was_refused p asked refusal more (calls_are _ asked d) b; well = tt }
adding_step p step more d b = absurd (cc)

-- ---- the other server lists the backups

-- another step with the same calls at home
pub before_on : (p : Course) (steps more : List Step) → calls_in steps ≡ calls_in more → Before p steps → AtWork p [] more
before_on p steps more same b = record {
  office = b.work.office;
  names = b.work.names;
  faults = b.work.faults;
  sound = b.work.sound;
  leads = subst (λ (calls : List Call). Leads (Running b.work.office b.work.names) b.work.faults calls p.last p.last_faults) same b.work.leads;
}

wants_from : (p : Course) (there : Host) (next : ℕ) → host_named p.first.hosts p.plan.host ≡ Some there → next_in p.home.hosts p.plan.host ≡ next
    → wants p ≡ shows_of (filter (λ (backup : Backup). nat_le next backup.line.number) there.backups)
wants_from p there next is same =
    ap (λ (n : ℕ). filter (λ (shown : Shown). nat_le n shown.number) (shown_in p.first.hosts p.plan.host)) same
    ∙ ap (filter (λ (shown : Shown). nat_le next shown.number)) (shown_there p.first.hosts p.plan.host there is)
    ∙ filter_made (λ (shown : Shown). nat_le next shown.number) shown_of there.backups

lines_from : (there : Host) (lines : List Line) (next : ℕ) → lines_of there.backups ≡ lines
    → new_lines next lines ≡ lines_of (filter (λ (backup : Backup). nat_le next backup.line.number) there.backups)
lines_from there lines next are =
    ap (new_lines next) (sym are) ∙ filter_made (λ (line : Line). nat_le next line.number) (λ (backup : Backup). backup.line) there.backups

-- the listing was heard
was_listed : (p : Course) (own : List Line) (next : ℕ) (there : Listing) (more : List Step) → Compares p own next (Lists (Ok there) ∷ more)
    → InBringing p (base_in own there.lines) (new_lines next there.lines) 0 more
unfolding before_on
was_listed p own next there more c =
    let host = p.plan.host in
    let b = c.before in
    let m = begun p.marked (listing_call host there) (heard_in host more) b.own b.alone (b.begins (listing_call host there) (heard_in host more) refl) in
    let a = answered p.first p.there p.there_faults (E.Backups host) (A.Backups there.lines there.next there.dump) (all_in m.rest)
    (last_state (Running p.first p.there) p.entries) (last_faults p.there_faults p.entries)
    (record { entries = p.entries; legal = p.legal; calls_are = sym (ap all_in m.are) ∙ p.calls; state_is = refl; faults_is = refl }) in
    let l = listed p.first host there.lines there.next there.dump a.after a.carried in
    let mine = c.listed in
    let next_is : next_in p.home.hosts host ≡ next =
    sym b.alike.next ∙ next_there b.work.office.hosts host mine.host mine.is_host ∙ mine.next_is in
    record {
      there = l.host;
      hears = record {
        listing = there;
        is_there = l.is_host;
        lines_are = l.lines_are;
        between = [];
        rest = m.rest;
        are = m.are;
        own = m.own_is;
        alone = m.alone;
      };
      brought = record {
        work = before_on p (Lists (Ok there) ∷ more) more refl b;
        own = mine.host;
        is_own = mine.is_host;
        brought = [];
        left = filter (λ (backup : Backup). nat_le next backup.line.number) l.host.backups;
        shown = b.alike.shown ∙ sym (append-nil (shown_in p.home.hosts host));
        others = b.alike.others;
        wants_are = wants_from p l.host next l.is_host next_is;
        lines_are = lines_from l.host there.lines next l.lines_are;
        among = AtEach-filter (Among l.host.backups) (λ (backup : Backup). nat_le next backup.line.number) l.host.backups (AtEach-all l.host.backups);
        count = refl;
        base = subst (λ (lines : List Line). IsBase (base_in own lines) mine.host.backups l.host.backups) l.lines_are
            (subst (λ (lines : List Line). IsBase (base_in lines (lines_of l.host.backups)) mine.host.backups l.host.backups) mine.lines_are
            (base_common b.work.office.hosts p.first.hosts host mine.host l.host mine.is_host l.is_host
            (λ own there at_own at_there. p.replica own there
            (at_own.0, ap (λ (xs : List Shown). slice_get xs at_own.0) (sym b.alike.shown) ∙ at_own.1) at_there)));
      };
    }

pub comparing_step : (p : Course) (own : List Line) (next : ℕ) (step : Step) (more : List Step) → due p.plan (Comparing own next) ≡ Some (due_in step)
    → Compares p own next (step ∷ more) → Stands p (after (Comparing own next) step) more
comparing_step p own next (Lists (Ok there)) more d c = was_listed p own next there more c
comparing_step p own next (Lists (Err fault)) more d c =
    let b = c.before in
    let ends : Ends p more = record {
      state = Running b.work.office b.work.names;
      faults = b.work.faults;
      block = [];
      brings = none_brought p.home.hosts (wants p) p.plan.host b.work.office.hosts b.alike;
      none = tt;
      leads = b.work.leads;
    } in
    record { ends = ends; well = not_well p fault ends.state }
comparing_step p own next step more d c = absurd (cc)
