-- A pull, turn by turn, and what it brought.
use Rattle.std.specs.Prelude.{◌≡◌, ℕ, nat_le, List, [], ◌∷◌, ◌++◌, map, take, Option, Some, None, Err, slice_get}
use Rattle.std.specs.Option.{option_map_or}
use Rattle.std.proofs.Common.{refl, sym, ap, ◌∙◌, subst}
use Rattle.office_model.specs.Places.{AtEach}
use Rattle.office_model.specs.UsedNames.{Among}
use Rattle.office_model.specs.Office.{Office, Host, Backup, AreHosts}
use Rattle.office_model.specs.Step.{State, Running, Halted}
use Rattle.restore_histories.specs.Listed.{Shown, shown_of}
use Rattle.adopted_dumps.specs.Adopted.{shows_of, host_named}
use Rattle.pull_work.specs.declared.plan.Plan.{Plan}
use Rattle.pull_work.specs.declared.ends.PullEnd.TheVariants.{Done}
use Rattle.pull_work.specs.Steps.{Step, Home}
use Rattle.pull_work.specs.Script.{Phase, Asking, Adding, AskingAgain, Comparing, Bringing, Opening, Reading, Taking, Closing, Adopting, Aborting, Over, due, due_in, after}
use Rattle.pull_work.specs.Runs.{Turn, one, laid, refused, foreign, endless, complete, lacking, Taken, AreTurns, steps_of}
use Rattle.replicas.specs.Replicas.{shown_in, next_in, IsReplica, wanted, Brings, BringsIn, StaysReplica, Pulls, PullBrings, DoneBringsAll}
use Rattle.replicas.specs.ListLaws.{made_of, AtEach-filter, AtEach-take, AtEach-append}
use Rattle.replicas.specs.HomeLaws.{alike_itself, one_backup}
use Rattle.replicas.specs.RunLaws.{are_numbered}
use Rattle.replicas.specs.Courses.{Course, Stands}
use Rattle.replicas.specs.EndLaws.{reading_ends, ends_of, lacks, last_brings, last_all}
use Rattle.replicas.specs.HomeTurnLaws.{asking_step, adding_step, asking_again_step, comparing_step}
use Rattle.replicas.specs.JobTurnLaws.{bringing_step, all_brought, opening_step, reading_step, closing_step}
use Rattle.replicas.specs.DumpTurnLaws.{taken_by, call_refused, adopting_step, aborting_step}

-- ---- a turn

one_step : (p : Course) (old : Phase) (step : Step) (more : List Step) → due p.plan old ≡ Some (due_in step) → Stands p old (step ∷ more)
    → Stands p (after old step) more
one_step p Asking step more d s = asking_step p step more d s
one_step p Adding step more d s = adding_step p step more d s
one_step p AskingAgain step more d s = asking_again_step p step more d s
one_step p (Comparing own next) step more d s = comparing_step p own next step more d s
one_step p (Bringing newest lines done) step more d s = bringing_step p newest lines done step more d s
one_step p (Opening job restore) step more d s = opening_step p job restore step more d s
one_step p (Reading intake) step more d s = reading_step p intake step more d s
one_step p (Taking intake frame) step more d s = absurd (cc)
one_step p (Closing job restore dump) step more d s = closing_step p job restore dump step more d s
one_step p (Adopting job dump) step more d s = adopting_step p job dump step more d s
one_step p (Aborting dump end) step more d s = aborting_step p dump end step more d s
one_step p (Over end) step more d s = absurd (cc)

-- where the phase and the steps of a turn are these
moved : (p : Course) (old old' : Phase) (steps steps' more : List Step) → old ≡ old' → steps ≡ steps' → Stands p old (steps ++ more)
    → Stands p old' (steps' ++ more)
moved p old old' steps steps' more is are s =
    subst (λ (phase : Phase). Stands p phase (steps' ++ more)) is (subst (λ (xs : List Step). Stands p old (xs ++ more)) are s)

pub turned : (p : Course) (old new : Phase) (steps more : List Step) → Turn p.plan old steps new → Stands p old (steps ++ more) → Stands p new more
turned p old new steps more (one step steps_are is_due new_is) s =
    subst (λ (phase : Phase). Stands p phase more) (sym new_is)
    (one_step p old step more is_due (moved p old old steps (step ∷ []) more refl steps_are s))
turned p old new steps more (laid intake frame stage made old_is is_step steps_are new_is) s =
    let r = moved p old (Taking intake frame) steps (map Home made.calls) more old_is steps_are s in
    subst (λ (phase : Phase). Stands p phase more) (sym new_is) (taken_by p intake frame r.0 stage made more is_step r.1 made.laying refl)
turned p old new steps more (refused intake frame stage made done call rest refusal old_is is_step calls_are steps_are new_is) s =
    let r = moved p old (Taking intake frame) steps (map Home (done ++ (call.0, Err refusal) ∷ [])) more old_is steps_are s in
    subst (λ (phase : Phase). Stands p phase more) (sym new_is)
    (call_refused p intake frame r.0 stage made done call rest refusal more is_step calls_are r.1)
turned p old new steps more (foreign intake frame old_is none steps_are new_is) s =
    let r = moved p old (Taking intake frame) steps [] more old_is steps_are s in
    subst (λ (phase : Phase). Stands p phase more) (sym new_is)
    (record { ends = reading_ends p intake r.0 (r.0 ++ frame ∷ []) more r.1; well = tt })
turned p old new steps more (endless intake old_is spent steps_are new_is) s =
    let r = moved p old (Reading intake) steps [] more old_is steps_are s in
    subst (λ (phase : Phase). Stands p phase more) (sym new_is) (record { ends = reading_ends p intake r.0 r.0 more r.1; well = tt })
turned p old new steps more (complete newest done old_is steps_are new_is) s =
    subst (λ (phase : Phase). Stands p phase more) (sym new_is)
    (all_brought p newest done more (moved p old (Bringing newest [] done) steps [] more old_is steps_are s))
turned p old new steps more (lacking steps_are new_is) s =
    subst (λ (phase : Phase). Stands p phase more) (sym new_is) (lacks p old more (moved p old old steps [] more refl steps_are s))

all_turned : (p : Course) (turns : List Taken) (old new : Phase) → AreTurns p.plan old turns new → Stands p old (steps_of turns) → Stands p new []
all_turned p [] old new are s = subst (λ (phase : Phase). Stands p phase []) (sym are) s
all_turned p (turn ∷ turns) old new are s =
    all_turned p turns turn.to new are.1 (turned p old turn.to turn.steps (steps_of turns) are.0 s)

-- ---- a pull

abbrev pub course : (plan : Plan) (home first : Office) (phase : Phase) (state' : State) → Pulls plan home first phase state' → Course
course plan home first phase state' r = record {
  plan = plan;
  home = home;
  first = first;
  there = r.there;
  last = state';
  last_faults = r.faults';
  there_faults = r.heard.faults;
  entries = r.heard.entries;
  marked = r.heard.marked;
  sound_there = r.heard.sound;
  legal = r.heard.legal;
  calls = r.heard.calls;
  replica = r.replica;
}

pub stands_first : (plan : Plan) (home first : Office) (phase : Phase) (state' : State) → (r : Pulls plan home first phase state')
    → Stands (course plan home first phase state' r) Asking (steps_of r.turns)
stands_first plan home first phase state' r = record {
  work = record { office = home; names = r.names; faults = r.faults; sound = r.sound; leads = r.leads };
  alike = alike_itself home.hosts plan.host;
  own = r.heard.own;
  alone = r.heard.alone;
  begins = r.heard.begins;
}

stands_last : (plan : Plan) (home first : Office) (phase : Phase) (state' : State) → (r : Pulls plan home first phase state')
    → Stands (course plan home first phase state' r) phase []
stands_last plan home first phase state' r =
    all_turned (course plan home first phase state' r) r.turns Asking phase r.are (stands_first plan home first phase state' r)

-- ---- a replica stays one

-- what is shown there of this one's number, times and kind has its tree
abbrev AgreesIn : List Host → List ℕ → Shown → Type 0
AgreesIn first host own =
    (there : Shown) → Among (shown_in first host) there → own.number ≡ there.number → own.start ≡ there.start → own.end ≡ there.end
    → own.kind ≡ there.kind → own.tree ≡ there.tree

own_agree : (first : List Host) (host : List ℕ) → AreHosts first → AtEach (AgreesIn first host) (shown_in first host)
own_agree first host are i own at_own there at_there number start end kind = by (host_named first host) refl at_own at_there.1
  where
    by : (found : Option Host) → host_named first host ≡ found
        → slice_get (option_map_or (λ (h : Host). shows_of h.backups) found []) i ≡ Some own
        → slice_get (option_map_or (λ (h : Host). shows_of h.backups) found []) at_there.0 ≡ Some there → own.tree ≡ there.tree
    by None is a b = absurd (cc)
    by (Some h) is a b =
        let v = made_of shown_of h.backups i own a in
        let w = made_of shown_of h.backups at_there.0 there b in
        let same : v.0 ≡ w.0 =
        one_backup h.next h.backups v.0 w.0 (are_numbered first host h are is) (i, v.1) (at_there.0, w.1)
        (ap (λ (s : Shown). s.number) v.2 ∙ number ∙ sym (ap (λ (s : Shown). s.number) w.2)) in
        ap (λ (s : Shown). s.tree) (sym v.2) ∙ ap (λ (backup : Backup). backup.tree) same ∙ ap (λ (s : Shown). s.tree) w.2

stays_replica : (old first new : List Host) (host : List ℕ) → AreHosts first → IsReplica old first host → Brings old (wanted old first host) host new
    → IsReplica new first host
stays_replica old first new host are replica b own there at_own at_there number start end kind =
    AtEach-append (AgreesIn first host) (shown_in old host) (take b.0 (wanted old first host))
    (λ i own at there at_there. replica own there (i, at) at_there)
    (AtEach-take (AgreesIn first host) (wanted old first host) b.0
    (AtEach-filter (AgreesIn first host) (λ (shown : Shown). nat_le (next_in old host) shown.number) (shown_in first host) (own_agree first host are)))
    at_own.0 own (ap (λ (xs : List Shown). slice_get xs at_own.0) (sym b.1) ∙ at_own.1) there at_there number start end kind

stays_in : (old first : List Host) (host : List ℕ) (state : State) → AreHosts first → IsReplica old first host
    → BringsIn old (wanted old first host) host state → StaysReplica first host state
stays_in old first host (Running office names) are replica b = stays_replica old first office.hosts host are replica b
stays_in old first host (Halted before next names) are replica b =
    (stays_replica old first before.hosts host are replica b.0, stays_replica old first next.hosts host are replica b.1)

-- ---- the theorem

pub pull_brings : PullBrings
pull_brings plan home first phase state' r =
    let p = course plan home first phase state' r in
    let b = last_brings p (ends_of p phase [] (stands_last plan home first phase state' r)) in
    (b, stays_in home.hosts first.hosts plan.host state' r.heard.sound.office.hosts r.replica b)

pub done_brings_all : DoneBringsAll
done_brings_all plan home first count state' r =
    let o = stands_last plan home first (Over (Done count)) state' r in
    (o.well.0, last_all (course plan home first (Over (Done count)) state' r) o.ends o.well.1)
