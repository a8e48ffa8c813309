-- A pull ends with PeerForeign by what is no answer, or at its bound of frames.
use Rattle.std.specs.Prelude.{◌≡◌, ℕ, Bool, true, false, if◌then◌else◌, List, [], ◌∷◌, ◌++◌, Option, Some, None, Ok, Err, ◌⊎◌}
use Rattle.std.proofs.Common.{refl, sym, ◌∙◌, subst, inl, inr}
use Rattle.attr_records.specs.Items.{Tree}
use Rattle.receipts.specs.declared.session.SessionName.{SessionName}
use Rattle.backup_rules.specs.declared.lines.Line.{Line}
use Rattle.tree_frames.specs.declared.nodes.Frame.{Frame}
use Rattle.office_model.specs.declared.answer.Answer.TheVariants as A
use Rattle.office_model.specs.declared.refusal.Refusal.{Refusal}
use Rattle.peer_exchange.specs.declared.fault.PeerFault.{PeerFault}
use Rattle.peer_exchange.specs.declared.fault.PeerFault.TheVariants as F
use Rattle.frame_puts.specs.declared.laying.Laying.{Laying}
use Rattle.frame_puts.specs.declared.laying.Laying.TheVariants.{Nothing, Small, Large, Ended}
use Rattle.frame_puts.specs.Steps.{Step as FrameStep, frame_step}
use Rattle.frame_puts.specs.Runs.{Fits}
use Rattle.frame_puts.specs.RunLaws.{fits_tree, fits_next}
use Rattle.restore_histories.specs.RunLaws.{run_begins}
use Rattle.adopted_dumps.specs.Adopted.{base_of}
use Rattle.pull_work.specs.declared.ends.PullEnd.{PullEnd}
use Rattle.pull_work.specs.declared.ends.PullEnd.TheVariants.{Done, Refused, PeerForeign, Memory}
use Rattle.pull_work.specs.Steps.{Step, Home, Lists, Opens, Reads, Closes}
use Rattle.pull_work.specs.Script.{Job, Intake, Phase, Asking, Adding, AskingAgain, Comparing, Bringing, Opening, Reading, Taking, Closing, Adopting, Aborting, Over, kind_for, is_no_host, end_by, after, after_asking, after_adding, after_asking_again, after_comparing, after_bringing, after_opening, after_reading, after_closing, after_adopting, after_aborting, taken, stopped}
use Rattle.pull_work.specs.Runs.{Turn, one, laid, refused, foreign, endless, complete, lacking, Taken, AreTurns, steps_of}
use Rattle.replicas.specs.RunLaws.{run_of}
use Rattle.replicas.specs.Courses.{Course, InReading, Stands}
use Rattle.replicas.specs.ReplicaLaws.{turned, course, stands_first}
use Rattle.replicas.specs.Foreign.{EndsForeign, IsForeign, SaysForeign, IsSpent, ReadsAll, ForeignIsRead}

-- ---- a frame that the other server gave fits

none_foreign : (p : Course) (intake : Intake) (frame : Frame) (frames : List Frame) (steps : List Step)
    → InReading p intake frames (frames ++ frame ∷ []) steps → ((stage : ℕ) → frame_step intake.dump intake.laying stage frame ≡ None) → ⊥
none_foreign p intake frame frames steps r none =
    let from : Option Tree = base_of (kind_for intake.job.base) r.job_is.own.backups in
    let tree : Tree = r.job_is.backup.tree in
    let w = run_begins from tree frames frame
    (run_of p r.there intake.job intake.restore (frames ++ frame ∷ []) steps steps r.block r.opened r.job_is) r.no_end in
    let fits : Fits intake.dump Nothing (frames ++ frame ∷ w.0) =
    subst (λ (fs : List Frame). Fits intake.dump Nothing fs) w.1 (fits_tree intake.dump from tree) in
    let step = fits_next intake.dump Nothing intake.laying frames frame w.0 r.lain.laid r.lain.lays fits 0 in
    some_none step.0 (sym step.1 ∙ none 0)
  where
    some_none : (step : FrameStep) → (let made : Option FrameStep = Some step in made ≡ None) → ⊥
    some_none step e = cc

-- ---- a step behind which it ends so

by_fault : (fault : PeerFault) → end_by fault ≡ PeerForeign → fault ≡ F.Foreign
by_fault (F.Refused status) e = absurd (cc)
by_fault F.Foreign e = refl
by_fault F.Link e = absurd (cc)
by_fault F.Memory e = absurd (cc)

not_refused : (refusal : Refusal) → Refused refusal ≡ PeerForeign → ⊥
not_refused refusal e = cc

asked : (missing : Bool) (refusal : Refusal) → EndsForeign (if missing then Adding else Over (Refused refusal)) → ⊥
asked true refusal ends = ends
asked false refusal ends = not_refused refusal ends

asking_foreign : (step : Step) → EndsForeign (after_asking step) → ⊥
asking_foreign (Home (event, Ok (A.Backups lines next dump))) ends = ends
asking_foreign (Home (event, Ok answer)) ends = ends
asking_foreign (Home (event, Err refusal)) ends = asked (is_no_host refusal) refusal ends
asking_foreign step ends = ends

adding_foreign : (step : Step) → EndsForeign (after_adding step) → ⊥
adding_foreign (Home (event, Ok answer)) ends = ends
adding_foreign (Home (event, Err refusal)) ends = not_refused refusal ends
adding_foreign step ends = ends

asking_again_foreign : (step : Step) → EndsForeign (after_asking_again step) → ⊥
asking_again_foreign (Home (event, Ok (A.Backups lines next dump))) ends = ends
asking_again_foreign (Home (event, Ok answer)) ends = ends
asking_again_foreign (Home (event, Err refusal)) ends = not_refused refusal ends
asking_again_foreign step ends = ends

comparing_foreign : (own : List Line) (next : ℕ) (step : Step) → EndsForeign (after_comparing own next step) → IsForeign step
comparing_foreign own next (Lists (Ok there)) ends = absurd ends
comparing_foreign own next (Lists (Err fault)) ends = by_fault fault ends
comparing_foreign own next step ends = absurd ends

bringing_foreign : (newest : Option ℕ) (line : Line) (left : List Line) (done : ℕ) (step : Step)
    → EndsForeign (after_bringing newest line left done step) → IsForeign step
bringing_foreign newest line left done (Opens number base (Ok restore)) ends = absurd ends
bringing_foreign newest line left done (Opens number base (Err fault)) ends = by_fault fault ends
bringing_foreign newest line left done step ends = absurd ends

opening_foreign : (job : Job) (restore : SessionName) (step : Step) → EndsForeign (after_opening job restore step) → ⊥
opening_foreign job restore (Home (event, Ok (A.Dump dump))) ends = ends
opening_foreign job restore (Home (event, Ok (A.Already number))) ends = cc
opening_foreign job restore (Home (event, Ok answer)) ends = ends
opening_foreign job restore (Home (event, Err refusal)) ends = not_refused refusal ends
opening_foreign job restore step ends = ends

reading_foreign : (intake : Intake) (step : Step) → EndsForeign (after_reading intake step) → IsForeign step
reading_foreign intake (Reads restore (Ok frame)) ends = absurd ends
reading_foreign intake (Reads restore (Err fault)) ends = by_fault fault ends
reading_foreign intake step ends = absurd ends

closing_foreign : (job : Job) (restore dump : SessionName) (step : Step) → EndsForeign (after_closing job restore dump step) → IsForeign step
closing_foreign job restore dump (Closes closed (Ok done)) ends = absurd ends
closing_foreign job restore dump (Closes closed (Err fault)) ends = by_fault fault ends
closing_foreign job restore dump step ends = absurd ends

adopting_foreign : (job : Job) (dump : SessionName) (step : Step) → EndsForeign (after_adopting job dump step) → ⊥
adopting_foreign job dump (Home (event, Ok answer)) ends = ends
adopting_foreign job dump (Home (event, Err refusal)) ends = not_refused refusal ends
adopting_foreign job dump step ends = ends

aborting_foreign : (dump : SessionName) (end : PullEnd) (step : Step) → EndsForeign (after_aborting dump end step) → end ≡ PeerForeign
aborting_foreign dump end (Home call) ends = ends
aborting_foreign dump end step ends = ends

step_foreign : (old : Phase) (step : Step) → EndsForeign (after old step) → EndsForeign old ⊎ IsForeign step
step_foreign Asking step ends = inl (asking_foreign step ends)
step_foreign Adding step ends = inl (adding_foreign step ends)
step_foreign AskingAgain step ends = inl (asking_again_foreign step ends)
step_foreign (Comparing own next) step ends = inr (comparing_foreign own next step ends)
step_foreign (Bringing newest [] done) step ends = inl ends
step_foreign (Bringing newest (line ∷ lines) done) step ends = inr (bringing_foreign newest line lines done step ends)
step_foreign (Opening job restore) step ends = inl (opening_foreign job restore step ends)
step_foreign (Reading intake) step ends = inr (reading_foreign intake step ends)
step_foreign (Taking intake frame) step ends = inl ends
step_foreign (Closing job restore dump) step ends = inr (closing_foreign job restore dump step ends)
step_foreign (Adopting job dump) step ends = inl (adopting_foreign job dump step ends)
step_foreign (Aborting dump end) step ends = inl (aborting_foreign dump end step ends)
step_foreign (Over end) step ends = inl ends

-- ---- a turn behind which it ends so

taken_foreign : (intake : Intake) (laying : Laying) → EndsForeign (taken intake laying) → ⊥
taken_foreign intake Nothing ends = ends
taken_foreign intake (Small file) ends = ends
taken_foreign intake (Large file) ends = ends
taken_foreign intake Ended ends = ends

lacking_foreign : (old : Phase) → EndsForeign (stopped old Memory) → EndsForeign old
lacking_foreign (Reading intake) ends = cc
lacking_foreign (Taking intake frame) ends = cc
lacking_foreign (Closing job restore dump) ends = absurd (cc)
lacking_foreign (Adopting job dump) ends = absurd (cc)
lacking_foreign (Aborting dump end) ends = ends
lacking_foreign phase ends = absurd (cc)

-- it did so before, or by one of these steps, or at the bound before them, or between them
data Why (old : Phase) (steps : List Step) (turns : List Taken) : Type 0 where
  ended : EndsForeign old → Why old steps turns
  spent : IsSpent old → Why old steps turns
  said : SaysForeign steps → Why old steps turns
  read : ReadsAll turns → Why old steps turns

why_step : (old : Phase) (step : Step) (steps : List Step) → steps ≡ step ∷ [] → EndsForeign old ⊎ IsForeign step → Why old steps []
why_step old step steps are (inl ends) = ended ends
why_step old step steps are (inr says) = said (subst SaysForeign (sym are) (inl says))

turn_foreign : (p : Course) (old new : Phase) (steps more : List Step) → Turn p.plan old steps new → Stands p old (steps ++ more)
    → EndsForeign new → Why old steps []
turn_foreign p old new steps more (one step steps_are is_due new_is) s ends =
    why_step old step steps steps_are (step_foreign old step (subst EndsForeign new_is ends))
turn_foreign p old new steps more (laid intake frame stage made old_is is_step steps_are new_is) s ends =
    absurd (taken_foreign intake made.laying (subst EndsForeign new_is ends))
turn_foreign p old new steps more (refused intake frame stage made done call rest refusal old_is is_step calls_are steps_are new_is) s ends =
    absurd (not_refused refusal (subst EndsForeign new_is ends))
turn_foreign p old new steps more (foreign intake frame old_is none steps_are new_is) s ends =
    let r = subst (λ (phase : Phase). Stands p phase (steps ++ more)) old_is s in
    absurd (none_foreign p intake frame r.0 (steps ++ more) r.1 none)
turn_foreign p old new steps more (endless intake old_is is_spent steps_are new_is) s ends = spent (subst IsSpent (sym old_is) is_spent)
turn_foreign p old new steps more (complete newest done old_is steps_are new_is) s ends =
    let e : Done done ≡ PeerForeign = subst EndsForeign new_is ends in absurd (cc)
turn_foreign p old new steps more (lacking steps_are new_is) s ends = ended (lacking_foreign old (subst EndsForeign new_is ends))

says_first : (xs ys : List Step) → SaysForeign xs → SaysForeign (xs ++ ys)
says_first [] ys says = absurd says
says_first (x ∷ xs) ys (inl says) = inl says
says_first (x ∷ xs) ys (inr says) = inr (says_first xs ys says)

says_behind : (xs ys : List Step) → SaysForeign ys → SaysForeign (xs ++ ys)
says_behind [] ys says = says
says_behind (x ∷ xs) ys says = inr (says_behind xs ys says)

why_first : (old : Phase) (turn : Taken) (turns : List Taken) → Why old turn.steps [] → Why old (steps_of (turn ∷ turns)) (turn ∷ turns)
why_first old turn turns (ended ends) = ended ends
why_first old turn turns (spent is) = spent is
why_first old turn turns (said says) = said (says_first turn.steps (steps_of turns) says)
why_first old turn turns (read all) = absurd all

why_behind : (old : Phase) (turn : Taken) (turns : List Taken) → (EndsForeign turn.to → Why old turn.steps [])
    → Why turn.to (steps_of turns) turns → Why old (steps_of (turn ∷ turns)) (turn ∷ turns)
why_behind old turn turns before (ended ends) = why_first old turn turns (before ends)
why_behind old turn turns before (spent is) = read (inl is)
why_behind old turn turns before (said says) = said (says_behind turn.steps (steps_of turns) says)
why_behind old turn turns before (read all) = read (inr all)

all_foreign : (p : Course) (turns : List Taken) (old new : Phase) → AreTurns p.plan old turns new → Stands p old (steps_of turns)
    → EndsForeign new → Why old (steps_of turns) turns
all_foreign p [] old new are s ends = ended (subst EndsForeign are ends)
all_foreign p (turn ∷ turns) old new are s ends =
    why_behind old turn turns (turn_foreign p old turn.to turn.steps (steps_of turns) are.0 s)
    (all_foreign p turns turn.to new are.1 (turned p old turn.to turn.steps (steps_of turns) are.0 s) ends)

of_asking : (steps : List Step) (turns : List Taken) → Why Asking steps turns → SaysForeign steps ⊎ ReadsAll turns
of_asking steps turns (ended ends) = absurd ends
of_asking steps turns (spent is) = absurd is
of_asking steps turns (said says) = inl says
of_asking steps turns (read all) = inr all

pub foreign_is_read : ForeignIsRead
foreign_is_read plan home first phase state' r ends =
    of_asking (steps_of r.turns) r.turns
    (all_foreign (course plan home first phase state' r) r.turns Asking phase r.are (stands_first plan home first phase state' r) ends)
