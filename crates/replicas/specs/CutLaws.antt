-- The turns of a pull up to some call, with another reply to that call.
use Rattle.std.specs.Prelude.{◌≡◌, ℕ, ◌==◌, Bool, true, false, if◌then◌else◌, List, [], ◌∷◌, ◌++◌, map, Some, None, Ok, Err, ◌⊎◌}
use Rattle.std.proofs.Common.{refl, sym, ap, ◌∙◌, subst, append_assoc, inl, inr}
use Rattle.std.proofs.lemmas.List.{append-nil}
use Rattle.tree_frames.specs.declared.nodes.Frame.{Frame}
use Rattle.office_model.specs.declared.event.Event.{Event}
use Rattle.office_model.specs.declared.event.Event.TheVariants as E
use Rattle.office_model.specs.declared.answer.Answer.TheVariants as A
use Rattle.office_model.specs.declared.refusal.Refusal.{Refusal}
use Rattle.office_model.specs.Meaning.{Reply, Same}
use Rattle.office_model.specs.Step.{Call, meaning_of}
use Rattle.frame_puts.specs.Steps.{Step as FrameStep, frame_step}
use Rattle.adopted_dumps.specs.Adopted.{IsPart}
use Rattle.pull_work.specs.declared.plan.Plan.{Plan}
use Rattle.pull_work.specs.declared.ends.PullEnd.{PullEnd}
use Rattle.pull_work.specs.declared.ends.PullEnd.TheVariants.{Refused, Memory}
use Rattle.pull_work.specs.Steps.{Step, Home, Lists, Opens, Reads, Closes, calls_in}
use Rattle.pull_work.specs.Script.{Intake, Phase, Asking, Adding, AskingAgain, Comparing, Bringing, Opening, Reading, Taking, Closing, Adopting, Aborting, Over, Calls, ReadsThere, frame_limit, due, due_in, after, stopped}
use Rattle.pull_work.specs.Runs.{Turn, one, laid, refused, foreign, endless, complete, lacking, Taken, AreTurns, steps_of}
use Rattle.replicas.specs.Replicas.{heard_in}
use Rattle.replicas.specs.ListLaws.{heads}
use Rattle.replicas.specs.FrameLaws.{AreParts, AreParts-back, frame_fine}
use Rattle.replicas.specs.HomeTurnLaws.{calls_are}

-- ---- calls and what was heard, of two parts

calls_in-append : (xs ys : List Step) → calls_in (xs ++ ys) ≡ calls_in xs ++ calls_in ys
calls_in-append [] ys = refl
calls_in-append (Home call ∷ xs) ys = ap (λ calls. call ∷ calls) (calls_in-append xs ys)
calls_in-append (Lists result ∷ xs) ys = calls_in-append xs ys
calls_in-append (Opens number base result ∷ xs) ys = calls_in-append xs ys
calls_in-append (Reads restore result ∷ xs) ys = calls_in-append xs ys
calls_in-append (Closes restore result ∷ xs) ys = calls_in-append xs ys

heard_in-append : (host : List ℕ) (xs ys : List Step) → heard_in host (xs ++ ys) ≡ heard_in host xs ++ heard_in host ys
heard_in-append host [] ys = refl
heard_in-append host (Home call ∷ xs) ys = heard_in-append host xs ys
heard_in-append host (Lists (Ok there) ∷ xs) ys =
    ap (λ calls. (E.Backups host, Ok (A.Backups there.lines there.next there.dump)) ∷ calls) (heard_in-append host xs ys)
heard_in-append host (Lists (Err fault) ∷ xs) ys = heard_in-append host xs ys
heard_in-append host (Opens number base (Ok restore) ∷ xs) ys =
    ap (λ calls. (E.OpenRead host number base, Ok (A.Restore restore)) ∷ calls) (heard_in-append host xs ys)
heard_in-append host (Opens number base (Err fault) ∷ xs) ys = heard_in-append host xs ys
heard_in-append host (Reads restore (Ok frame) ∷ xs) ys =
    ap (λ calls. (E.ReadNext restore, Ok (A.Next frame)) ∷ calls) (heard_in-append host xs ys)
heard_in-append host (Reads restore (Err fault) ∷ xs) ys = heard_in-append host xs ys
heard_in-append host (Closes restore (Ok done) ∷ xs) ys = ap (λ calls. (E.CloseRead restore, Ok A.Done) ∷ calls) (heard_in-append host xs ys)
heard_in-append host (Closes restore (Err fault) ∷ xs) ys = heard_in-append host xs ys

calls_all : (calls : List Call) → calls_in (map Home calls) ≡ calls
calls_all [] = refl
calls_all (call ∷ calls) = ap (λ cs. call ∷ cs) (calls_all calls)

heard_none : (host : List ℕ) (calls : List Call) → heard_in host (map Home calls) ≡ []
heard_none host [] = refl
heard_none host (call ∷ calls) = heard_none host calls

-- a call among those of two parts is in the first, or in the second
record InFirst (xs before : List Call) (call : Call) : Type 0 where
  pub rest : List Call
  pub are : xs ≡ before ++ call ∷ rest

record InSecond (xs ys before after : List Call) (call : Call) : Type 0 where
  pub since : List Call
  pub before_are : before ≡ xs ++ since
  pub are : ys ≡ since ++ call ∷ after

parted : (xs ys before after : List Call) (call : Call) → xs ++ ys ≡ before ++ call ∷ after
    → InFirst xs before call ⊎ InSecond xs ys before after call
parted [] ys before after call e = inr (record { since = before; before_are = refl; are = e })
parted (x ∷ xs) ys [] after call e =
    inl (record { rest = xs; are = ap (λ (c : Call). c ∷ xs) (heads x call (xs ++ ys) after e).0 })
parted (x ∷ xs) ys (b ∷ before) after call e =
    let w = heads x b (xs ++ ys) (before ++ call ∷ after) e in step w.0 (parted xs ys before after call w.1)
  where
    step : x ≡ b → InFirst xs before call ⊎ InSecond xs ys before after call
        → InFirst (x ∷ xs) (b ∷ before) call ⊎ InSecond (x ∷ xs) ys (b ∷ before) after call
    step is (inl f) =
        inl (record { rest = f.rest; are = ap (λ (calls : List Call). x ∷ calls) f.are ∙ ap (λ (c : Call). c ∷ (before ++ call ∷ f.rest)) is })
    step is (inr f) =
        inr (record {
          since = f.since;
          before_are = ap (λ (c : Call). c ∷ before) (sym is) ∙ ap (λ (calls : List Call). x ∷ calls) f.before_are;
          are = f.are;
        })

not_none : (before after : List Call) (call : Call) → [] ≡ before ++ call ∷ after → ⊥
not_none [] after call e = absurd (cc)
not_none (b ∷ before) after call e = absurd (cc)

-- of one call it is that one
record IsOnly (before : List Call) (only call : Call) : Type 0 where
  pub none_before : before ≡ []
  pub is : only ≡ call

only_one : (only : Call) (before after : List Call) (call : Call) → only ∷ [] ≡ before ++ call ∷ after → IsOnly before only call
only_one only [] after call e = record { none_before = refl; is = (heads only call [] after e).0 }
only_one only (b ∷ before) after call e = absurd (not_none before after call (heads only b [] (before ++ call ∷ after) e).1)

-- ---- turns up to a call

-- turns that call just these at home, and heard of the other server a beginning of what steps heard
pub record CutTo (plan : Plan) (old : Phase) (steps : List Step) (calls : List Call) : Type 0 where
  pub turns : List Taken
  pub to : Phase
  pub are : AreTurns plan old turns to
  pub calls_are : calls_in (steps_of turns) ≡ calls
  pub unheard : List Call
  pub heard : heard_in plan.host steps ≡ heard_in plan.host (steps_of turns) ++ unheard

-- a part may be refused in the place of its reply; any other call may have any reply
abbrev pub Cuts : Plan → Phase → List Step → List Call → Call → Type 0
Cuts plan old steps before call =
    (IsPart call.0 × ((refusal : Refusal) → CutTo plan old steps (before ++ (call.0, Err refusal) ∷ [])))
    ⊎ (((meaning_of call.0).renames ≡ Same) × ((reply : Reply) → CutTo plan old steps (before ++ (call.0, reply) ∷ [])))

-- ---- of one turn

-- a step that is due, with another reply
due_cut : (plan : Plan) (old : Phase) (steps : List Step) (event : Event) (reply : Reply) → due plan old ≡ Some (Calls event)
    → heard_in plan.host steps ≡ [] → CutTo plan old steps ((event, reply) ∷ [])
due_cut plan old steps event reply is_due none = record {
  turns = record { steps = Home (event, reply) ∷ []; to = after old (Home (event, reply)) } ∷ [];
  to = after old (Home (event, reply));
  are = (one (Home (event, reply)) refl is_due refl, refl);
  calls_are = refl;
  unheard = [];
  heard = none;
}

-- all that is due at home but adding and adopting are parts
due_part : (plan : Plan) (old : Phase) (event : Event) → due plan old ≡ Some (Calls event) → IsPart event ⊎ ((meaning_of event).renames ≡ Same)
due_part plan Asking event d = inl (subst IsPart (sym (calls_are _ event d)) tt)
due_part plan Adding event d = inr (ap (λ (e : Event). (meaning_of e).renames) (calls_are _ event d))
due_part plan AskingAgain event d = inl (subst IsPart (sym (calls_are _ event d)) tt)
due_part plan (Comparing own next) event d = absurd (cc)
due_part plan (Bringing newest [] done) event d = absurd (cc)
due_part plan (Bringing newest (line ∷ lines) done) event d = absurd (cc)
due_part plan (Opening job restore) event d = inl (subst IsPart (sym (calls_are _ event d)) tt)
due_part plan (Reading intake) event d = by (intake.read == frame_limit) d
  where
    by : (spent : Bool) → (if spent then None else Some (ReadsThere intake.restore)) ≡ Some (Calls event)
        → IsPart event ⊎ ((meaning_of event).renames ≡ Same)
    by true e = absurd (cc)
    by false e = absurd (cc)
due_part plan (Taking intake frame) event d = absurd (cc)
due_part plan (Closing job restore dump) event d = absurd (cc)
due_part plan (Adopting job dump) event d = inr (ap (λ (e : Event). (meaning_of e).renames) (calls_are _ event d))
due_part plan (Aborting dump end) event d = inl (subst IsPart (sym (calls_are _ event d)) tt)
due_part plan (Over end) event d = absurd (cc)

cut_before : (plan : Plan) (old : Phase) (steps : List Step) (before : List Call) (event : Event) (reply : Reply) → before ≡ []
    → CutTo plan old steps ((event, reply) ∷ []) → CutTo plan old steps (before ++ (event, reply) ∷ [])
cut_before plan old steps before event reply none c =
    subst (λ (calls : List Call). CutTo plan old steps (calls ++ (event, reply) ∷ [])) (sym none) c

step_cuts : (plan : Plan) (old : Phase) (step : Step) (before rest : List Call) (call : Call) → due plan old ≡ Some (due_in step)
    → calls_in (step ∷ []) ≡ before ++ call ∷ rest → Cuts plan old (step ∷ []) before call
step_cuts plan old (Home made) before rest call d e =
    let o = only_one made before rest call e in
    let event_is : made.0 ≡ call.0 = ap (λ (c : Call). c.0) o.is in
    let is_due : due plan old ≡ Some (Calls call.0) = d ∙ ap (λ (event : Event). Some (Calls event)) event_is in
    by o.none_before is_due (due_part plan old call.0 is_due)
  where
    by : before ≡ [] → due plan old ≡ Some (Calls call.0) → IsPart call.0 ⊎ ((meaning_of call.0).renames ≡ Same)
        → Cuts plan old (Home made ∷ []) before call
    by none is_due (inl part) =
        inl (
          part,
          λ refusal. cut_before plan old (Home made ∷ []) before call.0 (Err refusal) none
              (due_cut plan old (Home made ∷ []) call.0 (Err refusal) is_due refl),
        )
    by none is_due (inr same) =
        inr (
          same,
          λ reply. cut_before plan old (Home made ∷ []) before call.0 reply none
              (due_cut plan old (Home made ∷ []) call.0 reply is_due refl),
        )
step_cuts plan old (Lists result) before rest call d e = absurd (not_none before rest call e)
step_cuts plan old (Opens number base result) before rest call d e = absurd (not_none before rest call e)
step_cuts plan old (Reads restore result) before rest call d e = absurd (not_none before rest call e)
step_cuts plan old (Closes restore result) before rest call d e = absurd (not_none before rest call e)

-- a frame's calls, up to one of them
frame_cuts : (plan : Plan) (old : Phase) (steps : List Step) (intake : Intake) (frame : Frame) (stage : ℕ) (made : FrameStep)
    (before rest : List Call) (its call : Call) → old ≡ Taking intake frame → frame_step intake.dump intake.laying stage frame ≡ Some made
    → made.calls ≡ before ++ its ∷ rest → its.0 ≡ call.0 → heard_in plan.host steps ≡ [] → Cuts plan old steps before call
frame_cuts plan old steps intake frame stage made before rest its call old_is is_step calls_are event_is none =
    let parts : AreParts (before ++ its ∷ rest) = subst AreParts calls_are (frame_fine intake.dump intake.laying stage frame made is_step).1 in
    inl (
      subst IsPart event_is (AreParts-back before (its ∷ rest) parts).0,
      λ refusal.
          let calls : List Call = before ++ (its.0, Err refusal) ∷ [] in
          subst (λ (event : Event). CutTo plan old steps (before ++ (event, Err refusal) ∷ [])) event_is (record {
            turns = record { steps = map Home calls; to = Aborting intake.dump (Refused refusal) } ∷ [];
            to = Aborting intake.dump (Refused refusal);
            are = (refused intake frame stage made before its rest refusal old_is is_step calls_are refl refl, refl);
            calls_are = ap calls_in (append-nil (map Home calls)) ∙ calls_all calls;
            unheard = [];
            heard = none ∙ sym (append-nil (heard_in plan.host (map Home calls ++ []))
                ∙ ap (heard_in plan.host) (append-nil (map Home calls)) ∙ heard_none plan.host calls);
          }),
    )

-- where the steps are these
cuts_moved : (plan : Plan) (old : Phase) (steps steps' : List Step) (before : List Call) (call : Call) → steps ≡ steps'
    → Cuts plan old steps' before call → Cuts plan old steps before call
cuts_moved plan old steps steps' before call are c = subst (λ (xs : List Step). Cuts plan old xs before call) (sym are) c

turn_cuts : (plan : Plan) (old new : Phase) (steps : List Step) (before rest : List Call) (call : Call) → Turn plan old steps new
    → calls_in steps ≡ before ++ call ∷ rest → Cuts plan old steps before call
turn_cuts plan old new steps before rest call (one step steps_are is_due new_is) e =
    cuts_moved plan old steps (step ∷ []) before call steps_are
    (step_cuts plan old step before rest call is_due (sym (ap calls_in steps_are) ∙ e))
turn_cuts plan old new steps before rest call (laid intake frame stage made old_is is_step steps_are new_is) e =
    frame_cuts plan old steps intake frame stage made before rest call call old_is is_step
    (sym (calls_all made.calls) ∙ sym (ap calls_in steps_are) ∙ e) refl (ap (heard_in plan.host) steps_are ∙ heard_none plan.host made.calls)
turn_cuts plan old new steps before rest call (refused intake frame stage made done its left refusal old_is is_step calls_are steps_are new_is) e =
    by (parted done ((its.0, Err refusal) ∷ []) before rest call
    (sym (calls_all (done ++ (its.0, Err refusal) ∷ [])) ∙ sym (ap calls_in steps_are) ∙ e))
  where
    none : heard_in plan.host steps ≡ []
    none = ap (heard_in plan.host) steps_are ∙ heard_none plan.host (done ++ (its.0, Err refusal) ∷ [])

    by : InFirst done before call ⊎ InSecond done ((its.0, Err refusal) ∷ []) before rest call → Cuts plan old steps before call
    by (inl f) =
        frame_cuts plan old steps intake frame stage made before (f.rest ++ its ∷ left) call call old_is is_step
        (calls_are ∙ ap (λ (calls : List Call). calls ++ its ∷ left) f.are ∙ append_assoc before (call ∷ f.rest) (its ∷ left)) refl none
    by (inr f) =
        let o = only_one (its.0, Err refusal) f.since rest call f.are in
        let before_is : before ≡ done = f.before_are ∙ ap (λ (calls : List Call). done ++ calls) o.none_before ∙ append-nil done in
        frame_cuts plan old steps intake frame stage made before left its call old_is is_step
        (calls_are ∙ ap (λ (calls : List Call). calls ++ its ∷ left) (sym before_is)) (ap (λ (c : Call). c.0) o.is) none
turn_cuts plan old new steps before rest call (foreign intake frame old_is none steps_are new_is) e =
    absurd (not_none before rest call (sym (ap calls_in steps_are) ∙ e))
turn_cuts plan old new steps before rest call (endless intake old_is spent steps_are new_is) e =
    absurd (not_none before rest call (sym (ap calls_in steps_are) ∙ e))
turn_cuts plan old new steps before rest call (complete newest done old_is steps_are new_is) e =
    absurd (not_none before rest call (sym (ap calls_in steps_are) ∙ e))
turn_cuts plan old new steps before rest call (lacking steps_are new_is) e =
    absurd (not_none before rest call (sym (ap calls_in steps_are) ∙ e))

-- ---- of more

-- steps behind those that were cut are unheard
cut_longer : (plan : Plan) (old : Phase) (steps more : List Step) (calls : List Call) → CutTo plan old steps calls
    → CutTo plan old (steps ++ more) calls
cut_longer plan old steps more calls c = record {
  turns = c.turns;
  to = c.to;
  are = c.are;
  calls_are = c.calls_are;
  unheard = c.unheard ++ heard_in plan.host more;
  heard = heard_in-append plan.host steps more ∙ ap (λ (cs : List Call). cs ++ heard_in plan.host more) c.heard
      ∙ append_assoc (heard_in plan.host (steps_of c.turns)) c.unheard (heard_in plan.host more);
}

cuts_longer : (plan : Plan) (old : Phase) (steps more : List Step) (before : List Call) (call : Call) → Cuts plan old steps before call
    → Cuts plan old (steps ++ more) before call
cuts_longer plan old steps more before call (inl c) =
    inl (c.0, λ refusal. cut_longer plan old steps more (before ++ (call.0, Err refusal) ∷ []) (c.1 refusal))
cuts_longer plan old steps more before call (inr c) =
    inr (c.0, λ reply. cut_longer plan old steps more (before ++ (call.0, reply) ∷ []) (c.1 reply))

-- a turn before them
cut_behind : (plan : Plan) (old : Phase) (turn : Taken) (steps : List Step) (before since : List Call) (last : Call)
    → Turn plan old turn.steps turn.to → before ≡ calls_in turn.steps ++ since → CutTo plan turn.to steps (since ++ last ∷ [])
    → CutTo plan old (turn.steps ++ steps) (before ++ last ∷ [])
cut_behind plan old turn steps before since last is before_are c = record {
  turns = turn ∷ c.turns;
  to = c.to;
  are = (is, c.are);
  calls_are = calls_in-append turn.steps (steps_of c.turns) ∙ ap (λ (cs : List Call). calls_in turn.steps ++ cs) c.calls_are
      ∙ sym (append_assoc (calls_in turn.steps) since (last ∷ []))
      ∙ ap (λ (cs : List Call). cs ++ last ∷ []) (sym before_are);
  unheard = c.unheard;
  heard = heard_in-append plan.host turn.steps steps ∙ ap (λ (cs : List Call). heard_in plan.host turn.steps ++ cs) c.heard
      ∙ sym (append_assoc (heard_in plan.host turn.steps) (heard_in plan.host (steps_of c.turns)) c.unheard)
      ∙ ap (λ (cs : List Call). cs ++ c.unheard) (sym (heard_in-append plan.host turn.steps (steps_of c.turns)));
}

cuts_behind : (plan : Plan) (old : Phase) (turn : Taken) (steps : List Step) (before since : List Call) (call : Call)
    → Turn plan old turn.steps turn.to → before ≡ calls_in turn.steps ++ since → Cuts plan turn.to steps since call
    → Cuts plan old (turn.steps ++ steps) before call
cuts_behind plan old turn steps before since call is before_are (inl c) =
    inl (c.0, λ refusal. cut_behind plan old turn steps before since (call.0, Err refusal) is before_are (c.1 refusal))
cuts_behind plan old turn steps before since call is before_are (inr c) =
    inr (c.0, λ reply. cut_behind plan old turn steps before since (call.0, reply) is before_are (c.1 reply))

-- turns are cut at each of their calls
pub turns_cut : (plan : Plan) (turns : List Taken) (old new : Phase) (before after : List Call) (call : Call) → AreTurns plan old turns new
    → calls_in (steps_of turns) ≡ before ++ call ∷ after → Cuts plan old (steps_of turns) before call
turns_cut plan [] old new before after call are e = absurd (not_none before after call e)
turns_cut plan (turn ∷ turns) old new before after call are e =
    by (parted (calls_in turn.steps) (calls_in (steps_of turns)) before after call (sym (calls_in-append turn.steps (steps_of turns)) ∙ e))
    (λ since f. turns_cut plan turns turn.to new since after call are.1 f)
  where
    by : InFirst (calls_in turn.steps) before call ⊎ InSecond (calls_in turn.steps) (calls_in (steps_of turns)) before after call
        → ((since : List Call) → calls_in (steps_of turns) ≡ since ++ call ∷ after → Cuts plan turn.to (steps_of turns) since call)
        → Cuts plan old (turn.steps ++ steps_of turns) before call
    by (inl f) more =
        cuts_longer plan old turn.steps (steps_of turns) before call (turn_cuts plan old turn.to turn.steps before f.rest call are.0 f.are)
    by (inr f) more = cuts_behind plan old turn (steps_of turns) before f.since call are.0 f.before_are (more f.since f.are)

-- ---- the first call of a pull

-- an end calls nothing any more
over_calls : (plan : Plan) (turns : List Taken) (end : PullEnd) (old new : Phase) → old ≡ Over end → AreTurns plan old turns new
    → calls_in (steps_of turns) ≡ []
over_calls plan [] end old new is are = refl
over_calls plan (turn ∷ turns) end old new is are =
    let w = by turn.steps turn.to are.0 in
    calls_in-append turn.steps (steps_of turns) ∙ ap (λ (steps : List Step). calls_in steps ++ calls_in (steps_of turns)) w.1
    ∙ over_calls plan turns w.0 turn.to new w.2 are.1
  where
    by : (steps : List Step) (to : Phase) → Turn plan old steps to → (last : PullEnd) × (steps ≡ []) × (to ≡ Over last)
    by steps to (one step steps_are is_due to_is) = absurd (let d : due plan (Over end) ≡ Some (due_in step) = sym (ap (due plan) is) ∙ is_due in cc)
    by steps to (laid intake frame stage made old_is is_step steps_are to_is) = absurd (let e : Over end ≡ Taking intake frame = sym is ∙ old_is in cc)
    by steps to (refused intake frame stage made done call rest refusal old_is is_step calls_are steps_are to_is) =
        absurd (let e : Over end ≡ Taking intake frame = sym is ∙ old_is in cc)
    by steps to (foreign intake frame old_is none steps_are to_is) = absurd (let e : Over end ≡ Taking intake frame = sym is ∙ old_is in cc)
    by steps to (endless intake old_is spent steps_are to_is) = absurd (let e : Over end ≡ Reading intake = sym is ∙ old_is in cc)
    by steps to (complete newest done old_is steps_are to_is) = absurd (let e : Over end ≡ Bringing newest [] done = sym is ∙ old_is in cc)
    by steps to (lacking steps_are to_is) = (Memory, steps_are, to_is ∙ ap (λ (phase : Phase). stopped phase Memory) is)

-- a pull calls a part first
pub first_is_part : (plan : Plan) (turns : List Taken) (new : Phase) (call : Call) (after : List Call) → AreTurns plan Asking turns new
    → calls_in (steps_of turns) ≡ call ∷ after → IsPart call.0
first_is_part plan [] new call after are e = absurd (cc)
first_is_part plan (turn ∷ turns) new call after are e = by turn.steps turn.to are.0 (sym (calls_in-append turn.steps (steps_of turns)) ∙ e) are.1
  where
    asked : (step : Step) → due plan Asking ≡ Some (due_in step) → calls_in (step ∷ []) ++ calls_in (steps_of turns) ≡ call ∷ after → IsPart call.0
    asked (Home made) d f =
        let is : made ≡ call = (heads made call (calls_in (steps_of turns)) after f).0 in
        subst IsPart (ap (λ (c : Call). c.0) is) (subst IsPart (sym (calls_are _ made.0 d)) tt)
    asked (Lists result) d f = absurd (cc)
    asked (Opens number base result) d f = absurd (cc)
    asked (Reads restore result) d f = absurd (cc)
    asked (Closes restore result) d f = absurd (cc)

    by : (steps : List Step) (to : Phase) → Turn plan Asking steps to → calls_in steps ++ calls_in (steps_of turns) ≡ call ∷ after
        → AreTurns plan to turns new → IsPart call.0
    by steps to (one step steps_are is_due to_is) f rest =
        asked step is_due (sym (ap (λ (xs : List Step). calls_in xs ++ calls_in (steps_of turns)) steps_are) ∙ f)
    by steps to (laid intake frame stage made old_is is_step steps_are to_is) f rest = absurd (cc)
    by steps to (refused intake frame stage made done its left refusal old_is is_step calls_are steps_are to_is) f rest = absurd (cc)
    by steps to (foreign intake frame old_is none steps_are to_is) f rest = absurd (cc)
    by steps to (endless intake old_is spent steps_are to_is) f rest = absurd (cc)
    by steps to (complete newest done old_is steps_are to_is) f rest = absurd (cc)
    by steps to (lacking steps_are to_is) f rest =
        let none : calls_in (steps_of turns) ≡ [] = over_calls plan turns Memory to new to_is rest in
        let g : [] ≡ call ∷ after =
        sym (ap (λ (xs : List Step). calls_in xs ++ calls_in (steps_of turns)) steps_are ∙ none) ∙ f in absurd (cc)
