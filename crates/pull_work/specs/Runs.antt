-- What a pull did, from one phase to another.
--     Turn      a step that is due, or what a frame calls
--     Goes      turns, with what they call at home and say over the wire
use Rattle.std.specs.Prelude.{◌≡◌, ℕ, List, [], ◌∷◌, ◌++◌, map, Option, Some, None, Err}
use Rattle.stream_traits.specs.Seen.{LinkSeen}
use Rattle.tree_frames.specs.declared.nodes.Frame.{Frame}
use Rattle.office_model.specs.declared.refusal.Refusal.{Refusal}
use Rattle.office_model.specs.Step.{Call}
use Rattle.frame_puts.specs.Steps.{Step as FrameStep, frame_step}
use Rattle.pull_work.specs.declared.plan.Plan.{Plan}
use Rattle.pull_work.specs.declared.ends.PullEnd.TheVariants.{Done, Refused, PeerForeign, Memory}
use Rattle.pull_work.specs.Steps.{Step, Home, calls_in, AreTold}
use Rattle.pull_work.specs.Script.{Intake, Phase, Bringing, Reading, Taking, Aborting, Over, frame_limit, due_in, due, after, taken, stopped}

pub data Turn (plan : Plan) (old : Phase) (steps : List Step) (new : Phase) : Type 0 where
  -- the step that is due
  one : (step : Step) → steps ≡ step ∷ [] → due plan old ≡ Some (due_in step) → new ≡ after old step → Turn plan old steps new
  -- a frame that fits is laid into the dump: all that it calls is answered
  laid : (intake : Intake) (frame : Frame) (stage : ℕ) (made : FrameStep) → old ≡ Taking intake frame
      → frame_step intake.dump intake.laying stage frame ≡ Some made → steps ≡ map Home made.calls → new ≡ taken intake made.laying
      → Turn plan old steps new
  -- or up to a call that is refused
  refused : (intake : Intake) (frame : Frame) (stage : ℕ) (made : FrameStep) (done : List Call) (call : Call) (rest : List Call)
      (refusal : Refusal) → old ≡ Taking intake frame → frame_step intake.dump intake.laying stage frame ≡ Some made
      → made.calls ≡ done ++ call ∷ rest → steps ≡ map Home (done ++ (call.0, Err refusal) ∷ [])
      → new ≡ Aborting intake.dump (Refused refusal) → Turn plan old steps new
  -- one that doesn't fit
  foreign : (intake : Intake) (frame : Frame) → old ≡ Taking intake frame
      → ((stage : ℕ) → frame_step intake.dump intake.laying stage frame ≡ None) → steps ≡ [] → new ≡ Aborting intake.dump PeerForeign
      → Turn plan old steps new
  -- or one more than a restore has
  endless : (intake : Intake) → old ≡ Reading intake → intake.read ≡ frame_limit → steps ≡ [] → new ≡ Aborting intake.dump PeerForeign
      → Turn plan old steps new
  -- all were brought
  complete : (newest : Option ℕ) (done : ℕ) → old ≡ Bringing newest [] done → steps ≡ [] → new ≡ Over (Done done) → Turn plan old steps new
  -- there is no memory to go on
  lacking : steps ≡ [] → new ≡ stopped old Memory → Turn plan old steps new

-- a turn, and how far the pull is behind it
pub record Taken : Type 0 where
  pub steps : List Step
  pub to : Phase

abbrev pub AreTurns : Plan → Phase → List Taken → Phase → Type 0
AreTurns plan old [] new = new ≡ old
AreTurns plan old (turn ∷ turns) new = Turn plan old turn.steps turn.to × AreTurns plan turn.to turns new

abbrev pub steps_of : List Taken → List Step
steps_of [] = []
steps_of (turn ∷ turns) = turn.steps ++ steps_of turns

-- turns lead from one phase to another: their calls at home lead from one state of the port to another, and over the wire they say this
pub record Goes {P : Type 0} (moves : P → List Call → P → Type 0) (plan : Plan) (home home' : P) (seen seen' : LinkSeen) (old new : Phase)
    : Type 0 where
  pub turns : List Taken
  pub are : AreTurns plan old turns new
  pub moved : moves home (calls_in (steps_of turns)) home'
  pub told : AreTold plan.host seen seen' (steps_of turns)
