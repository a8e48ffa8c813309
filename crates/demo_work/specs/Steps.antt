-- What the steps of a demo give.
use Rattle.std.specs.Prelude.{◌≡◌, ℕ, true, false, List, [], ◌∷◌, ◌++◌, reverse, Ok, Err, ◌⊎◌}
use Rattle.md5.specs.Md5.{Holds}
use Rattle.office_model.specs.declared.event.Event.{Event}
use Rattle.office_model.specs.declared.event.Event.TheVariants as E
use Rattle.office_model.specs.declared.answer.Answer.TheVariants as A
use Rattle.office_model.specs.Meaning.{Reply}
use Rattle.office_model.specs.Step.{Call}
use Rattle.call_scripts.specs.Scripts.{Script, Begins}
use Rattle.demo_work.specs.declared.asks.Ask.{Ask}
use Rattle.demo_work.specs.declared.counts.Tally.{Tally}
use Rattle.demo_work.specs.declared.ends.DemoEnd.{DemoEnd}
use Rattle.demo_work.specs.declared.ends.DemoEnd.TheVariants.{Refused, Memory}
use Rattle.demo_work.specs.declared.work.Work.{Work}
use Rattle.demo_work.specs.declared.work.Stop.{Stop}
use Rattle.demo_work.specs.declared.work.Stop.TheVariants as S
use Rattle.demo_work.specs.Asks.{event_of, dump_after, more_by, is_passed}
use Rattle.demo_work.specs.Plan.{Drawn, plan}
use Rattle.demo_work.specs.Script.{next, no_dump}
use Rattle.demo_work.specs.Told.{Told, told_by, told_of, nothing_told}
use Rattle.demo_work.specs.Ends.{ArePassed, FollowsUpTo, FollowsPassed, BeginsPassed, Ends}

-- a part was planned behind what was
pub record Planned (before after : List Ask) (state : ℕ) (part : Drawn) : Type 0 where
  pub asks : after ≡ before ++ part.0
  pub state_is : state ≡ part.1

-- the tally is of what was told
pub record Keeps (told : Told) (tally : Tally) : Type 0 where
  pub backups : tally.backups ≡ told.backups
  pub filled : tally.filled ≡ told.filled
  pub stats : tally.stats ≡ told.stats
  pub streams : Holds tally.digest told.streams

-- the ask that was on top has this reply
pub record Taken (ask : Ask) (reply : Reply) (old new : Work) : Type 0 where
  pub dump : new.dump ≡ dump_after old.dump reply
  pub pending : new.pending.items ≡ old.pending.items ++ reverse (more_by ask reply)
  pub tally : (told : Told) → Keeps told old.tally → Keeps (told_by told reply) new.tally

-- an ask was called, and passed
pub record Turned {P : Type 0} (moves : P → List Call → P → Type 0) (old new : P) (ask : Ask) (work work' : Work) : Type 0 where
  pub reply : Reply
  pub moved : moves old ((event_of work.dump ask, reply) ∷ []) new
  pub passed : is_passed (event_of work.dump ask) reply ≡ true
  pub taken : Taken ask reply work work'

-- an ask was refused; or there was no memory for its event, or for what its reply brings on
abbrev pub TurnStops : {P : Type 0} → (P → List Call → P → Type 0) → P → P → Event → Stop → Type 0
TurnStops moves old new event (S.Refused refusal) =
    moves old ((event, Err refusal) ∷ []) new × (is_passed event (Err refusal) ≡ false)
TurnStops moves old new event S.Memory =
    (new ≡ old) ⊎ ((reply : Reply) × moves old ((event, reply) ∷ []) new × (is_passed event reply ≡ true))

-- the script of what is left
abbrev pub script_of : Work → Script
script_of work = next work.dump (reverse work.pending.items)

-- so far each call was that of the script, and passed; what it calls behind them is left, and what they told is in the tally
pub record SoFar {P : Type 0} (moves : P → List Call → P → Type 0) (old new : P) (first work : Work) : Type 0 where
  pub calls : List Call
  pub moved : moves old calls new
  pub begins : Begins (script_of first) calls
  pub passed : ArePassed calls
  pub left : (behind : List Call) → script_of first (calls ++ behind) ≡ script_of work behind
  pub tally : (told : Told) → Keeps told first.tally → Keeps (told_of told calls) work.tally

-- all was called
pub record Finished {P : Type 0} (moves : P → List Call → P → Type 0) (old new : P) (first : Work) (tally : Tally) : Type 0 where
  pub calls : List Call
  pub moved : moves old calls new
  pub follows : FollowsPassed (script_of first) calls
  pub told : (told : Told) → Keeps told first.tally → Keeps (told_of told calls) tally

-- the calls of what ended early
abbrev pub StopsSo : Script → Stop → List Call → Type 0
StopsSo script (S.Refused refusal) calls = FollowsUpTo script refusal calls
StopsSo script S.Memory calls = BeginsPassed script calls

pub record Stopped {P : Type 0} (moves : P → List Call → P → Type 0) (old new : P) (script : Script) (stop : Stop) : Type 0 where
  pub calls : List Call
  pub moved : moves old calls new
  pub stops : StopsSo script stop calls

-- all of the plan is left, and nothing was told
pub record IsBegun (number : ℕ) (work : Work) : Type 0 where
  pub dump : work.dump ≡ no_dump
  pub pending : reverse work.pending.items ≡ plan number
  pub tally : Keeps nothing_told work.tally

abbrev pub end_of : Stop → DemoEnd
end_of (S.Refused refusal) = Refused refusal
end_of S.Memory = Memory

-- there are no hosts, and these are the calls of a demo behind that
pub record Continues {P : Type 0} (moves : P → List Call → P → Type 0) (old new : P) (number : ℕ) (end : DemoEnd) : Type 0 where
  pub calls : List Call
  pub moved : moves old calls new
  pub ends : Ends number end ((E.Hosts, Ok (A.Hosts [])) ∷ calls)
