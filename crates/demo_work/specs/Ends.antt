-- What a demo called, by how it ended.
use Rattle.std.specs.Prelude.{◌≡◌, ℕ, true, false, List, [], ◌∷◌, ◌++◌, Ok, Err}
use Rattle.office_model.specs.declared.event.Event.{Event}
use Rattle.office_model.specs.declared.event.Event.TheVariants as E
use Rattle.office_model.specs.declared.answer.Answer.TheVariants as A
use Rattle.office_model.specs.declared.refusal.Refusal.{Refusal}
use Rattle.office_model.specs.Step.{Call}
use Rattle.call_scripts.specs.Scripts.{Script, Follows, Begins}
use Rattle.demo_work.specs.declared.ends.DemoEnd.{DemoEnd}
use Rattle.demo_work.specs.declared.ends.DemoEnd.TheVariants.{Done, Occupied, Refused, Memory}
use Rattle.demo_work.specs.Asks.{is_passed}
use Rattle.demo_work.specs.Script.{demo_script}
use Rattle.demo_work.specs.Told.{nothing_told, told_of, summary_of}

-- each call was answered, or was a Remove where there is nothing
abbrev pub ArePassed : List Call → Type 0
ArePassed [] = Unit {0}
ArePassed (call ∷ calls) = (is_passed call.0 call.1 ≡ true) × ArePassed calls

-- the last call was refused so, and those before it were passed
pub record IsStopped (refusal : Refusal) (calls : List Call) : Type 0 where
  pub before : List Call
  pub event : Event
  pub parts : calls ≡ before ++ (event, Err refusal) ∷ []
  pub passed : ArePassed before
  pub stops : is_passed event (Err refusal) ≡ false

-- the calls follow a script up to a refusal
pub record FollowsUpTo (script : Script) (refusal : Refusal) (calls : List Call) : Type 0 where
  pub follows : Follows script calls
  pub stopped : IsStopped refusal calls

-- they begin a script, and were passed
pub record BeginsPassed (script : Script) (calls : List Call) : Type 0 where
  pub begins : Begins script calls
  pub passed : ArePassed calls

-- they follow a script to its end
pub record FollowsPassed (script : Script) (calls : List Call) : Type 0 where
  pub follows : Follows script calls
  pub passed : ArePassed calls

-- the first call found no host
abbrev pub FindsNobody : List Call → Type 0
FindsNobody calls = (later : List Call) × (calls ≡ (E.Hosts, Ok (A.Hosts [])) ∷ later)

abbrev pub Ends : ℕ → DemoEnd → List Call → Type 0
-- no host was there, and the summary is of what the calls told
Ends number (Done summary) calls =
    FollowsPassed (demo_script number) calls × FindsNobody calls × (summary ≡ summary_of number (told_of nothing_told calls))
-- a host was there, and nothing else was called
Ends number Occupied calls = (host : List ℕ) × (hosts : List (List ℕ)) × (calls ≡ (E.Hosts, Ok (A.Hosts (host ∷ hosts))) ∷ [])
Ends number (Refused refusal) calls = FollowsUpTo (demo_script number) refusal calls
-- there was no memory for what follows
Ends number Memory calls = BeginsPassed (demo_script number) calls

-- the calls lead from the port's state before to that after
pub record Shows {P : Type 0} (moves : P → List Call → P → Type 0) (old new : P) (number : ℕ) (end : DemoEnd) : Type 0 where
  pub calls : List Call
  pub moved : moves old calls new
  pub ends : Ends number end calls
