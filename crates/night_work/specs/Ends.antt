-- What a night did, by how it ended.
use Rattle.std.specs.Prelude.{◌≡◌, ℕ, ℤ, Bool, true, false, List, [], ◌∷◌, Option, Ok}
use Rattle.wake_schedule.specs.declared.zone.Zone.{Zone}
use Rattle.wake_schedule.specs.Clock.{local_of}
use Rattle.wake_schedule.specs.Zones.{ahead_at}
use Rattle.office_model.specs.declared.event.Event.TheVariants as E
use Rattle.office_model.specs.declared.answer.Answer.TheVariants as A
use Rattle.office_model.specs.Step.{Call}
use Rattle.call_scripts.specs.Scripts.{Follows, AreAnswered, EndRefused}
use Rattle.call_scripts.specs.Moments.{Gave}
use Rattle.night_work.specs.declared.ends.NightEnd.{NightEnd}
use Rattle.night_work.specs.declared.ends.NightEnd.TheVariants.{Done, NotNow, Refused, Memory}
use Rattle.night_work.specs.Script.{is_due, night_buckets, night_script, night_of}

-- The calls of a night, which begins at a moment of this day, by its end. They follow the script: to the end if all were answered, or
-- up to the first refusal.
abbrev pub Ends : ℕ → ℤ → ℕ → NightEnd → List Call → Type 0
Ends moment day period (Done night) calls =
    Follows (night_script moment (night_buckets day period)) calls × AreAnswered calls × (night ≡ night_of day calls)
Ends moment day period NotNow calls = calls ≡ []
Ends moment day period (Refused refusal) calls = Follows (night_script moment (night_buckets day period)) calls × EndRefused refusal calls
-- there was no memory for the events that follow: only the hosts were asked for
Ends moment day period Memory calls = (hosts : List (List ℕ)) × (calls ≡ (E.Hosts, Ok (A.Hosts hosts)) ∷ [])

abbrev pub is_begun : NightEnd → Bool
is_begun (Done night) = true
is_begun NotNow = false
is_begun (Refused refusal) = true
is_begun Memory = true

-- the calls of a night lead from the port's state before to that after
pub record Worked {P : Type 0} (moves : P → List Call → P → Type 0) (old new : P) (moment : ℕ) (day : ℤ) (period : ℕ) (end : NightEnd)
    : Type 0 where
  pub calls : List Call
  pub moved : moves old calls new
  pub ends : Ends moment day period end calls

-- A night over a port: the clock was read once; by the zone's clock it was time, or nothing was called; and the calls lead from the
-- port's state before to that after.
pub record Works {P : Type 0} (moves : P → List Call → P → Type 0) (old new : P) (moments moments' : Option (List ℕ))
    (zone : Zone) (wake : List ℕ) (period : ℕ) (scheduled : Bool) (end : NightEnd) : Type 0 where
  pub moment : ℕ
  pub clock : Gave moments (moment ∷ []) moments'
  pub due : is_due scheduled wake (local_of moment (ahead_at zone moment)).minute ≡ is_begun end
  pub calls : List Call
  pub moved : moves old calls new
  pub ends : Ends moment (local_of moment (ahead_at zone moment)).day period end calls
