-- What the steps of a night give: the events that follow the hosts' names, called one after the other.
use Rattle.std.specs.Prelude.{◌≡◌, ℕ, ℤ, ◌+◌, ◌≤◌, Bool, true, false, List, [], ◌∷◌, ◌++◌, Err}
use Rattle.office_model.specs.declared.event.Event.{Event}
use Rattle.office_model.specs.declared.answer.Answer.{Answer}
use Rattle.office_model.specs.declared.refusal.Refusal.{Refusal}
use Rattle.office_model.specs.Step.{Call}
use Rattle.call_scripts.specs.Scripts.{AreAnswered, events_of}
use Rattle.night_work.specs.Script.{expired_in, marked_in, unmarked_in, removed_in, night_of}
use Rattle.night_work.specs.declared.ends.Night.{Night}

-- these events were called, and each was answered
pub record Carried {P : Type 0} (moves : P → List Call → P → Type 0) (old new : P) (day : ℤ) (events : List Event) (night : Night)
    : Type 0 where
  pub calls : List Call
  pub moved : moves old calls new
  pub asked : events_of calls ≡ events
  pub answered : AreAnswered calls
  pub counted : night ≡ night_of day calls

-- the events up to one were called; that one was refused, and those before it were answered
pub record Stopped {P : Type 0} (moves : P → List Call → P → Type 0) (old new : P) (events : List Event) (refusal : Refusal) : Type 0 where
  pub before : List Call
  pub event : Event
  pub later : List Event
  pub moved : moves old (before ++ (event, Err refusal) ∷ []) new
  pub asked : events ≡ events_of before ++ event ∷ later
  pub answered : AreAnswered before

-- the counts with those of one more answer
abbrev pub added : Night → Answer → Night
added night answer = record {
  day = night.day;
  expired = night.expired + expired_in answer;
  marked = night.marked + marked_in answer;
  unmarked = night.unmarked + unmarked_in answer;
  removed = night.removed + removed_in answer;
}

-- none of the counts is above this
pub record AreAtMost (most : ℕ) (night : Night) : Type 0 where
  pub expired : night.expired ≤ most
  pub marked : night.marked ≤ most
  pub unmarked : night.unmarked ≤ most
  pub removed : night.removed ≤ most

-- the bucket, if it is chosen
abbrev pub picked : Bool → ℕ → List ℕ
picked true bucket = bucket ∷ []
picked false bucket = []
