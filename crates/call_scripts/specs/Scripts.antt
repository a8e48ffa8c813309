-- What is called next, after the calls and their replies so far.
--     Follows      the calls are those of a script, to its end
--     Begins       they are the first calls of a script
--     each_of      the script of a list of events
--     each_then    a list of events, and then another script
use Rattle.std.specs.Prelude.{◌≡◌, List, [], ◌∷◌, ◌++◌, map, Option, Some, None, Ok, Err}
use Rattle.office_model.specs.declared.event.Event.{Event}
use Rattle.office_model.specs.declared.refusal.Refusal.{Refusal}
use Rattle.office_model.specs.Step.{Call}

-- which event is called next, after the calls and their replies so far; None if no call follows
abbrev pub Script : Type 0
Script = List Call → Option Event

-- the script of this one call
abbrev pub one_call : Event → Script
one_call event [] = Some event
one_call event (call ∷ calls) = None

-- one event after the other, and none after a refusal
abbrev pub each_of : List Event → Script
each_of [] calls = None
each_of (event ∷ events) [] = Some event
each_of (event ∷ events) ((asked, Ok answer) ∷ calls) = each_of events calls
each_of (event ∷ events) ((asked, Err refusal) ∷ calls) = None

-- these events one after the other, and then another script; none after a refusal
abbrev pub each_then : List Event → Script → Script
each_then [] next calls = next calls
each_then (event ∷ events) next [] = Some event
each_then (event ∷ events) next ((asked, Ok answer) ∷ calls) = each_then events next calls
each_then (event ∷ events) next ((asked, Err refusal) ∷ calls) = None

-- what a script calls behind this call
abbrev pub behind : Call → Script → Script
behind call next made = next (call ∷ made)

-- the calls are those of a script, after the calls `made`
abbrev pub FollowsAfter : Script → List Call → List Call → Type 0
FollowsAfter next made [] = next made ≡ None
FollowsAfter next made (call ∷ calls) = (next made ≡ Some call.0) × FollowsAfter next (made ++ call ∷ []) calls

-- the calls are those of a script, to its end
abbrev pub Follows : Script → List Call → Type 0
Follows next calls = FollowsAfter next [] calls

-- the calls are the first ones of a script
abbrev pub Begins : Script → List Call → Type 0
Begins next [] = Unit {0}
Begins next (call ∷ calls) = (next [] ≡ Some call.0) × Begins (behind call next) calls

abbrev pub events_of : List Call → List Event
events_of calls = map (λ call. call.0) calls

-- each call was answered
abbrev pub AreAnswered : List Call → Type 0
AreAnswered [] = Unit {0}
AreAnswered ((event, Ok answer) ∷ calls) = AreAnswered calls
AreAnswered ((event, Err refusal) ∷ calls) = ⊥

-- the last call was refused so, and those before it were answered
abbrev pub EndRefused : Refusal → List Call → Type 0
EndRefused refusal [] = ⊥
EndRefused refusal ((event, Ok answer) ∷ calls) = EndRefused refusal calls
EndRefused refusal ((event, Err named) ∷ calls) = (named ≡ refusal) × (calls ≡ [])
