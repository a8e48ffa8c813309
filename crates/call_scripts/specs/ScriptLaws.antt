-- Calls that were answered begin the script of their events, and so they do with a refusal behind them.
use Rattle.std.specs.Prelude.{◌≡◌, List, [], ◌∷◌, ◌++◌, None, Ok, Err}
use Rattle.std.proofs.Common.{refl, sym, ap, ◌∙◌, subst, append_assoc}
use Rattle.std.proofs.lemmas.List.{append-nil}
use Rattle.office_model.specs.declared.event.Event.{Event}
use Rattle.office_model.specs.declared.refusal.Refusal.{Refusal}
use Rattle.office_model.specs.Step.{Call}
use Rattle.call_scripts.specs.Scripts.{Script, each_of, behind, FollowsAfter, Follows, Begins, events_of, AreAnswered, EndRefused}

pub events_of-append : (xs ys : List Call) → events_of (xs ++ ys) ≡ events_of xs ++ events_of ys
events_of-append [] ys = refl
events_of-append (x ∷ xs) ys = ap (λ events. x.0 ∷ events) (events_of-append xs ys)

pub AreAnswered-append : (xs ys : List Call) → AreAnswered xs → AreAnswered ys → AreAnswered (xs ++ ys)
AreAnswered-append [] ys a b = b
AreAnswered-append ((asked, Ok answer) ∷ xs) ys a b = AreAnswered-append xs ys a b
AreAnswered-append ((asked, Err refusal) ∷ xs) ys a b = absurd a

-- answered calls come before a refusal
pub EndRefused-append : (xs ys : List Call) (refusal : Refusal) → AreAnswered xs → EndRefused refusal ys → EndRefused refusal (xs ++ ys)
EndRefused-append [] ys refusal a b = b
EndRefused-append ((asked, Ok answer) ∷ xs) ys refusal a b = EndRefused-append xs ys refusal a b
EndRefused-append ((asked, Err other) ∷ xs) ys refusal a b = absurd a

-- calls that were answered begin the script of their events and of those that are left
pub begins_each : (calls : List Call) (left : List Event) → AreAnswered calls → Begins (each_of (events_of calls ++ left)) calls
begins_each [] left answered = tt
begins_each ((asked, Ok answer) ∷ calls) left answered = (refl, begins_each calls left answered)
begins_each ((asked, Err refusal) ∷ calls) left answered = absurd answered

-- and so they do with a refusal behind them
pub begins_refused : (calls : List Call) (event : Event) (refusal : Refusal) (left : List Event) → AreAnswered calls
    → Begins (each_of (events_of calls ++ event ∷ left)) (calls ++ (event, Err refusal) ∷ [])
begins_refused [] event refusal left answered = (refl, tt)
begins_refused ((asked, Ok answer) ∷ calls) event refusal left answered = (refl, begins_refused calls event refusal left answered)
begins_refused ((asked, Err other) ∷ calls) event refusal left answered = absurd answered

-- behind all of its events a script calls nothing
pub each_of-end : (calls : List Call) → AreAnswered calls → each_of (events_of calls) calls ≡ None
each_of-end [] answered = refl
each_of-end ((asked, Ok answer) ∷ calls) answered = each_of-end calls answered
each_of-end ((asked, Err refusal) ∷ calls) answered = absurd answered

-- calls that begin a script, behind which it calls nothing, follow it
pub follows_from : (next : Script) (calls : List Call) → Begins next calls → next calls ≡ None → Follows next calls
follows_from next calls begins ends = step [] calls begins ends
  where
    step : (made calls : List Call) → Begins (λ more. next (made ++ more)) calls → next (made ++ calls) ≡ None → FollowsAfter next made calls
    step made [] begins ends = ap next (sym (append-nil made)) ∙ ends
    step made (call ∷ calls) begins ends = (
      ap next (sym (append-nil made)) ∙ begins.0,
      step (made ++ call ∷ []) calls
          (subst (λ (script : Script). Begins script calls) (λ i more. next (sym (append_assoc made (call ∷ []) more) i)) begins.1)
          (ap next (append_assoc made (call ∷ []) calls) ∙ ends),
    )
