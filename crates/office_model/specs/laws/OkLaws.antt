-- In a legal history an Ok is what the event means: so of an event that repeats another it is that one's answer.
use Rattle.std.specs.Prelude.{◌≡◌, ℕ, Bool, true, false, List, [], ◌∷◌, ◌++◌, Ok}
use Rattle.std.proofs.Common.{refl, ap, ◌∙◌, sym, subst}
use Rattle.office_model.specs.declared.answer.Answer.{Answer}
use Rattle.office_model.specs.declared.event.Event.{Event}
use Rattle.office_model.specs.Pool.{Pool, is_pooled}
use Rattle.office_model.specs.Ids.{Ids}
use Rattle.office_model.specs.Office.{Office, Names, with_ids}
use Rattle.office_model.specs.Meaning.{Carried, Judged, Reply}
use Rattle.office_model.specs.Step.{State, Running, Halted, IsMade, IsReply, IsStep, meaning_of}
use Rattle.office_model.specs.History.{Entry, GoesOn, IsHistory, last_state, last_faults}
use Rattle.office_model.specs.Tokens.{Repeats, OkRepeats}
use Rattle.office_model.specs.laws.RepeatLaws.{given_as}

-- the last entry goes on from what those before it leave
last_goes : (state : State) (faults : ℕ) (entries : List Entry) (entry : Entry) → IsHistory state faults (entries ++ entry ∷ [])
    → GoesOn (last_state state entries) (last_faults faults entries) entry
last_goes state faults [] entry legal = legal.0
last_goes state faults (x ∷ xs) entry legal = last_goes x.state x.faults xs entry legal.1

-- what leaves the office as it was leaves its ids
same_made : (pools : Bool) (office : Office) (names : Names) (judged : Judged Carried) (first given : Answer) (new : Office)
    → judged ≡ Ok (given_as first office) → IsMade pools names office judged given new → given_as given new ≡ given_as first office
same_made false office names judged first given new repeats is = let e = repeats in let f = is in cc
same_made true office names judged first given new repeats is =
    let but : given_as given (with_ids new office.ids) ≡ given_as first office = let e = repeats in let f = is.0 in cc in
    let pool : new.pool ≡ office.pool = ap (λ (c : Carried). c.after.pool) but in
    let ids : new.ids ≡ office.ids = is.1.same (λ content. ap (λ (p : Pool). is_pooled p content) pool) in
    ap (λ (ids : Ids). given_as given (with_ids new ids)) ids ∙ but

replied : (office : Office) (names : Names) (event : Event) (first given : Answer) (new : State) → Repeats office names event first
    → IsReply office names (meaning_of event) (Ok given) new → (given ≡ first) × (left : Names) × (new ≡ Running office left)
replied office names event first given (Halted before next left) repeats is = absurd is
replied office names event first given (Running new left) repeats is =
    let same = same_made (meaning_of event).pools office names ((meaning_of event).carried office names) first given new repeats is in
    (ap (λ (c : Carried). c.answer) same, left, ap (λ (c : Carried). Running c.after left) same)

pub ok_repeats : OkRepeats
ok_repeats state faults entries entry office names first given legal at repeats ok =
    let step : IsStep (Running office names) entry.event (Ok given) entry.state =
    subst (λ (reply : Reply). IsStep (Running office names) entry.event reply entry.state) ok
    (subst (λ (s : State). IsStep s entry.event entry.reply entry.state) at (last_goes state faults entries entry legal).step) in
    replied office names entry.event first given entry.state repeats step.0
