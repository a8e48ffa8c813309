-- The first call of a legal history.
--     First      a step of this event with this answer, and the rest of the history
--     Answered      what a running office carried out for it
use Rattle.std.specs.Prelude.{◌≡◌, ℕ, List, [], ◌∷◌, Ok, Err}
use Rattle.std.proofs.Common.{sym, ap, subst}
use Rattle.office_model.specs.declared.event.Event.{Event}
use Rattle.office_model.specs.declared.answer.Answer.{Answer}
use Rattle.office_model.specs.Office.{Office, Names, IsSound}
use Rattle.office_model.specs.Step.{Call, State, Running, Halted, IsSoundState, IsMade, IsStep, meaning_of}
use Rattle.office_model.specs.History.{Entry, GoesOn, IsHistory, last_state, last_faults, calls_of, Leads}
use Rattle.office_model.specs.Meaning.{Reply}

pub record First (state : State) (faults : ℕ) (event : Event) (answer : Answer) (calls : List Call) (state' : State) (faults' : ℕ)
    : Type 0 where
  pub entry : Entry
  pub goes : GoesOn state faults entry
  pub event_is : entry.event ≡ event
  pub reply_is : entry.reply ≡ Ok answer
  pub rest : Leads entry.state entry.faults calls state' faults'

pub first_of : (state : State) (faults : ℕ) (event : Event) (answer : Answer) (calls : List Call) (state' : State) (faults' : ℕ)
    → Leads state faults ((event, Ok answer) ∷ calls) state' faults' → First state faults event answer calls state' faults'
first_of state faults event answer calls state' faults' leads =
    step leads.entries leads.legal leads.calls_are leads.state_is leads.faults_is
  where
    step : (entries : List Entry) → IsHistory state faults entries → (event, Ok answer) ∷ calls ≡ calls_of entries
        → state' ≡ last_state state entries → faults' ≡ last_faults faults entries → First state faults event answer calls state' faults'
    step [] legal calls_are state_is faults_is = absurd (cc)
    step (entry ∷ entries) legal calls_are state_is faults_is =
        let same : (event, Ok answer) ≡ (entry.event, entry.reply) = cc in
        let event_is : event ≡ entry.event = ap (λ (c : Call). c.0) same in
        let reply_is : Ok answer ≡ entry.reply = ap (λ (c : Call). c.1) same in
        record {
          entry = entry;
          goes = legal.0;
          event_is = sym event_is;
          reply_is = sym reply_is;
          rest = record { entries = entries; legal = legal.1; calls_are = (cc); state_is = state_is; faults_is = faults_is };
        }

-- an event that a running office answered; of one that leaves the pool's contents `carried` is an equation of what was judged
pub record Answered (office : Office) (names : Names) (event : Event) (answer : Answer) (calls : List Call) (state' : State) (faults' : ℕ)
    : Type 0 where
  pub after : Office
  pub after_names : Names
  pub faults : ℕ
  pub carried : IsMade (meaning_of event).pools names office ((meaning_of event).carried office names) answer after
  pub sound : IsSound after
  pub rest : Leads (Running after after_names) faults calls state' faults'

pub answered : (office : Office) (names : Names) (faults : ℕ) (event : Event) (answer : Answer) (calls : List Call) (state' : State)
    (faults' : ℕ) → Leads (Running office names) faults ((event, Ok answer) ∷ calls) state' faults'
    → Answered office names event answer calls state' faults'
answered office names faults event answer calls state' faults' leads =
    let first = first_of (Running office names) faults event answer calls state' faults' leads in
    step first.entry.event first.event_is first.entry.reply first.reply_is first.entry.state first.entry.faults first.goes.step first.goes.sound first.rest
  where
    step : (asked : Event) → asked ≡ event → (reply : Reply) → reply ≡ Ok answer → (next : State) → (count : ℕ)
        → IsStep (Running office names) asked reply next → IsSoundState next → Leads next count calls state' faults'
        → Answered office names event answer calls state' faults'
    step asked same (Err refusal) is next count h sound rest = absurd (cc)
    step asked same (Ok given) is (Halted before after names') count h sound rest = absurd h.0
    step asked same (Ok given) is (Running after names') count h sound rest =
        let given_is : given ≡ answer = cc in
        record {
          after = after;
          after_names = names';
          faults = count;
          carried = subst (λ a. IsMade (meaning_of event).pools names office ((meaning_of event).carried office names) a after) given_is
              (subst (λ q. IsMade (meaning_of q).pools names office ((meaning_of q).carried office names) given after) same h.0);
          sound = sound.office;
          rest = rest;
        }

-- behind the last call nothing has changed any more
pub none_left : (state : State) (faults : ℕ) (state' : State) (faults' : ℕ) → Leads state faults [] state' faults' → state' ≡ state
none_left state faults state' faults' leads = step leads.entries leads.calls_are leads.state_is
  where
    step : (entries : List Entry) → [] ≡ calls_of entries → state' ≡ last_state state entries → state' ≡ state
    step [] calls_are state_is = state_is
    step (entry ∷ entries) calls_are state_is = absurd (cc)
