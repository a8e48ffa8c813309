-- A legal history in two parts.
--     Split, split      the state between the calls of both
--     FirstCall, first_call      the first call, whatever its reply
use Rattle.std.specs.Prelude.{◌≡◌, ℕ, List, [], ◌∷◌, ◌++◌}
use Rattle.std.proofs.Common.{sym, ap}
use Rattle.office_model.specs.Step.{Call, State}
use Rattle.office_model.specs.History.{Entry, GoesOn, IsHistory, last_state, last_faults, calls_of, Leads}
use Rattle.office_model.specs.laws.HistoryLaws.{Leads-none}

-- a call that goes on to a state, and the rest of the history
pub record FirstCall (state : State) (faults : ℕ) (call : Call) (calls : List Call) (state' : State) (faults' : ℕ) : Type 0 where
  pub entry : Entry
  pub goes : GoesOn state faults entry
  pub event_is : entry.event ≡ call.0
  pub reply_is : entry.reply ≡ call.1
  pub rest : Leads entry.state entry.faults calls state' faults'

pub first_call : (state : State) (faults : ℕ) (call : Call) (calls : List Call) (state' : State) (faults' : ℕ)
    → Leads state faults (call ∷ calls) state' faults' → FirstCall state faults call calls state' faults'
first_call state faults call calls state' faults' leads = step leads.entries leads.legal leads.calls_are leads.state_is leads.faults_is
  where
    step : (entries : List Entry) → IsHistory state faults entries → call ∷ calls ≡ calls_of entries → state' ≡ last_state state entries
        → faults' ≡ last_faults faults entries → FirstCall state faults call calls state' faults'
    step [] legal calls_are state_is faults_is = absurd (cc)
    step (entry ∷ entries) legal calls_are state_is faults_is =
        let same : call ≡ (entry.event, entry.reply) = cc in
        record {
          entry = entry;
          goes = legal.0;
          event_is = ap (λ (c : Call). c.0) (sym same);
          reply_is = ap (λ (c : Call). c.1) (sym same);
          rest = record { entries = entries; legal = legal.1; calls_are = (cc); state_is = state_is; faults_is = faults_is };
        }

-- the state and the count of faults between these calls and those
pub record Split (state : State) (faults : ℕ) (calls more : List Call) (state' : State) (faults' : ℕ) : Type 0 where
  pub mid : State
  pub mid_faults : ℕ
  pub first : Leads state faults calls mid mid_faults
  pub rest : Leads mid mid_faults more state' faults'

pub split : (calls : List Call) (state : State) (faults : ℕ) (more : List Call) (state' : State) (faults' : ℕ)
    → Leads state faults (calls ++ more) state' faults' → Split state faults calls more state' faults'
split [] state faults more state' faults' leads =
    record { mid = state; mid_faults = faults; first = Leads-none state faults; rest = leads }
split (call ∷ calls) state faults more state' faults' leads =
    let f = first_call state faults call (calls ++ more) state' faults' leads in
    let s = split calls f.entry.state f.entry.faults more state' faults' f.rest in
    record {
      mid = s.mid;
      mid_faults = s.mid_faults;
      first = record {
        entries = f.entry ∷ s.first.entries;
        legal = (f.goes, s.first.legal);
        calls_are = λ i. (sym f.event_is i, sym f.reply_is i) ∷ s.first.calls_are i;
        state_is = s.first.state_is;
        faults_is = s.first.faults_is;
      };
      rest = s.rest;
    }
