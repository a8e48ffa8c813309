-- Hosts that may have tables of the first layout only become fewer.
--     NoneJoins      no event makes a host one of them
--     NoneJoinsLater      nor does a legal history, whatever its replies
--     MigratedIsNone      the host of a Migrate that was Ok is none of them
use Rattle.std.specs.Prelude.{◌≡◌, ℕ, ◌==◌, Bool, false, List, Some, Ok}
use Rattle.std.specs.List.{list_any}
use Rattle.office_model.specs.declared.answer.Answer.{Answer}
use Rattle.office_model.specs.declared.event.Event.{Event}
use Rattle.office_model.specs.declared.event.Event.TheVariants.{Migrate}
use Rattle.office_model.specs.Meaning.{Reply}
use Rattle.office_model.specs.Office.{Office, Names, host_index}
use Rattle.office_model.specs.Step.{State, Running, IsStep, names_of}
use Rattle.office_model.specs.History.{Entry, IsHistory, last_state}

abbrev pub is_old : State → ℕ → Bool
is_old state host = list_any (λ i. i == host) (names_of state).old_hosts

abbrev pub NoneJoins : Type 0
NoneJoins = (old : State) (event : Event) (reply : Reply) (new : State) → IsStep old event reply new
    → (host : ℕ) → is_old old host ≡ false → is_old new host ≡ false

abbrev pub NoneJoinsLater : Type 0
NoneJoinsLater = (state : State) (faults : ℕ) (entries : List Entry) → IsHistory state faults entries
    → (host : ℕ) → is_old state host ≡ false → is_old (last_state state entries) host ≡ false

abbrev pub MigratedIsNone : Type 0
MigratedIsNone = (office : Office) (names : Names) (name : List ℕ) (answer : Answer) (new : State) (host : ℕ)
    → IsStep (Running office names) (Migrate name) (Ok answer) new → host_index office.hosts name ≡ Some host → is_old new host ≡ false
