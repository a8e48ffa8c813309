-- What a list of calls does to a store: a legal history from each state that it was in, and what a crash meanwhile leaves.
--     AreServed old calls new      the events were answered one after the other
--     MayRecoverIn digest_of state faults calls found      what an opening finds after a crash during one of the calls
--     MayRecoverSince digest_of state faults calls found      and after one at any moment since the first began
--     Goes old state calls new      the calls go from this state to one that the store is in
--     Moves old calls new      so from each sound state that it was in
use Rattle.std.specs.Prelude.{◌≡◌, ◌⊎◌, ℕ, ◌≤◌, List, [], ◌∷◌, ◌++◌}
use Rattle.disk_trait.specs.declared.disk.Disk.{Ghosts as DiskGhosts}
use Rattle.disk_trait.specs.Files.{Files}
use Rattle.pool_name.specs.declared.namer.Namer.{Ghosts as NamerGhosts}
use Rattle.journal_view.specs.View.{FindsOnly}
use Rattle.office_model.specs.Step.{Call, State, IsSoundState}
use Rattle.office_model.specs.History.{Leads}
use Rattle.store_parts.specs.Held.{IsEither}
use Rattle.store_parts.specs.States.{InState}
use Rattle.store_opening.specs.Reopens.{first_of, second_of}
use Rattle.office_store.specs.declared.store.Store.{Store}
use Rattle.office_store.specs.Serves.{MayRecover, Serves}

-- a crash during one of the calls leaves what it may leave of its event, in a state to which the calls before it lead
pub record MayRecoverIn (digest_of : List ℕ → List ℕ) (state : State) (faults : ℕ) (calls : List Call) (found : Files) : Type 0 where
  pub before : List Call
  pub call : Call
  pub after : List Call
  pub calls_are : calls ≡ before ++ call ∷ after
  pub mid : State
  pub count : ℕ
  pub leads : Leads state faults before mid count
  pub may : MayRecover digest_of mid call.0 found

-- what was there at the start, or what a crash during one of the calls leaves
abbrev pub MayRecoverSince : (List ℕ → List ℕ) → State → ℕ → List Call → Files → Type 0
MayRecoverSince digest_of state faults calls found =
    IsEither digest_of (first_of state) (second_of state) found ⊎ MayRecoverIn digest_of state faults calls found

module _ {D N S : Type 0} {d : DiskGhosts D} {n : NamerGhosts N S} where
  -- each store between came from the one before by one of the calls
  abbrev pub AreServed : Store D N S d n → List Call → Store D N S d n → Type 0
  AreServed old [] new = new ≡ old
  AreServed old (call ∷ calls) new = (mid : Store D N S d n) × Serves old call.0 call.1 mid × AreServed mid calls new

  -- there is one legal history of these calls from this state to one that the store is in, and a crash meanwhile leaves what a
  -- crash during one of them does
  pub record Goes (old : Store D N S d n) (state : State) (calls : List Call) (new : Store D N S d n) : Type 0 where
    pub next : State
    pub leads : Leads state (d.fault_count old.parts.journal.disk) calls next (d.fault_count new.parts.journal.disk)
    pub in_state : InState new.parts next
    pub sound : IsSoundState next
    pub crash : FindsOnly old.parts.journal new.parts.journal
        (MayRecoverIn n.digest_of state (d.fault_count old.parts.journal.disk) calls)

  -- these calls may lead from one store to another
  pub record Moves (old : Store D N S d n) (calls : List Call) (new : Store D N S d n) : Type 0 where
    pub goes : (state : State) → InState old.parts state → IsSoundState state → Goes old state calls new
    pub later : d.fault_count old.parts.journal.disk ≤ d.fault_count new.parts.journal.disk
    pub each : AreServed old calls new
