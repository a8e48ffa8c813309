-- What a pull asked of the other server and got no value for, and how it ends.
--     faults_in      the events that were asked for in vain, each with its fault
--     end_in      how the pull ends, if a phase says so
use Rattle.std.specs.Prelude.{ℕ, List, [], ◌∷◌, ◌++◌, Option, Some, None, Err}
use Rattle.office_model.specs.declared.event.Event.{Event}
use Rattle.office_model.specs.declared.event.Event.TheVariants as E
use Rattle.peer_exchange.specs.declared.fault.PeerFault.{PeerFault}
use Rattle.pull_work.specs.declared.ends.PullEnd.{PullEnd}
use Rattle.pull_work.specs.Steps.{Step, Lists, Opens, Reads, Closes}
use Rattle.pull_work.specs.Script.{Phase, Aborting, Over}

abbrev pub fault_in : List ℕ → Step → List (Event × PeerFault)
fault_in host (Lists (Err fault)) = (E.Backups host, fault) ∷ []
fault_in host (Opens number base (Err fault)) = (E.OpenRead host number base, fault) ∷ []
fault_in host (Reads restore (Err fault)) = (E.ReadNext restore, fault) ∷ []
fault_in host (Closes restore (Err fault)) = (E.CloseRead restore, fault) ∷ []
fault_in host step = []

-- of calls at home there are none
abbrev pub faults_in : List ℕ → List Step → List (Event × PeerFault)
faults_in host [] = []
faults_in host (step ∷ steps) = fault_in host step ++ faults_in host steps

abbrev pub end_in : Phase → Option PullEnd
end_in (Aborting dump end) = Some end
end_in (Over end) = Some end
end_in phase = None
