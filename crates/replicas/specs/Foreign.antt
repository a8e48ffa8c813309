-- What a pull that ends with PeerForeign heard.
--     SaysForeign      of what came, something was no answer
--     ForeignIsRead      a pull ends so only then, or behind more frames of a restore than any has: never by a frame of the other server
use Rattle.std.specs.Prelude.{◌≡◌, List, [], ◌∷◌, Err, ◌⊎◌}
use Rattle.office_model.specs.Office.{Office}
use Rattle.office_model.specs.Step.{State}
use Rattle.peer_exchange.specs.declared.fault.PeerFault.TheVariants as F
use Rattle.pull_work.specs.declared.plan.Plan.{Plan}
use Rattle.pull_work.specs.declared.ends.PullEnd.TheVariants.{PeerForeign}
use Rattle.pull_work.specs.Steps.{Step, Lists, Opens, Reads, Closes}
use Rattle.pull_work.specs.Script.{Phase, Reading, Aborting, Over, frame_limit}
use Rattle.pull_work.specs.Runs.{Taken, steps_of}
use Rattle.replicas.specs.Replicas.{Pulls}

-- a pull ends so, or is about to, behind an abort
abbrev pub EndsForeign : Phase → Type 0
EndsForeign (Aborting dump end) = end ≡ PeerForeign
EndsForeign (Over end) = end ≡ PeerForeign
EndsForeign phase = ⊥

-- what came in the place of an answer was none
abbrev pub IsForeign : Step → Type 0
IsForeign (Lists (Err fault)) = fault ≡ F.Foreign
IsForeign (Opens number base (Err fault)) = fault ≡ F.Foreign
IsForeign (Reads restore (Err fault)) = fault ≡ F.Foreign
IsForeign (Closes restore (Err fault)) = fault ≡ F.Foreign
IsForeign step = ⊥

-- so it was of one of these steps
abbrev pub SaysForeign : List Step → Type 0
SaysForeign [] = ⊥
SaysForeign (step ∷ steps) = IsForeign step ⊎ SaysForeign steps

-- so many frames of a restore were read that none has more
abbrev pub IsSpent : Phase → Type 0
IsSpent (Reading intake) = intake.read ≡ frame_limit
IsSpent phase = ⊥

-- so it was behind one of these turns
abbrev pub ReadsAll : List Taken → Type 0
ReadsAll [] = ⊥
ReadsAll (turn ∷ turns) = IsSpent turn.to ⊎ ReadsAll turns

-- what the other server's history gives is never taken for foreign: a pull that ends so got what is no answer, or reached the bound
abbrev pub ForeignIsRead : Type 0
ForeignIsRead = (plan : Plan) (home first : Office) (phase : Phase) (state' : State)
    → (pull : Pulls plan home first phase state') → EndsForeign phase → SaysForeign (steps_of pull.turns) ⊎ ReadsAll pull.turns
