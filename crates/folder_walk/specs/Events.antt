-- Which events a dump calls up to its commit, whatever the folder tells and whatever was answered.
--     IsOfDump      one of them: no reopening is, and none that reads a file's bytes
--     AreOfDump      each of these calls is of one
use Rattle.std.specs.Prelude.{List, [], ◌∷◌, ⊤}
use Rattle.office_model.specs.declared.event.Event.{Event}
use Rattle.office_model.specs.declared.event.Event.TheVariants as E
use Rattle.office_model.specs.Step.{Call}

abbrev pub IsOfDump : Event → Type 0
IsOfDump (E.OpenDump host kind now token) = ⊤
IsOfDump (E.Backups host) = ⊤
IsOfDump (E.List host number directory) = ⊤
IsOfDump (E.Remove dump path token) = ⊤
IsOfDump (E.Put dump path item token) = ⊤
IsOfDump (E.StageOpen dump) = ⊤
IsOfDump (E.StagePiece stage bytes) = ⊤
IsOfDump (E.StageDrop stage) = ⊤
IsOfDump (E.Commit dump now) = ⊤
IsOfDump event = ⊥

abbrev pub AreOfDump : List Call → Type 0
AreOfDump [] = ⊤
AreOfDump (call ∷ calls) = IsOfDump call.0 × AreOfDump calls
