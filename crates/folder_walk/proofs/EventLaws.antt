-- The calls of a dump, one after the other.
use Rattle.std.specs.Prelude.{ℕ, List, [], ◌∷◌, ◌++◌}
use Rattle.receipts.specs.declared.session.SessionName.{SessionName}
use Rattle.office_model.specs.Step.{Call}
use Rattle.folder_laws.specs.Calls.{remove_calls}
use Rattle.folder_walk.specs.Events.{AreOfDump}

pub AreOfDump-append : (xs ys : List Call) → AreOfDump xs → AreOfDump ys → AreOfDump (xs ++ ys)
AreOfDump-append [] ys first rest = rest
AreOfDump-append (x ∷ xs) ys first rest = (first.0, AreOfDump-append xs ys first.1 rest)

pub AreOfDump-removes : (dump : SessionName) (paths : List (List ℕ)) → AreOfDump (remove_calls dump paths)
AreOfDump-removes dump [] = tt
AreOfDump-removes dump (path ∷ paths) = (tt, AreOfDump-removes dump paths)
