-- A put for each row of a folder's tree, in the order of the paths.
use Rattle.std.specs.Prelude.{◌≡◌, ℕ, Bool, List, [], ◌∷◌, ◌++◌, Option, Some, None, Result, Ok, Err, true, map, reverse, length, drop, ⊤}
use Rattle.std.specs.List.{filter}
use Rattle.attr_records.specs.declared.nodes.Item.{Item}
use Rattle.attr_records.specs.declared.nodes.Item.TheVariants as I
use Rattle.attr_records.specs.declared.nodes.File.{File}
use Rattle.attr_records.specs.Items.{Tree, is_dir}
use Rattle.attr_records.specs.Trees.{node_at, IsTree}
use Rattle.folder_trait.specs.Folders.{found_of}
use Rattle.folder_trait.specs.declared.found.FoundNode.{FoundNode}
use Rattle.folder_trait.specs.declared.found.FoundFile.{FoundFile}
use Rattle.folder_laws.specs.Walks.{is_open}
use Rattle.folder_laws.specs.Calls.{piece_calls, IsPut, ArePuts}
use Rattle.folder_laws.specs.DumpScript.{item_script, puts_script}
use Rattle.tree_frames.specs.Frames.{pieces}
use Rattle.receipts.specs.declared.session.SessionName.{SessionName}
use Rattle.office_model.specs.declared.event.Event.{Event}
use Rattle.office_model.specs.declared.event.Event.TheVariants as E
use Rattle.office_model.specs.declared.event.PutItem.TheVariants.{Staged}
use Rattle.office_model.specs.declared.refusal.Refusal.{Refusal}
use Rattle.office_model.specs.Step.{Call}
use Rattle.call_scripts.specs.Scripts.{Script, each_then, Begins, AreAnswered, EndRefused}
use Rattle.folder_walk.specs.declared.rows.Row.{Row}
use Rattle.folder_walk.specs.declared.refusals.DumpRefusal.{DumpRefusal}
use Rattle.folder_walk.specs.Rows.{row_found, rows_found}
use Rattle.folder_walk.specs.Causes.{refusal_of}
use Rattle.folder_walk.specs.Events.{AreOfDump}

-- this call was made, and refused so
abbrev pub IsRefusedCall : {P : Type 0} → (P → List Call → P → Type 0) → P → P → Event → Option Refusal → Type 0
IsRefusedCall moves old new event None = ⊥
IsRefusedCall moves old new event (Some refusal) = moves old ((event, Err refusal) ∷ []) new

-- why a call failed: it was refused
abbrev pub IsCallFault : {P : Type 0} → (P → List Call → P → Type 0) → P → P → Event → DumpRefusal → Type 0
IsCallFault moves old new event fault = IsRefusedCall moves old new event (refusal_of fault)

-- all calls were answered, or the last was refused so
abbrev pub AnsweredOr : Option Refusal → List Call → Type 0
AnsweredOr None calls = AreAnswered calls
AnsweredOr (Some refusal) calls = EndRefused refusal calls

-- the answers to the calls, by what came of them: none was refused but the last, and that if a refusal is handed on
abbrev pub EndSo : {A : Type 0} → Result A DumpRefusal → List Call → Type 0
EndSo (Ok _) calls = AreAnswered calls
EndSo (Err fault) calls = AnsweredOr (refusal_of fault) calls

-- a row was put; or the calls begin its script, whatever is called behind it
abbrev pub PutEnds : {A : Type 0} → SessionName → List ℕ × Item → List Call → Result A DumpRefusal → Type 0
PutEnds dump row calls (Ok _) = IsPut dump row calls
PutEnds dump row calls (Err fault) = (next : Script) → Begins (item_script dump row.0 row.1 next) calls

-- an entry of the folder was put
pub record PutsEntry {P A : Type 0} (moves : P → List Call → P → Type 0) (old new : P) (told : Option Tree) (dump : SessionName)
    (path : List ℕ) (node : FoundNode) (result : Result A DumpRefusal) : Type 0 where
  pub calls : List Call
  pub moved : moves old calls new
  pub so : EndSo result calls
  pub of_dump : AreOfDump calls
  pub ends : (tree : Tree) → told ≡ Some tree → (item : Item) → node_at tree path ≡ Some item → node ≡ found_of item
      → PutEnds dump (path, item) calls result

-- ---- a large file

-- the put of a file that the folder lists, whose bytes are in a stage
abbrev pub found_put : SessionName → List ℕ → FoundFile → ℕ → Event
found_put dump path file stage = E.Put dump path (Staged (record { attr = file.attr; group = file.group; stage = stage })) None

-- the pieces of a file before a place were taken by a stage
pub record Taken (stage : ℕ) (bytes : List ℕ) (from : ℕ) (calls : List Call) : Type 0 where
  pub done : List (List ℕ)
  pub calls_are : calls ≡ piece_calls stage done
  pub split : pieces bytes ≡ done ++ pieces (drop from bytes)

-- so far the pieces of a file of this size before a place were taken, where the folder tells its bytes
pub record TakesSoFar {P : Type 0} (moves : P → List Call → P → Type 0) (old new : P) (told : Option Tree) (path : List ℕ)
    (size stage from : ℕ) : Type 0 where
  pub calls : List Call
  pub moved : moves old calls new
  pub answered : AreAnswered calls
  pub of_dump : AreOfDump calls
  pub taken : (tree : Tree) → told ≡ Some tree → (file : File) → node_at tree path ≡ Some (I.File file) → size ≡ length file.bytes
      → Taken stage file.bytes from calls

-- a stage took all pieces of a file; or the calls begin the script of that, whatever is called behind it
abbrev pub TakeEnds : ℕ → List ℕ → List Call → Result Bool DumpRefusal → Type 0
TakeEnds stage bytes calls (Ok whole) = (whole ≡ true) × (calls ≡ piece_calls stage (pieces bytes))
TakeEnds stage bytes calls (Err fault) = (next : Script) → Begins (each_then (map (E.StagePiece stage) (pieces bytes)) next) calls

-- a stage took a file of this size
pub record TakesAll {P : Type 0} (moves : P → List Call → P → Type 0) (old new : P) (told : Option Tree) (path : List ℕ) (size stage : ℕ)
    (result : Result Bool DumpRefusal) : Type 0 where
  pub calls : List Call
  pub moved : moves old calls new
  pub so : EndSo result calls
  pub of_dump : AreOfDump calls
  pub ends : (tree : Tree) → told ≡ Some tree → (file : File) → node_at tree path ≡ Some (I.File file) → size ≡ length file.bytes
      → TakeEnds stage file.bytes calls result

-- ---- a walk

-- what a step of a walk leaves on its stack, which has its next row last
abbrev pub Grows : Tree → List ℕ → List Row → List Row → Result ⊤ DumpRefusal → Type 0
Grows tree path pending pending' (Ok _) = pending' ≡ pending ++ reverse (rows_found tree (Some path))
Grows tree path pending pending' (Err fault) = ⊤

-- the step of a walk at a row that the folder lists: its put, and what lies in it comes on the stack
pub record PutsRow {P : Type 0} (moves : P → List Call → P → Type 0) (old new : P) (told : Option Tree) (dump : SessionName) (row : Row)
    (pending pending' : List Row) (result : Result ⊤ DumpRefusal) : Type 0 where
  pub calls : List Call
  pub moved : moves old calls new
  pub so : EndSo result calls
  pub of_dump : AreOfDump calls
  pub ends : (tree : Tree) → told ≡ Some tree → (item : Item) → node_at tree row.path ≡ Some item → row.node ≡ found_of item
      → PutEnds dump (row.path, item) calls result
  pub grows : (tree : Tree) → told ≡ Some tree → IsTree is_dir tree → (item : Item) → node_at tree row.path ≡ Some item
      → row.node ≡ found_of item → Grows tree row.path pending pending' result

-- a walk of a tree: the rows that were put, those to come, and the stack
pub record Walked (dump : SessionName) (tree : Tree) (calls : List Call) (pending : List Row) : Type 0 where
  pub done : Tree
  pub rest : Tree
  pub split : tree ≡ done ++ rest
  pub asked : ArePuts dump done calls
  pub stack : reverse pending ≡ map row_found (filter (is_open done) rest)

-- so far rows were put, in the order of the tree
pub record PutsSoFar {P : Type 0} (moves : P → List Call → P → Type 0) (old new : P) (told : Option Tree) (dump : SessionName)
    (pending : List Row) : Type 0 where
  pub calls : List Call
  pub moved : moves old calls new
  pub answered : AreAnswered calls
  pub of_dump : AreOfDump calls
  pub walked : (tree : Tree) → told ≡ Some tree → IsTree is_dir tree → Walked dump tree calls pending

-- all rows were put; or the calls begin the script of that, whatever is called behind it
abbrev pub PutsOf : SessionName → Tree → List Call → Result ⊤ DumpRefusal → Type 0
PutsOf dump tree calls (Ok _) = ArePuts dump tree calls
PutsOf dump tree calls (Err fault) = (next : Script) → Begins (puts_script dump tree next) calls

-- each row of the folder was put, where it tells its tree
pub record PutsAll {P : Type 0} (moves : P → List Call → P → Type 0) (old new : P) (told : Option Tree) (dump : SessionName)
    (result : Result ⊤ DumpRefusal) : Type 0 where
  pub calls : List Call
  pub moved : moves old calls new
  pub so : EndSo result calls
  pub of_dump : AreOfDump calls
  pub puts : (tree : Tree) → told ≡ Some tree → IsTree is_dir tree → PutsOf dump tree calls result
