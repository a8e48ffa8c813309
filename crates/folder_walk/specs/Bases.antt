-- What a dump calls before it puts.
--     ComparesOne, ListsSoFar, ListsDone      one directory of the last backup, those so far, all of them
--     RemovesAll      the paths that leave are removed
--     MakesBase      the base of a dump of either kind
use Rattle.std.specs.Prelude.{◌≡◌, ℕ, Bool, cond, List, [], ◌∷◌, ◌++◌, map, reverse, Option, Some, None, Result, Ok, Err, ⊤, ◌⊎◌}
use Rattle.std.specs.List.{filter}
use Rattle.attr_records.specs.Items.{Tree, is_dir}
use Rattle.attr_records.specs.Trees.{IsTree}
use Rattle.backup_rules.specs.declared.lines.Line.{Line}
use Rattle.backup_rules.specs.declared.lines.Kind.{Kind}
use Rattle.receipts.specs.declared.session.SessionName.{SessionName}
use Rattle.office_model.specs.declared.answer.NamedNode.{NamedNode}
use Rattle.office_model.specs.declared.event.Event.{Event}
use Rattle.office_model.specs.declared.event.Event.TheVariants as E
use Rattle.office_model.specs.declared.refusal.Refusal.{Refusal}
use Rattle.office_model.specs.Step.{Call}
use Rattle.call_scripts.specs.Scripts.{Script, AreAnswered, Begins}
use Rattle.folder_laws.specs.declared.known.Known.{Known}
use Rattle.folder_laws.specs.Calls.{remove_calls}
use Rattle.folder_laws.specs.Compares.{root}
use Rattle.folder_laws.specs.Lists.{leaves, known_at, gone_from, known_from, list_call, AreLists, backups_call, last_line, IsBase}
use Rattle.folder_laws.specs.DumpScript.{list_script, base_script}
use Rattle.folder_walk.specs.declared.refusals.DumpRefusal.{DumpRefusal}
use Rattle.folder_walk.specs.Causes.{refusal_of}
use Rattle.folder_walk.specs.Events.{AreOfDump}
use Rattle.folder_walk.specs.Puts.{AnsweredOr, EndSo}

-- ---- one call

-- the call was refused so, or it wasn't made
abbrev pub IsFailedWith : {P : Type 0} → (P → List Call → P → Type 0) → P → P → Event → Option Refusal → Type 0
IsFailedWith moves old new event None = moves old [] new
IsFailedWith moves old new event (Some refusal) = moves old ((event, Err refusal) ∷ []) new

abbrev pub IsFailedCall : {P : Type 0} → (P → List Call → P → Type 0) → P → P → Event → DumpRefusal → Type 0
IsFailedCall moves old new event fault = IsFailedWith moves old new event (refusal_of fault)

abbrev pub number_of : Option Line → Option ℕ
number_of None = None
number_of (Some line) = Some line.number

-- the host's backups were asked for; this is the number of the last
pub record LastAsked {P : Type 0} (moves : P → List Call → P → Type 0) (old new : P) (host : List ℕ) (last : Option ℕ) : Type 0 where
  pub lines : List Line
  pub next : ℕ
  pub dump : Option SessionName
  pub moved : moves old (backups_call host lines next dump ∷ []) new
  pub last_is : last ≡ number_of (last_line lines)

-- ---- a directory

abbrev pub known_here : Option (List ℕ) → Bool → Known
known_here directory there = record { directory = directory; there = there }

-- the paths of a directory that leave, if the folder has it
abbrev pub gone_of : Tree → Option (List ℕ) → Bool → List (List ℕ × Bool) → List (List ℕ)
gone_of tree directory there named = cond there (map (λ n. n.0) (filter (leaves tree directory) named)) []

-- the directories in a directory
abbrev pub knowns_of : Tree → Option (List ℕ) → Bool → List (List ℕ × Bool) → List Known
knowns_of tree directory there named = map (known_at tree (known_here directory there)) (filter (λ n. n.1) named)

-- what a listing leaves on the stack and among the paths that leave
pub record IsCompared (tree : Tree) (known : Known) (entries : List NamedNode) (pending : List Known) (gone : List (List ℕ))
    (pending' : List Known) (gone' : List (List ℕ)) : Type 0 where
  pub pending_is : pending' ≡ pending ++ reverse (known_from tree known entries)
  pub gone_is : gone' ≡ gone ++ gone_from tree known entries

-- the call of a listing that failed: it was refused; else it wasn't made, or was answered before something else failed
abbrev pub ListFails : List ℕ → ℕ → Known → List Call → Option Refusal → Type 0
ListFails host number known calls None = (calls ≡ []) ⊎ ((entries : List NamedNode) × (calls ≡ list_call host number known entries ∷ []))
ListFails host number known calls (Some refusal) = calls ≡ (E.List host number known.directory, Err refusal) ∷ []

abbrev pub ListEnds : Option Tree → List ℕ → ℕ → Known → List Known → List (List ℕ) → List Known → List (List ℕ) → List Call
    → Result ⊤ DumpRefusal → Type 0
ListEnds told host number known pending gone pending' gone' calls (Ok _) =
    (entries : List NamedNode) × (calls ≡ list_call host number known entries ∷ [])
    × ((tree : Tree) → told ≡ Some tree → IsTree is_dir tree → IsCompared tree known entries pending gone pending' gone')
ListEnds told host number known pending gone pending' gone' calls (Err fault) = ListFails host number known calls (refusal_of fault)

-- a directory of the last backup was listed and compared
pub record ComparesOne {P : Type 0} (moves : P → List Call → P → Type 0) (old new : P) (told : Option Tree) (host : List ℕ) (number : ℕ)
    (known : Known) (pending : List Known) (gone : List (List ℕ)) (pending' : List Known) (gone' : List (List ℕ))
    (result : Result ⊤ DumpRefusal) : Type 0 where
  pub calls : List Call
  pub moved : moves old calls new
  pub so : EndSo result calls
  pub ends : ListEnds told host number known pending gone pending' gone' calls result

-- ---- all directories

-- those so far; the stack has the next one last
pub record ListsSoFar {P : Type 0} (moves : P → List Call → P → Type 0) (old new : P) (told : Option Tree) (host : List ℕ) (number : ℕ)
    (pending : List Known) (gone : List (List ℕ)) : Type 0 where
  pub calls : List Call
  pub moved : moves old calls new
  pub answered : AreAnswered calls
  pub of_dump : AreOfDump calls
  pub are : (tree : Tree) → told ≡ Some tree → IsTree is_dir tree → AreLists tree host number (root ∷ []) [] calls (reverse pending) gone

-- all of them, from which these paths leave
pub record ListsDone {P : Type 0} (moves : P → List Call → P → Type 0) (old new : P) (told : Option Tree) (host : List ℕ) (number : ℕ)
    (gone : List (List ℕ)) : Type 0 where
  pub calls : List Call
  pub moved : moves old calls new
  pub answered : AreAnswered calls
  pub of_dump : AreOfDump calls
  pub are : (tree : Tree) → told ≡ Some tree → IsTree is_dir tree → AreLists tree host number (root ∷ []) [] calls [] gone

-- the calls begin the script of the listings, whatever is called behind it
abbrev pub BeginsLists : Tree → List ℕ → ℕ → List Call → Type 0
BeginsLists tree host number calls =
    (dump : SessionName) (next : Script) → Begins (list_script tree host number dump next (root ∷ []) []) calls

pub record ListsStop {P : Type 0} (moves : P → List Call → P → Type 0) (old new : P) (told : Option Tree) (host : List ℕ) (number : ℕ)
    (fault : DumpRefusal) : Type 0 where
  pub calls : List Call
  pub moved : moves old calls new
  pub so : AnsweredOr (refusal_of fault) calls
  pub of_dump : AreOfDump calls
  pub begins : (tree : Tree) → told ≡ Some tree → IsTree is_dir tree → BeginsLists tree host number calls

-- ---- removals

-- all paths were removed; or those before one whose removal was refused
abbrev pub RemovesEnd : SessionName → List (List ℕ) → List Call → Result ⊤ DumpRefusal → Type 0
RemovesEnd dump gone calls (Ok _) = calls ≡ remove_calls dump gone
RemovesEnd dump gone calls (Err fault) =
    (done : List (List ℕ)) × (path : List ℕ) × (more : List (List ℕ)) × (refusal : Refusal) × (gone ≡ done ++ path ∷ more)
    × (refusal_of fault ≡ Some refusal) × (calls ≡ remove_calls dump done ++ (E.Remove dump path None, Err refusal) ∷ [])

pub record RemovesAll {P : Type 0} (moves : P → List Call → P → Type 0) (old new : P) (dump : SessionName) (gone : List (List ℕ))
    (result : Result ⊤ DumpRefusal) : Type 0 where
  pub calls : List Call
  pub moved : moves old calls new
  pub ends : RemovesEnd dump gone calls result

-- ---- the base

-- the base is ready; or the calls begin its script, whatever is called behind it
abbrev pub BaseEnds : Kind → Tree → List ℕ → SessionName → List Call → Result ⊤ DumpRefusal → Type 0
BaseEnds kind tree host dump calls (Ok _) = IsBase kind tree host dump calls
BaseEnds kind tree host dump calls (Err fault) = (next : Script) → Begins (base_script kind tree host dump next) calls

pub record MakesBase {P : Type 0} (moves : P → List Call → P → Type 0) (old new : P) (told : Option Tree) (kind : Kind) (host : List ℕ)
    (dump : SessionName) (result : Result ⊤ DumpRefusal) : Type 0 where
  pub calls : List Call
  pub moved : moves old calls new
  pub so : EndSo result calls
  pub of_dump : AreOfDump calls
  pub ends : (tree : Tree) → told ≡ Some tree → IsTree is_dir tree → BaseEnds kind tree host dump calls result
