-- A dump of a folder over a port.
--     opening_call      an opening, by what it was answered with
--     Dumped      it was committed: its calls are those of a dump of the folder's tree
--     Stopped      it was refused: its calls begin the script, and an open dump was aborted
use Rattle.std.specs.Prelude.{◌≡◌, ℕ, List, [], ◌∷◌, ◌++◌, map, Option, Some, Result, Ok, Err, ◌⊎◌}
use Rattle.attr_records.specs.Items.{Tree, is_dir}
use Rattle.attr_records.specs.Trees.{IsTree}
use Rattle.backup_rules.specs.declared.lines.Kind.{Kind}
use Rattle.receipts.specs.declared.session.SessionName.{SessionName}
use Rattle.office_model.specs.declared.event.Event.TheVariants as E
use Rattle.office_model.specs.declared.answer.Answer.TheVariants as A
use Rattle.office_model.specs.Meaning.{Reply}
use Rattle.office_model.specs.Step.{Call}
use Rattle.call_scripts.specs.Scripts.{each_of, AreAnswered, Begins}
use Rattle.call_scripts.specs.Moments.{Gave}
use Rattle.folder_laws.specs.Calls.{open_call, already_call, ArePuts, commit_call, dump_calls}
use Rattle.folder_laws.specs.Lists.{IsBase}
use Rattle.folder_laws.specs.DumpScript.{puts_script, base_script, dump_script}
use Rattle.folder_walk.specs.declared.asking.Opening.{Opening}
use Rattle.folder_walk.specs.declared.asking.Opening.TheVariants as O
use Rattle.folder_walk.specs.declared.refusals.DumpRefusal.{DumpRefusal}
use Rattle.folder_walk.specs.Causes.{refusal_of}
use Rattle.folder_walk.specs.Events.{AreOfDump}
use Rattle.folder_walk.specs.Puts.{AnsweredOr, EndSo}

-- ---- an opening

-- by what it was answered with
abbrev pub opening_call : List ℕ → Kind → ℕ → Opening → Call
opening_call host kind now (O.Dump dump) = open_call host kind now dump
opening_call host kind now (O.Already number) = already_call host kind now number

-- ---- an open dump

-- its base, the puts of all rows, and the commit as the backup of this number; or what begins this
abbrev pub FillEnds : Kind → Tree → List ℕ → SessionName → List ℕ → List Call → Result ℕ DumpRefusal → Type 0
FillEnds kind tree host dump later calls (Ok number) =
    (base : List Call) × (puts : List Call) × (moment : ℕ)
    × IsBase kind tree host dump base × ArePuts dump tree puts × (later ≡ moment ∷ [])
    × (calls ≡ base ++ (puts ++ commit_call dump moment number ∷ []))
FillEnds kind tree host dump later calls (Err fault) =
    Begins (base_script kind tree host dump (puts_script dump tree (each_of (map (E.Commit dump) later)))) calls

pub record Fills {P : Type 0} (moves : P → List Call → P → Type 0) (old new : P) (told : Option Tree) (moments moments' : Option (List ℕ))
    (kind : Kind) (host : List ℕ) (dump : SessionName) (result : Result ℕ DumpRefusal) : Type 0 where
  pub later : List ℕ
  pub calls : List Call
  pub clock : Gave moments later moments'
  pub moved : moves old calls new
  pub so : EndSo result calls
  pub of_dump : AreOfDump calls
  pub ends : (tree : Tree) → told ≡ Some tree → IsTree is_dir tree → FillEnds kind tree host dump later calls result

-- ---- a dump

-- these calls are a dump of the tree that was committed as the backup of this number
pub record IsDump (kind : Kind) (tree : Tree) (host : List ℕ) (now : ℕ) (later : List ℕ) (number : ℕ) (calls : List Call) : Type 0 where
  pub moment : ℕ
  pub dump : SessionName
  pub base : List Call
  pub puts : List Call
  pub is_base : IsBase kind tree host dump base
  pub are_puts : ArePuts dump tree puts
  pub later_is : later ≡ moment ∷ []
  pub calls_are : calls ≡ dump_calls host kind now moment dump number base puts

-- the opening was answered with the number of a backup, and nothing was called behind it; no office answers so
pub record IsKnown (kind : Kind) (host : List ℕ) (now : ℕ) (later : List ℕ) (number : ℕ) (calls : List Call) : Type 0 where
  pub later_is : later ≡ []
  pub calls_are : calls ≡ already_call host kind now number ∷ []

-- A dump was committed as the backup of this number. The clock was read as it began and as it was committed. The calls lead from the
-- port's state before to that after, each was answered and is of an event that a dump calls, and where the folder tells its tree, they
-- are those of a dump of it; or the opening alone was called, if it was answered with that number.
pub record Dumped {P : Type 0} (moves : P → List Call → P → Type 0) (old new : P) (told : Option Tree) (moments moments' : Option (List ℕ))
    (kind : Kind) (host : List ℕ) (number : ℕ) : Type 0 where
  pub now : ℕ
  pub later : List ℕ
  pub calls : List Call
  pub clock : Gave moments (now ∷ later) moments'
  pub moved : moves old calls new
  pub answered : AreAnswered calls
  pub of_dump : AreOfDump calls
  pub whole : (tree : Tree) → told ≡ Some tree → IsTree is_dir tree
      → IsDump kind tree host now later number calls ⊎ IsKnown kind host now later number calls

-- the abort of the dump that was opened, if one was
abbrev pub AreAborts : List Call → List Call → Type 0
AreAborts ((asked, Ok (A.Dump dump)) ∷ calls) aborts = (reply : Reply) × (aborts ≡ (E.Abort dump, reply) ∷ [])
AreAborts calls aborts = aborts ≡ []

-- A dump was refused so. The calls up to there lead, with an abort of the dump if it was open, from the port's state before to that
-- after. They were answered, but for the last if that is what was refused, and are of events that a dump calls; and where the folder
-- tells its tree, they begin the script of a dump of it, in which the commit stands only once the clock was read a second time.
pub record Stopped {P : Type 0} (moves : P → List Call → P → Type 0) (old new : P) (told : Option Tree) (moments moments' : Option (List ℕ))
    (kind : Kind) (host : List ℕ) (fault : DumpRefusal) : Type 0 where
  pub now : ℕ
  pub later : List ℕ
  pub calls : List Call
  pub aborts : List Call
  pub clock : Gave moments (now ∷ later) moments'
  pub moved : moves old (calls ++ aborts) new
  pub so : AnsweredOr (refusal_of fault) calls
  pub of_dump : AreOfDump calls
  pub aborted : AreAborts calls aborts
  pub begins : (tree : Tree) → told ≡ Some tree → IsTree is_dir tree → Begins (dump_script host kind now later tree) calls
