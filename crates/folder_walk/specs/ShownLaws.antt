-- The committed tree is the folder's, where the port's moves are legal histories.
use Rattle.std.specs.Prelude.{◌≡◌, ℕ, List, [], Option, Some, ◌⊎◌}
use Rattle.std.proofs.Common.{subst, inl, inr}
use Rattle.attr_records.specs.Items.{Tree, is_dir}
use Rattle.attr_records.specs.Trees.{IsTree}
use Rattle.backup_rules.specs.declared.lines.Kind.{Kind}
use Rattle.office_model.specs.Office.{Office, Names, IsSound}
use Rattle.office_model.specs.Step.{Call, State, Running}
use Rattle.office_model.specs.History.{Leads}
use Rattle.folder_laws.specs.DumpLaws.{Committed, not_already}
use Rattle.folder_laws.specs.ShownLaws.{dump_shows}
use Rattle.folder_walk.specs.Dumps.{IsDump, IsKnown, Dumped}

-- the calls of a dump, which are a legal history
pub is_dump : (kind : Kind) (tree : Tree) (host : List ℕ) (now : ℕ) (later : List ℕ) (number : ℕ) (calls : List Call) (office : Office) (names : Names)
    (faults : ℕ) (state' : State) (faults' : ℕ) → Leads (Running office names) faults calls state' faults'
    → IsDump kind tree host now later number calls ⊎ IsKnown kind host now later number calls → IsDump kind tree host now later number calls
is_dump kind tree host now later number calls office names faults state' faults' legal (inl is) = is
is_dump kind tree host now later number calls office names faults state' faults' legal (inr known) =
    absurd (not_already office names faults host kind now number [] state' faults'
    (subst (λ cs. Leads (Running office names) faults cs state' faults') known.calls_are legal))

-- a dump over a port whose moves from here are legal histories from a sound office
pub committed_tree : {P : Type 0} (moves : P → List Call → P → Type 0) (old new : P) (told : Option Tree) (moments moments' : Option (List ℕ))
    (kind : Kind) (host : List ℕ) (number : ℕ) (tree : Tree) (office : Office) (names : Names) (faults : ℕ) (state' : State) (faults' : ℕ)
    → ((calls : List Call) → moves old calls new → Leads (Running office names) faults calls state' faults')
    → IsSound office → IsTree is_dir tree → told ≡ Some tree → Dumped moves old new told moments moments' kind host number
    → Committed host number tree state'
committed_tree moves old new told moments moments' kind host number tree office names faults state' faults' legal sound is_tree is dumped =
    let d = is_dump kind tree host dumped.now dumped.later number dumped.calls office names faults state' faults' (legal dumped.calls dumped.moved)
    (dumped.whole tree is is_tree) in
    dump_shows host d.moment d.dump number tree d.puts d.are_puts state' faults' is_tree kind dumped.now d.base office names faults sound d.is_base
    (subst (λ calls. Leads (Running office names) faults calls state' faults') d.calls_are (legal dumped.calls dumped.moved))
