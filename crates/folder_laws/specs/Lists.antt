-- The listings of a last backup that an incremental dump asks for, and what it makes of their answers.
--     gone_from, known_from      of the entries of a listing: the paths that leave, the directories that are listed next
--     AreLists      the calls list the pending directories and those in them, the next first; the paths that leave are found so
--     IsBase      what a dump calls before it puts
use Rattle.std.specs.Prelude.{◌≡◌, ℕ, ◌-◌, Bool, true, false, ◌&&◌, cond, List, [], ◌∷◌, ◌++◌, length, map, Option, Some, None, Ok, slice_get}
use Rattle.std.specs.List.{filter}
use Rattle.attr_records.specs.Items.{Tree, is_dir}
use Rattle.attr_records.specs.Trees.{node_at, is_dir_found}
use Rattle.backup_rules.specs.declared.lines.Line.{Line}
use Rattle.backup_rules.specs.declared.lines.Kind.{Kind}
use Rattle.backup_rules.specs.declared.lines.Kind.TheVariants.{Full, Incr}
use Rattle.receipts.specs.declared.session.SessionName.{SessionName}
use Rattle.tree_frames.specs.declared.nodes.Node.{Node}
use Rattle.tree_frames.specs.declared.nodes.Node.TheVariants as N
use Rattle.office_model.specs.declared.answer.NamedNode.{NamedNode}
use Rattle.office_model.specs.declared.event.Event.TheVariants as E
use Rattle.office_model.specs.declared.answer.Answer.TheVariants as A
use Rattle.office_model.specs.Step.{Call}
use Rattle.folder_laws.specs.Walks.{children}
use Rattle.folder_laws.specs.declared.known.Known.{Known}
use Rattle.folder_laws.specs.Compares.{root, is_other}
use Rattle.folder_laws.specs.Calls.{remove_calls}

abbrev pub is_dir_node : Node → Bool
is_dir_node (N.File file) = false
is_dir_node (N.Dir dir) = true
is_dir_node (N.Link link) = false

-- the path of a name in a directory
abbrev pub path_in : Option (List ℕ) → List ℕ → List ℕ
path_in None name = name
path_in (Some directory) name = directory ++ 47 ∷ name

-- a name of a listing as a path, and whether a directory is there
abbrev pub named_in : Option (List ℕ) → NamedNode → List ℕ × Bool
named_in directory entry = (path_in directory entry.name, is_dir_node entry.node)

-- the folder's directory lacks it, or has another kind there where one of the two is a directory
abbrev pub leaves : Tree → Option (List ℕ) → List ℕ × Bool → Bool
leaves seen directory named = is_other named.1 (node_at (children seen directory) named.0)

-- a directory in a directory
abbrev pub known_at : Tree → Known → List ℕ × Bool → Known
known_at seen known named =
    record { directory = Some named.0; there = known.there && is_dir_found is_dir (node_at (children seen known.directory) named.0) }

-- the paths of a listing that leave
abbrev pub gone_from : Tree → Known → List NamedNode → List (List ℕ)
gone_from seen known entries =
    cond known.there (map (λ named. named.0) (filter (leaves seen known.directory) (map (named_in known.directory) entries))) []

-- the directories of a listing, in the order of their paths
abbrev pub known_from : Tree → Known → List NamedNode → List Known
known_from seen known entries = map (known_at seen known) (filter (λ named. named.1) (map (named_in known.directory) entries))

-- a directory of a backup was listed
abbrev pub list_call : List ℕ → ℕ → Known → List NamedNode → Call
list_call host number known entries = (E.List host number known.directory, Ok (A.Entries entries))

-- from these directories and paths that leave, the calls lead to those directories that are left and to all paths that leave
abbrev pub AreLists : Tree → List ℕ → ℕ → List Known → List (List ℕ) → List Call → List Known → List (List ℕ) → Type 0
AreLists seen host number pending gone [] left all = (pending ≡ left) × (gone ≡ all)
AreLists seen host number pending gone (call ∷ calls) left all =
    (known : Known) × (rest : List Known) × (entries : List NamedNode) × (pending ≡ known ∷ rest)
    × (call ≡ list_call host number known entries)
    × AreLists seen host number (known_from seen known entries ++ rest) (gone ++ gone_from seen known entries) calls left all

-- the backups of a host were asked for
abbrev pub backups_call : List ℕ → List Line → ℕ → Option SessionName → Call
backups_call host lines next dump = (E.Backups host, Ok (A.Backups lines next dump))

abbrev pub last_line : List Line → Option Line
last_line lines = slice_get lines (length lines - 1)

-- without a last backup nothing is listed; else all its directories are, and each path that leaves is removed
abbrev pub AreRemovals : Tree → List ℕ → SessionName → Option Line → List Call → Type 0
AreRemovals seen host dump None calls = calls ≡ []
AreRemovals seen host dump (Some line) calls =
    (lists : List Call) × (gone : List (List ℕ)) × AreLists seen host line.number (root ∷ []) [] lists [] gone
    × (calls ≡ lists ++ remove_calls dump gone)

-- what a dump of this kind calls before it puts: an incremental one removes what leaves
abbrev pub IsBase : Kind → Tree → List ℕ → SessionName → List Call → Type 0
IsBase Full seen host dump calls = calls ≡ []
IsBase Incr seen host dump calls =
    (lines : List Line) × (next : ℕ) × (other : Option SessionName) × (more : List Call)
    × AreRemovals seen host dump (last_line lines) more × (calls ≡ backups_call host lines next other ∷ more)
