-- A last backup's tree is compared with a folder's, directory by directory: what leaves an incremental dump.
--     is_gone      the folder lacks a path, or has another kind there where one of the two is a directory
--     gone_in, known_in      the paths of a directory that leave, and the directories in it that are still to be compared
--     Compares      all directories are compared, the next first
use Rattle.std.specs.Prelude.{◌≡◌, ℕ, Bool, true, not, ◌&&◌, cond, List, [], ◌∷◌, ◌++◌, map, Option, Some, None}
use Rattle.std.specs.List.{filter}
use Rattle.attr_records.specs.declared.nodes.Item.{Item}
use Rattle.attr_records.specs.Items.{Tree, is_dir}
use Rattle.attr_records.specs.Trees.{node_at, is_dir_found}
use Rattle.folder_laws.specs.declared.known.Known.{Known}
use Rattle.folder_laws.specs.Walks.{children}

-- the root, which the folder always has
abbrev pub root : Known
root = record { directory = None; there = true }

-- nothing is there, or another kind where one of the two is a directory
abbrev pub is_other : Bool → Option Item → Bool
is_other dir None = true
is_other dir (Some item) = cond dir (not (is_dir item)) (is_dir item)

-- the folder's directory has nothing there, or another kind where one of the two is a directory
abbrev pub is_gone : Tree → Option (List ℕ) → List ℕ × Item → Bool
is_gone seen directory row = is_other (is_dir row.1) (node_at (children seen directory) row.0)

-- the paths of a directory that leave
abbrev pub gone_in : Tree → Tree → Known → List (List ℕ)
gone_in seen base known =
    cond known.there (map (λ row. row.0) (filter (is_gone seen known.directory) (children base known.directory))) []

-- a directory in a directory
abbrev pub known_of : Tree → Known → List ℕ × Item → Known
known_of seen known row =
    record { directory = Some row.0; there = known.there && is_dir_found is_dir (node_at (children seen known.directory) row.0) }

-- the directories in a directory, in the order of their paths
abbrev pub known_in : Tree → Tree → Known → List Known
known_in seen base known = map (known_of seen known) (filter (λ row. is_dir row.1) (children base known.directory))

-- one directory after the other is compared, and those in it come next; the paths that leave are found so
abbrev pub Compares : Tree → Tree → List Known → List (List ℕ) → List Known → List (List ℕ) → Type 0
Compares seen base pending gone [] all = (pending ≡ []) × (all ≡ gone)
Compares seen base pending gone (known ∷ visits) all =
    (rest : List Known) × (pending ≡ known ∷ rest)
    × Compares seen base (known_in seen base known ++ rest) (gone ++ gone_in seen base known) visits all
