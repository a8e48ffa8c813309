-- The files that a commit writes.
--     written pooled listed host number files      the changes: those of the pool's index, that of the host's index, and of its other files
--     host_part      those of the host
use Rattle.std.specs.Prelude.{ℕ, Bool, true, false, List, [], ◌∷◌, ◌++◌, Option, Some, None}
use Rattle.disk_trait.specs.declared.ids.FileId.{FileId}
use Rattle.disk_trait.specs.declared.ids.FileId.TheVariants as F
use Rattle.intent_journal.specs.declared.changes.Change.{Change}
use Rattle.store_commits.specs.declared.files.Former.{Former}
use Rattle.store_commits.specs.declared.files.HostFiles.{HostFiles}

abbrev pub change_of : FileId → List ℕ → Change
change_of file bytes = record { file = file; bytes = Some bytes }

-- the former newest's table, if it changes
abbrev pub former_part : ℕ → Option Former → List Change
former_part host None = []
former_part host (Some former) = change_of (F.Table host former.number) former.table ∷ []

-- the file of a host's partial is taken away
abbrev pub unparked_change : ℕ → Change
unparked_change host = record { file = F.Partial host; bytes = None }

-- if the host has one
abbrev pub partial_part : ℕ → Bool → List Change
partial_part host false = []
partial_part host true = unparked_change host ∷ []

-- what is there behind the new table and the counts
abbrev pub last_part : ℕ → Option Former → Bool → List Change
last_part host former parked = former_part host former ++ partial_part host parked

-- the new table, the counts, the former newest's table, and the host's partial
abbrev pub other_part : ℕ → ℕ → HostFiles → List Change
other_part host number files =
    change_of (F.Table host number) files.table ∷ change_of (F.Counts host) files.counts ∷ last_part host files.former files.parked

abbrev pub written : List Change → List Change → ℕ → ℕ → HostFiles → List Change
written pooled listed host number files = (pooled ++ listed) ++ other_part host number files

abbrev pub index_change : ℕ → Option (List ℕ) → Change
index_change host index = record { file = F.Host host; bytes = index }

-- all changes of the host, by what its index's file gets
abbrev pub host_part : ℕ → ℕ → Option (List ℕ) → HostFiles → List Change
host_part host number index files = index_change host index ∷ other_part host number files
