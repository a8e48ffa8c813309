-- The files that a park or a drop of a partial writes.
--     change_to file bytes      what a file has then; None if it is absent
--     host_part host counts partial      the changes of a host's counts and of its partial
use Rattle.std.specs.Prelude.{ℕ, List, [], ◌∷◌, Option, Some}
use Rattle.disk_trait.specs.declared.ids.FileId.{FileId}
use Rattle.disk_trait.specs.declared.ids.FileId.TheVariants as F
use Rattle.intent_journal.specs.declared.changes.Change.{Change}

abbrev pub change_to : FileId → Option (List ℕ) → Change
change_to file bytes = record { file = file; bytes = bytes }

abbrev pub host_part : ℕ → List ℕ → Option (List ℕ) → List Change
host_part host counts partial = change_to (F.Counts host) (Some counts) ∷ change_to (F.Partial host) partial ∷ []
