-- The files that a deletion writes and removes.
--     table_change, table_part      the changes of tables: new bytes, or none of one that is removed
--     counts_change      the change of the host's counts
--     written index host tables counts      all changes: that of the host's index, its tables' and its counts'
--     AreFit      the tables that are written are such as a file may have
use Rattle.std.specs.Prelude.{ℕ, List, [], ◌∷◌, ◌++◌, map, Some, IfSome, option_map}
use Rattle.disk_trait.specs.declared.ids.FileId.TheVariants as F
use Rattle.intent_journal.specs.declared.changes.Change.{Change}
use Rattle.attr_tables.specs.declared.layouts.TableLayout.TheVariants.{Second}
use Rattle.attr_tables.specs.Layout.{IsTable}
use Rattle.attr_tables.specs.Tables.{table_file}
use Rattle.ref_counts.specs.Numbers.{Items}
use Rattle.ref_counts.specs.CountsFile.{counts_file}
use Rattle.backup_delete.specs.Folds.{Change as TableChange}

abbrev pub table_change : ℕ → TableChange → Change
table_change host change = record { file = F.Table host change.0; bytes = option_map (table_file Second) change.1 }

abbrev pub table_part : ℕ → List TableChange → List Change
table_part host tables = map (table_change host) tables

abbrev pub counts_change : ℕ → Items → Change
counts_change host counts = record { file = F.Counts host; bytes = Some (counts_file host counts) }

abbrev pub written : List Change → ℕ → List TableChange → Items → List Change
written index host tables counts = (index ++ table_part host tables) ++ counts_change host counts ∷ []

abbrev pub AreFit : List TableChange → Type 0
AreFit [] = Unit {0}
AreFit (change ∷ changes) = IfSome change.1 (IsTable Second) × AreFit changes
