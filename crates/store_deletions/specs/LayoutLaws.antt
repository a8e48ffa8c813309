-- What a deletion writes: no table of the first layout.
--     written_second      by the change of the host's index
use Rattle.std.specs.Prelude.{◌≡◌, ℕ, false, List, [], ◌∷◌, ◌++◌, map, Option, Some, None, option_map}
use Rattle.std.proofs.Common.{refl}
use Rattle.disk_trait.specs.declared.ids.FileId.TheVariants as F
use Rattle.intent_journal.specs.declared.changes.Change.{Change}
use Rattle.attr_tables.specs.declared.layouts.TableLayout.TheVariants.{Second}
use Rattle.attr_tables.specs.Tables.{table_file}
use Rattle.merge_view.specs.Views.{Rows}
use Rattle.ref_counts.specs.Numbers.{Items}
use Rattle.backup_delete.specs.Folds.{Change as TableChange}
use Rattle.office_files.specs.TableLayouts.{is_first_layout, WriteNoFirst}
use Rattle.office_files.specs.TableLayoutLaws.{none_in_both, second_written, none_in_files}
use Rattle.store_deletions.specs.Written.{table_part, counts_change, written}

-- a table that is written, or removed
table_second : (table : Option Rows) → is_first_layout (option_map (table_file Second) table) ≡ false
table_second None = refl
table_second (Some rows) = second_written rows

tables_second : (host : ℕ) (tables : List TableChange) → WriteNoFirst (table_part host tables)
tables_second host [] = tt
tables_second host (table ∷ tables) = (table_second table.1, tables_second host tables)

pub written_second : (index : List Change) (host : ℕ) (tables : List TableChange) (counts : Items)
    → map (λ change. change.file) index ≡ F.Host host ∷ [] → WriteNoFirst (written index host tables counts)
written_second index host tables counts named =
    none_in_both (index ++ table_part host tables) (counts_change host counts ∷ [])
    (none_in_both index (table_part host tables) (none_in_files index (F.Host host ∷ []) named (refl, tt)) (tables_second host tables))
    (refl, tt)
