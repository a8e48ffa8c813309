-- What a reader of a table's file tells of the rows that it has.
use Rattle.std.specs.Prelude.{◌≡◌, ℕ, List, Option, Some, None, Ok, Err}
use Rattle.std.proofs.Common.{refl, sym, ap, ◌∙◌}
use Rattle.wire_bytes.specs.Grammar.{seen_as}
use Rattle.wire_bytes.specs.GrammarReading.{ReadsSealed}
use Rattle.attr_tables.specs.declared.file.TableFile.{TableFile}
use Rattle.attr_tables.specs.declared.file.TableFault.{TableFault}
use Rattle.attr_tables.specs.declared.file.TableFault.TheVariants.{BadTable}
use Rattle.attr_tables.specs.Tables.{table_grammar, table_file, offset_of}
use Rattle.merge_view.specs.Views.{Rows}
use Rattle.backup_views.specs.Stored.{IsTableFile}

some_is : {A : Type 0} {x y : A} → Some x ≡ Some y → x ≡ y
some_is e = cc

-- the rows that were read are the file's
pub read_is : (bytes : List ℕ) (file : TableFile) → ReadsSealed offset_of (λ f. f) table_grammar bytes (Ok file) → IsTableFile file.table (Some bytes)
unfolding seen_as
read_is bytes file reads = record { layout = file.layout; fits = reads.found.0; is = ap Some reads.found.1 }

-- and no others are
pub read_one : (bytes : List ℕ) (file : TableFile) → ReadsSealed offset_of (λ f. f) table_grammar bytes (Ok file) → (rows : Rows)
    → IsTableFile rows (Some bytes) → rows ≡ file.table
unfolding seen_as
read_one bytes file reads rows is =
    sym (ap (λ (f : TableFile). f.table) (reads.back (record { layout = is.layout; table = rows }) is.fits (some_is is.is)))

-- a file at which a reader breaks off is of no rows
pub read_none : (bytes : List ℕ) (fault : TableFault) (offset : ℕ) → fault ≡ BadTable offset
    → ReadsSealed offset_of (λ f. f) table_grammar bytes (Err fault) → (rows : Rows) → IsTableFile rows (Some bytes) → ⊥
unfolding seen_as
read_none bytes fault offset is_bad reads rows is =
    step (sym (ap offset_of is_bad) ∙ reads.back (record { layout = is.layout; table = rows }) is.fits (some_is is.is))
  where
    step : Some offset ≡ None → ⊥
    step e = cc
