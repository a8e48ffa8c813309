-- The file of a table.
--     table_grammar      the grammar of its body: the magic of its layout, the number of rows, the rows
--     table_file      the file of rows in a layout
use Rattle.std.specs.Prelude.{⊤, ℕ, List, Option, Some, None}
use Rattle.std.specs.Int.{w32}
use Rattle.wire_bytes.specs.Layout.{IsNumber}
use Rattle.wire_bytes.specs.Seal.{sealed}
use Rattle.wire_bytes.specs.Grammar.{Grammar, field, followed_by, seen_as, counted}
use Rattle.attr_tables.specs.declared.layouts.TableLayout.{TableLayout}
use Rattle.attr_tables.specs.declared.file.TableFile.{TableFile}
use Rattle.attr_tables.specs.declared.file.TableFault.{TableFault}
use Rattle.attr_tables.specs.declared.file.TableFault.TheVariants.{BadTable, Memory}
use Rattle.attr_tables.specs.Layout.{Rows, row_bytes, magic_of, IsNext, IsTable}
use Rattle.attr_tables.specs.TableLaws.{sees_table}

-- rows behind their number, each of which breaks at its first byte
abbrev pub rows_grammar : TableLayout → Grammar Rows
rows_grammar layout = counted w32 (IsNumber w32) (IsNext layout) (row_bytes layout)

abbrev pub table_grammar : Grammar TableFile
table_grammar =
    seen_as (followed_by (field (λ _. ⊤) magic_of) rows_grammar) (λ file. IsTable file.layout file.table)
    (λ file. (file.layout, file.table))
    (λ p. record { layout = p.0; table = p.1 }) sees_table

-- the file of rows in a layout
abbrev pub table_file : TableLayout → Rows → List ℕ
table_file layout rows = sealed (table_grammar.print (record { layout = layout; table = rows }))

-- the offset that a fault tells
abbrev pub offset_of : TableFault → Option ℕ
offset_of (BadTable offset) = Some offset
offset_of Memory = None
