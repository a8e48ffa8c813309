-- Laws of the two layouts of tables.
--     second_fits      rows that have a file of the first layout have one of the second
--     first_there      such a file is of the first layout
--     only_rows      the file of a table is that of its rows alone
use Rattle.std.specs.Prelude.{◌≡◌, ℕ, true, List, [], ◌∷◌, Option, Some}
use Rattle.std.specs.List.{AllByRecursion}
use Rattle.std.proofs.Common.{refl, sym, ap, ◌∙◌, arith}
use Rattle.wire_bytes.specs.Grammar.{field, followed_by, seen_as}
use Rattle.wire_bytes.specs.Seal.{sealed}
use Rattle.attr_records.specs.Attributes.{Attributes}
use Rattle.attr_tables.specs.declared.file.TableFile.{TableFile}
use Rattle.attr_tables.specs.declared.layouts.TableLayout.{TableLayout}
use Rattle.attr_tables.specs.declared.layouts.TableLayout.TheVariants.{First, Second}
use Rattle.attr_tables.specs.declared.records.Record.{Record}
use Rattle.attr_tables.specs.declared.records.Record.TheVariants.{File, Dir, Link, Deleted}
use Rattle.attr_tables.specs.Layout.{Rows, IsAttr, IsNode, IsRow, IsTable}
use Rattle.attr_tables.specs.Tables.{table_file}
use Rattle.one_way_layouts.specs.Files.{one_table}
use Rattle.office_files.specs.TableLayouts.{is_first_layout}

attr_fits : (attr : Attributes) → IsAttr First attr → IsAttr Second attr
attr_fits attr is = record { mode = is.mode; uid = is.uid; gid = is.gid; mtime = is.mtime; nanos = omega (arith, is.nanos) }

node_fits : (node : Record) → IsNode First node → IsNode Second node
node_fits (File file) is = (attr_fits file.attr is.0, omega (arith, is.1), is.2, is.3)
node_fits (Dir dir) is = attr_fits dir.attr is
node_fits (Link link) is = (attr_fits link.attr is.0, is.1)
node_fits Deleted is = tt

rows_fit : (rows : Rows) → AllByRecursion (IsRow First) rows → AllByRecursion (IsRow Second) rows
rows_fit [] is = tt
rows_fit (row ∷ rows) is = (record { path = is.0.path; node = node_fits row.1 is.0.node }, rows_fit rows is.1)

pub second_fits : (rows : Rows) → IsTable First rows → IsTable Second rows
second_fits rows is = record { in_order = is.in_order; each = rows_fit rows is.each; count = is.count }

pub first_there : (rows : Rows) → is_first_layout (Some (table_file First rows)) ≡ true
unfolding sealed seen_as followed_by field
first_there rows = refl

some_same : (x y : List ℕ) → Some x ≡ Some y → x ≡ y
some_same x y e = cc

pub only_rows : (layout : TableLayout) (rows others : Rows) (found : Option (List ℕ)) → IsTable layout rows → found ≡ Some (table_file layout rows)
    → IsTable First others → found ≡ Some (table_file First others) → rows ≡ others
only_rows layout rows others found fits is fits' is' =
    ap (λ (t : TableFile). t.table)
    (one_table (record { layout = layout; table = rows }) (record { layout = First; table = others }) fits fits'
    (some_same (table_file layout rows) (table_file First others) (sym is ∙ is')))
