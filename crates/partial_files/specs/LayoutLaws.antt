-- Rows of a partial dump each of which comes next are those of a table without deletion marks, and back.
--     parts_grammar      `RPD1`, the host's number, the kind, the start, the number of rows, the rows
use Rattle.std.specs.Prelude.{⊤, ℕ, [], ◌∷◌, ◌++◌}
use Rattle.std.specs.Int.{w32, w64}
use Rattle.std.proofs.Common.{refl}
use Rattle.wire_bytes.specs.Layout.{number_bytes, IsNumber}
use Rattle.wire_bytes.specs.Breaks.{AreItems}
use Rattle.wire_bytes.specs.Grammar.{Grammar, field, number, followed_by, seen_as, Sees, magic, counted}
use Rattle.attr_tables.specs.declared.layouts.TableLayout.TheVariants.{Second}
use Rattle.attr_tables.specs.Layout.{Rows, row_bytes, IsNext as IsNextRow}
use Rattle.attr_tables.specs.TableLaws.{next_from_order, order_from_next}
use Rattle.backup_rules.specs.declared.lines.Kind.{Kind}
use Rattle.backup_rules.specs.Layout.{kind_bytes}
use Rattle.partial_files.specs.declared.partial.PartialFile.{PartialFile}
use Rattle.partial_files.specs.Layout.{partial_magic, HasNoMark, IsNext, IsPartial}

next_from_rows : (before rows : Rows) → AreItems (IsNextRow Second) before rows → HasNoMark rows → AreItems IsNext before rows
next_from_rows before [] are unmarked = tt
next_from_rows before (row ∷ rows) are unmarked =
    (((are.0.0, unmarked.0), are.0.1), next_from_rows (before ++ row ∷ []) rows are.1 unmarked.1)

rows_from_next : (before rows : Rows) → AreItems IsNext before rows → AreItems (IsNextRow Second) before rows × HasNoMark rows
rows_from_next before [] are = (tt, tt)
rows_from_next before (row ∷ rows) are =
    let rest = rows_from_next (before ++ row ∷ []) rows are.1 in (((are.0.0.0, are.0.1), rest.0), (are.0.0.1, rest.1))

-- the number of rows, and the rows
abbrev pub rows_grammar : Grammar Rows
rows_grammar = counted w32 (IsNumber w32) IsNext (row_bytes Second)

-- the kind, the start, and the rows
abbrev pub dump_grammar : Grammar (Kind × (ℕ × Rows))
dump_grammar = followed_by (field (λ _. ⊤) kind_bytes) (λ _. followed_by (number w64 (IsNumber w64)) (λ _. rows_grammar))

-- what the file has in turn
abbrev pub parts_grammar : ℕ → Grammar (Unit {0} × (Unit {0} × (Kind × (ℕ × Rows))))
parts_grammar host = followed_by (magic partial_magic) (λ _. followed_by (magic (number_bytes w32 host)) (λ _. dump_grammar))

abbrev pub parts_of : PartialFile → Unit {0} × (Unit {0} × (Kind × (ℕ × Rows)))
parts_of file = (tt, (tt, (file.kind, (file.start, file.rows))))

abbrev pub made_of : Unit {0} × (Unit {0} × (Kind × (ℕ × Rows))) → PartialFile
made_of p = record { kind = p.1.1.0; start = p.1.1.1.0; rows = p.1.1.1.1 }

pub partial_sees : (host : ℕ) → Sees (parts_grammar host) IsPartial parts_of made_of
unfolding field followed_by seen_as
partial_sees host = record {
  fits = λ file is.
      let next = next_from_rows [] file.rows (next_from_order Second [] file.rows is.table.in_order is.table.each) is.no_mark in
      (tt, (tt, (tt, (is.start, (is.table.count, next)))));
  made = λ file is. refl;
  makes = λ p fits.
      let each = rows_from_next [] p.1.1.1.1 fits.1.1.1.1.1 in
      let all = order_from_next Second [] p.1.1.1.1 tt each.0 in record {
        start = fits.1.1.1.0;
        table = record { in_order = all.0; each = all.1; count = fits.1.1.1.1.0 };
        no_mark = each.1;
      };
  parted = λ p fits. refl;
}
