-- Rows each of which comes next are those of a table.
use Rattle.std.specs.Prelude.{⊤, ◌≡◌, ℕ, Bool, true, false, List, [], ◌∷◌, ◌++◌}
use Rattle.std.specs.Int.{w32}
use Rattle.std.specs.List.{AllByRecursion}
use Rattle.std.proofs.Common.{refl, sym, subst, append_assoc}
use Rattle.std.proofs.lemmas.List.{append-nil}
use Rattle.wire_bytes.specs.Layout.{IsNumber}
use Rattle.wire_bytes.specs.Breaks.{AreItems}
use Rattle.wire_bytes.specs.Grammar.{field, followed_by, Sees, seen_as, counted}
use Rattle.ordered_lists.specs.Order.{IsInOrder, is_after}
use Rattle.ordered_lists.specs.OrderLaws.{not_rising, IsInOrder-append}
use Rattle.attr_records.specs.Paths.{path_cmp}
use Rattle.attr_records.specs.PathLaws.{path_cmp_total}
use Rattle.attr_tables.specs.declared.layouts.TableLayout.{TableLayout}
use Rattle.attr_tables.specs.declared.records.Record.{Record}
use Rattle.attr_tables.specs.declared.file.TableFile.{TableFile}
use Rattle.attr_tables.specs.Layout.{Rows, row_bytes, magic_of, IsRow, IsNext, IsTable}

-- a row of rows in order comes after those before it
after_from_order : (before : Rows) (row : List ℕ × Record) (more : Rows) → IsInOrder path_cmp (before ++ row ∷ more)
    → is_after path_cmp before row.0 ≡ true
after_from_order before row more order = step (is_after path_cmp before row.0) refl
  where
    step : (b : Bool) → is_after path_cmp before row.0 ≡ b → is_after path_cmp before row.0 ≡ true
    step true e = e
    step false e = absurd (not_rising path_cmp before row more e order)

-- rows in order, each of which is one of the layout, come next one behind the other, and back
pub next_from_order : (layout : TableLayout) (before rows : Rows) → IsInOrder path_cmp (before ++ rows) → AllByRecursion (IsRow layout) rows
    → AreItems (IsNext layout) before rows
next_from_order layout before [] order each = tt
next_from_order layout before (row ∷ rows) order each = (
  (each.0, after_from_order before row rows order),
  next_from_order layout (before ++ row ∷ []) rows (subst (λ (all : Rows). IsInOrder path_cmp all)
      (sym (append_assoc before (row ∷ []) rows)) order) each.1,
)

pub order_from_next : (layout : TableLayout) (before rows : Rows) → IsInOrder path_cmp before → AreItems (IsNext layout) before rows
    → IsInOrder path_cmp (before ++ rows) × AllByRecursion (IsRow layout) rows
order_from_next layout before [] order are = (subst (λ (all : Rows). IsInOrder path_cmp all) (sym (append-nil before)) order, tt)
order_from_next layout before (row ∷ rows) order are =
    let rest = order_from_next layout (before ++ row ∷ []) rows (IsInOrder-append path_cmp path_cmp_total before row order are.0.1) are.1 in
    (subst (λ (all : Rows). IsInOrder path_cmp all) (append_assoc before (row ∷ []) rows) rest.0, (are.0.0, rest.1))

-- a table with its layout is the magic and the counted rows
pub sees_table : Sees (followed_by (field (λ _. ⊤) magic_of) (λ layout. counted w32 (IsNumber w32) (IsNext layout) (row_bytes layout)))
    (λ (file : TableFile). IsTable file.layout file.table) (λ file. (file.layout, file.table))
    (λ p. record { layout = p.0; table = p.1 })
unfolding field followed_by seen_as
sees_table = record {
  fits = λ file is. (tt, (is.count, next_from_order file.layout [] file.table is.in_order is.each));
  made = λ file is. refl;
  makes = λ p fits. let all = order_from_next p.0 [] p.1 tt fits.1.1 in record { in_order = all.0; each = all.1; count = fits.1.0 };
  parted = λ p fits. refl;
}
