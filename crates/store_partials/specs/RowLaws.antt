-- Rows without a deletion mark.
--     no_mark_found      what a search for one that finds none says
--     whole_unmarked      rows of a whole tree have none
--     mark_found      and one that was found
--     rows_unmarked, rows_marked      both of rows that were asked for
use Rattle.std.specs.Prelude.{◌≡◌, ◌||◌, Bool, true, false, [], ◌∷◌}
use Rattle.std.specs.List.{list_any}
use Rattle.std.proofs.Common.{refl, sym, ap, ◌∙◌, subst}
use Rattle.std.proofs.lemmas.Bool.{true≢false}
use Rattle.attr_tables.specs.declared.records.Record.{Record}
use Rattle.attr_tables.specs.declared.records.Record.TheVariants.{File, Dir, Link, Deleted}
use Rattle.merge_view.specs.Views.{Rows, is_mark, HasNoMarks, IsWhole}
use Rattle.partial_files.specs.Layout.{HasNoMark}

-- a test that is false of a record: it is no mark
no_deletion : (node : Record) → is_mark node ≡ false → node ≡ Deleted → ⊥
no_deletion node none same = true≢false (sym (ap is_mark same) ∙ none)

neither : (a b : Bool) → (a || b) ≡ false → (a ≡ false) × (b ≡ false)
neither true b e = absurd (true≢false e)
neither false b e = (refl, e)

pub no_mark_found : (rows : Rows) → list_any (λ row. is_mark row.1) rows ≡ false → HasNoMark rows
no_mark_found [] none = tt
no_mark_found (row ∷ rows) none =
    let both = neither (is_mark row.1) (list_any (λ row. is_mark row.1) rows) none in (no_deletion row.1 both.0, no_mark_found rows both.1)

unmarked_all : (rows : Rows) → HasNoMarks rows → HasNoMark rows
unmarked_all [] none = tt
unmarked_all (row ∷ rows) none = (no_deletion row.1 none.0, unmarked_all rows none.1)

pub whole_unmarked : (rows : Rows) → IsWhole rows → HasNoMark rows
whole_unmarked rows whole = unmarked_all rows whole.no_marks

marked_is : (node : Record) → is_mark node ≡ true → node ≡ Deleted
marked_is (File file) e = absurd (true≢false (sym e))
marked_is (Dir dir) e = absurd (true≢false (sym e))
marked_is (Link link) e = absurd (true≢false (sym e))
marked_is Deleted e = refl

pub mark_found : (rows : Rows) → list_any (λ row. is_mark row.1) rows ≡ true → HasNoMark rows → ⊥
mark_found [] found none = true≢false (sym found)
mark_found (row ∷ rows) found none = step (is_mark row.1) refl found (λ later. mark_found rows later none.1)
  where
    step : (b : Bool) → is_mark row.1 ≡ b → (b || list_any (λ row. is_mark row.1) rows) ≡ true
        → (list_any (λ row. is_mark row.1) rows ≡ true → ⊥) → ⊥
    step true is e rest = none.0 (marked_is row.1 is)
    step false is e rest = rest e

pub rows_unmarked : (rows asked : Rows) (test : Bool) → asked ≡ rows → test ≡ list_any (λ row. is_mark row.1) asked → test ≡ false → HasNoMark rows
rows_unmarked rows asked test same is none = subst HasNoMark same (no_mark_found asked (sym is ∙ none))

pub rows_marked : (rows asked : Rows) (test : Bool) → asked ≡ rows → test ≡ list_any (λ row. is_mark row.1) asked → test ≡ true → HasNoMark rows → ⊥
rows_marked rows asked test same is found none = mark_found asked (sym is ∙ found) (subst HasNoMark (sym same) none)
