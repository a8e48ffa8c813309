-- Laws of the rows within a path.
use Rattle.std.specs.Prelude.{◌≡◌, ◌<◌, ◌++◌, ◌+◌, ℕ, Bool, true, false, not, cond, List, [], ◌∷◌, length, drop}
use Rattle.std.proofs.Common.{sym, ap, ◌∙◌, append-nil, append_assoc, subst, get_or, add-one, drop-cons}
use Rattle.attr_records.specs.Paths.{path_cmp, is_within}
use Rattle.attr_tables.specs.declared.records.Record.{Record}
use Rattle.ordered_lists.specs.Order.{IsInOrder}
use Rattle.ordered_lists.specs.OrderLaws.{IsInOrder-where_key}
use Rattle.merge_view.specs.Views.{Rows, view}
use Rattle.merge_view.specs.Runs.{within_rows}
use Rattle.merge_view.specs.RunLaws.{IsInOrder-within_rows}
use Rattle.dump_session.specs.Removed.{is_gone}
use Rattle.dump_session.specs.Edits.{outside, edited}
use Rattle.dump_session.proofs.CountLaws.{filter_swapped, within-view}

-- the item of a loop is the first of what is left
pub first_of : {A : Type 0} (xs : List A) (i : ℕ) (d : A) → i < length xs → drop i xs ≡ get_or xs i d ∷ drop (i + 1) xs
first_of xs i d lt = rw (add-one) (drop-cons xs i d lt)

-- ---- a row of the base

pub kept : (rows : Rows) (row : List ℕ × Record) (b : Bool) → b ≡ true → rows ≡ rows ++ cond b [] (row ∷ [])
kept rows row b e = rw e (sym (append-nil rows))

pub pushed : (rows now : Rows) (row : List ℕ × Record) (b : Bool) → b ≡ false → now ≡ rows ++ row ∷ [] → now ≡ rows ++ cond b [] (row ∷ [])
pushed rows now row b e put = rw e put

module _ {X : Type 0} (removed : List (List ℕ × X)) where
  one : (b : Bool) (found rest : Rows) (row : List ℕ × Record) → (found ++ cond b [] (row ∷ [])) ++ rest ≡ found ++ cond (not b) (row ∷ rest) rest
  one true found rest row = ap (λ (l : Rows). l ++ rest) (append-nil found)
  one false found rest row = append_assoc found (row ∷ []) rest

  pub left_step : (found now all : Rows) (row : List ℕ × Record) (here rest : Rows) → here ≡ row ∷ rest → found ++ outside here removed ≡ all
      → now ≡ found ++ cond (is_gone removed row.0) [] (row ∷ []) → now ++ outside rest removed ≡ all
  left_step found now all row here rest first told put =
      ap (λ (l : Rows). l ++ outside rest removed) put ∙ one (is_gone removed row.0) found (outside rest removed) row
      ∙ ap (λ (l : Rows). found ++ outside l removed) (sym first) ∙ told

  pub left_in_order : (base left : Rows) (path : List ℕ) → IsInOrder path_cmp base → left ≡ outside (within_rows path base) removed → IsInOrder path_cmp left
  left_in_order base left path g is =
      subst (IsInOrder path_cmp) (sym is) (IsInOrder-where_key path_cmp (λ p. not (is_gone removed p)) (within_rows path base) (IsInOrder-within_rows path base g))

  pub rows_of_path : (base puts left found rows : Rows) (path : List ℕ) → IsInOrder path_cmp base → IsInOrder path_cmp puts → left ≡ outside (within_rows path base) removed
      → found ≡ within_rows path puts → rows ≡ view left found → rows ≡ within_rows path (edited base removed puts)
  rows_of_path base puts left found rows path g h left_is found_is is =
      is ∙ (λ i. view (left_is i) (found_is i))
      ∙ ap (λ (tree : Rows). view tree (within_rows path puts)) (sym (filter_swapped (λ row. is_within path row.0) (λ row. not (is_gone removed row.0)) base))
      ∙ sym (within-view path (outside base removed) puts (IsInOrder-where_key path_cmp (λ p. not (is_gone removed p)) base g) h)
