-- What leads from older rows to newer ones, as rows of a restore.
--     since_part      the rows are some of the newer ones
--     since_rows      they are whole, and name given ids, as the newer ones do
--     since_frames      what a restore gives of them is what the model's gives since the base
use Rattle.std.specs.Prelude.{◌≡◌, ℕ, Bool, true, false, List, [], ◌∷◌, ◌++◌, Option, Some, None, if◌then◌else◌}
use Rattle.std.specs.declared.cmp.Ordering.{Ordering}
use Rattle.std.specs.declared.cmp.Ordering.TheVariants.{Less, Equal, Greater}
use Rattle.std.specs.Ordering.{match_ordering}
use Rattle.std.proofs.Common.{refl, sym, ap, ◌∙◌, arith}
use Rattle.disk_trait.specs.declared.ids.PoolId.{PoolId}
use Rattle.ordered_lists.specs.Merge.{entry_then, merge_at, merge}
use Rattle.attr_records.specs.Items.{Tree}
use Rattle.attr_records.specs.Paths.{path_cmp}
use Rattle.attr_tables.specs.declared.records.Record.{Record}
use Rattle.attr_tables.specs.Records.{is_dir, is_same_record}
use Rattle.change_laws.specs.Changes.{changed, changed_rows, lost_rows, topmost}
use Rattle.change_laws.specs.BroughtLaws.{IsInOrder-changed}
use Rattle.merge_view.specs.Views.{Rows, HasNoMarks, IsWhole}
use Rattle.stored_trees.specs.Values.{AllValues}
use Rattle.stored_trees.specs.Resolved.{resolved, IsTold, AreTold, IsOneToOne}
use Rattle.tree_changes.specs.ResolvedLaws.{removals-resolved, changes-resolved}
use Rattle.tree_frames.specs.declared.nodes.Frame.{Frame}
use Rattle.tree_frames.specs.declared.nodes.Frame.TheVariants as F
use Rattle.tree_frames.specs.Frames.{frames, removal_frames, frames_since}
use Rattle.open_sessions.specs.Opened.{AreRowsOf, IsPartOf}
use Rattle.open_sessions.specs.Places.{deleted_frames, frames_told}
use Rattle.store_restores.specs.Since.{removed_since, rows_since, AreBaseRows}

-- ---- the changed rows are some of the newer ones, in order

abbrev Row : Type 0
Row = List ℕ × Record

module _ (Some_of : Rows → Rows → Type 0) (none : Some_of [] [])
    (kept : (row : Row) (some all : Rows) → Some_of some all → Some_of (row ∷ some) (row ∷ all))
    (skipped : (row : Row) (some all : Rows) → Some_of some all → Some_of some (row ∷ all)) where
  abbrev merged : Rows → Rows → Rows
  merged newer older = merge path_cmp (changed is_same_record) newer older

  of_none : (older : Rows) → Some_of (merged [] older) []
  of_none [] = none
  of_none (row ∷ older) = of_none older

  abbrev Rest : Rows → Type 0
  Rest newer = (older : Rows) → Some_of (merged newer older) newer

  of_both : (row : Row) (newer older : Rows) → Rest newer → (same : Bool)
      → Some_of (entry_then row.0 (if same then None else Some row.1) (merged newer older)) (row ∷ newer)
  of_both row newer older rest true = skipped row (merged newer older) newer (rest older)
  of_both row newer older rest false = kept row (merged newer older) newer (rest older)

  of_step : (row other : Row) (newer older : Rows) → Rest newer → (r : Ordering)
      → Some_of (merge_at path_cmp (changed is_same_record) row (merged newer) older) (row ∷ newer)
      → Some_of (match_ordering r (row ∷ merged newer (other ∷ older))
      (entry_then row.0 (changed is_same_record (Some row.1) (Some other.1)) (merged newer older))
      (merge_at path_cmp (changed is_same_record) row (merged newer) older)) (row ∷ newer)
  of_step row other newer older rest Less behind = kept row (merged newer (other ∷ older)) newer (rest (other ∷ older))
  of_step row other newer older rest Equal behind = of_both row newer older rest (is_same_record row.1 other.1)
  of_step row other newer older rest Greater behind = behind

  of_row : (row : Row) (newer : Rows) → Rest newer → (older : Rows)
      → Some_of (merge_at path_cmp (changed is_same_record) row (merged newer) older) (row ∷ newer)
  of_row row newer rest [] = kept row (merged newer []) newer (rest [])
  of_row row newer rest (other ∷ older) = of_step row other newer older rest (path_cmp row.0 other.0) (of_row row newer rest older)

  some_changed : (newer older : Rows) → Some_of (merged newer older) newer
  some_changed [] older = of_none older
  some_changed (row ∷ newer) older = of_row row newer (some_changed newer) older

part_all : (rows : Rows) → IsPartOf rows rows
part_all rows = record { fewer = omega arith; named = λ id. omega arith }

part_changed : (newer older : Rows) → IsPartOf (changed_rows is_same_record newer older) newer
part_changed newer older = some_changed IsPartOf (part_all [])
    (λ row some all part. record {
      fewer = let few = part.fewer in omega (arith, few);
      named = λ id. let more = part.named id in omega (arith, more);
    })
    (λ row some all part. record {
      fewer = let few = part.fewer in omega (arith, few);
      named = λ id. let more = part.named id in omega (arith, more);
    })
    newer older

values_changed : (P : Record → Type 0) (newer older : Rows) → AllValues P newer → AllValues P (changed_rows is_same_record newer older)
values_changed P newer older = some_changed (λ some all. AllValues P all → AllValues P some) (λ h. h)
    (λ row some all rest h. (h.0, rest h.1)) (λ row some all rest h. rest h.1) newer older

unmarked_changed : (newer older : Rows) → HasNoMarks newer → HasNoMarks (changed_rows is_same_record newer older)
unmarked_changed newer older = some_changed (λ some all. HasNoMarks all → HasNoMarks some) (λ h. h)
    (λ row some all rest h. (h.0, rest h.1)) (λ row some all rest h. rest h.1) newer older

-- ---- since a base, if there is one

pub since_part : (older : Option Rows) (rows : Rows) → IsPartOf (rows_since older rows) rows
since_part None rows = part_all rows
since_part (Some older) rows = part_changed rows older

module _ (listed : PoolId → Type 0) (given : PoolId → Type 0) (contents : PoolId → List ℕ) where
  pub since_rows : (tree : Option Tree) (older : Option Rows) → AreBaseRows listed contents tree older → (rows : Rows)
      → AreRowsOf given contents rows → AreRowsOf given contents (rows_since older rows)
  since_rows None None base rows of = of
  since_rows None (Some older) base rows of = absurd base
  since_rows (Some tree) None base rows of = absurd base
  since_rows (Some tree) (Some older) base rows of = record {
    whole = record {
      in_order = IsInOrder-changed is_same_record rows older of.whole.in_order base.1.in_order;
      no_marks = unmarked_changed rows older of.whole.no_marks;
    };
    told = values_changed (IsTold given contents) rows older of.told;
  }

-- only the paths of removals are told
paths_told : (contents : PoolId → List ℕ) (rows : Rows) → removal_frames (resolved contents rows) ≡ deleted_frames rows
paths_told contents [] = refl
paths_told contents (row ∷ rows) = ap (λ (fs : List Frame). F.Deleted row.0 ∷ fs) (paths_told contents rows)

module _ (listed : PoolId → Type 0) (contents : PoolId → List ℕ) (one : IsOneToOne listed contents) where
  pub since_frames : (base : Option Tree) (older : Option Rows) → AreBaseRows listed contents base older → (tree : Tree) (rows : Rows)
      → tree ≡ resolved contents rows → IsWhole rows → AreTold listed contents rows
      → frames_since base tree ≡ frames_told (removed_since older rows) (resolved contents (rows_since older rows))
  since_frames None None are tree rows is whole told = ap frames is
  since_frames None (Some older) are tree rows is whole told = absurd are
  since_frames (Some base) None are tree rows is whole told = absurd are
  since_frames (Some base) (Some older) are tree rows is whole told =
      (λ i. frames_since (Some (are.0 i)) (is i))
      ∙ (λ i. removal_frames (sym (removals-resolved contents rows older whole are.1) i)
      ++ frames (sym (changes-resolved listed contents one rows older whole are.1 told are.2) i))
      ∙ ap (λ (fs : List Frame). fs ++ frames (resolved contents (changed_rows is_same_record rows older)))
      (paths_told contents (topmost (lost_rows is_dir rows older)))
