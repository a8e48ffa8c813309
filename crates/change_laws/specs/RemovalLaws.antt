-- Each removal that leads from an older tree to a newer one finds its path.
use Rattle.std.specs.Prelude.{◌≡◌, ℕ, Bool, true, false, not, cond, ◌⊎◌, List, [], ◌∷◌, ◌++◌, Option, Some, None, is_some, if◌then◌else◌}
use Rattle.std.proofs.Common.{refl, sym, ap, ◌∙◌, inl, inr}
use Rattle.std.proofs.lemmas.Bool.{true≢false}
use Rattle.ordered_lists.specs.Order.{IsInOrder}
use Rattle.ordered_lists.specs.OrderLaws.{find_below}
use Rattle.attr_records.specs.Paths.{path_cmp, parent, is_within}
use Rattle.attr_records.specs.PathLaws.{path_cmp_total, parent-parts, parent-below}
use Rattle.attr_records.specs.Trees.{node_at, without, is_dir_found, is_dir_at, IsTree}
use Rattle.attr_records.specs.TreeLaws.{node_at-without}
use Rattle.change_laws.specs.Changes.{alike, lies_in, topmost, lost, lost_rows, AreThere}
use Rattle.change_laws.specs.BroughtLaws.{same_itself, later_other, within-parts, node_at-topmost, node_at-lost, in_order_topmost, topmost_lost}

module _ {X : Type 0} where
  -- the first of a list in order isn't among the others
  not_later : (row : List ℕ × X) (rows : List (List ℕ × X)) → IsInOrder path_cmp (row ∷ rows) → is_some (node_at rows row.0) ≡ true → ⊥
  not_later row rows h there = true≢false (sym there ∙ ap is_some (find_below path_cmp path_cmp_total row.0 rows h.0))

  -- paths of which none lies within another are removed one after the other
  pub there-all : (rows tree : List (List ℕ × X)) → IsInOrder path_cmp rows
      → ((path : List ℕ) → is_some (node_at rows path) ≡ true → is_some (node_at tree path) ≡ true)
      → ((above path : List ℕ) → is_some (node_at rows above) ≡ true → is_some (node_at rows path) ≡ true → is_within above path ≡ true → above ≡ path)
      → AreThere rows tree
  there-all [] tree h found apart = tt
  there-all (row ∷ rows) tree h found apart = (
    found row.0 first,
    there-all rows (without tree row.0) h.1
        (λ path there. kept path there (is_within row.0 path) refl)
        (λ above path a b within. apart above path (later_other row rows above h a) (later_other row rows path h b) within),
  )
    where
      first : is_some (node_at (row ∷ rows) row.0) ≡ true
      first = ap (λ b. is_some (cond b (Some row.1) (node_at rows row.0))) (same_itself row.0)

      kept : (path : List ℕ) → is_some (node_at rows path) ≡ true → (b : Bool) → is_within row.0 path ≡ b → is_some (node_at (without tree row.0) path) ≡ true
      kept path there true within =
          let same = apart row.0 path first (later_other row rows path h there) within in
          absurd (not_later row rows h (ap (λ p. is_some (node_at rows p)) same ∙ there))
      kept path there false within =
          ap is_some (node_at-without tree row.0 path) ∙ ap (λ b. is_some (cond (not b) (node_at tree path) None)) within ∙ found path (later_other row rows path h there)

module _ {X : Type 0} (is_dir : X → Bool) (is_same : X → X → Bool) (same : (a b : X) → is_same a b ≡ true → a ≡ b) where
  module _ (newer older : List (List ℕ × X)) (new : IsTree is_dir newer) (old : IsTree is_dir older) where
    abbrev gone : List (List ℕ × X)
    gone = topmost (lost_rows is_dir newer older)

    -- what is lost stood in the older tree
    was_there : (n o : Option X) → is_some (lost is_dir n o) ≡ true → is_some o ≡ true
    was_there n None e = e
    was_there n (Some y) e = refl

    -- below a lost directory the newer tree has nothing
    nothing_below : (directory rest : List ℕ) → is_some (lost is_dir (node_at newer directory) (node_at older directory)) ≡ true
        → is_dir_at is_dir older directory ≡ true → is_some (node_at newer (directory ++ 47 ∷ rest)) ≡ true → ⊥
    nothing_below directory rest e dir there = step (node_at newer directory) (node_at older directory) e dir (new.parents directory rest there)
      where
        step : (n o : Option X) → is_some (lost is_dir n o) ≡ true → is_dir_found is_dir o ≡ true → is_dir_found is_dir n ≡ true → ⊥
        step None o e d f = true≢false (sym f)
        step (Some x) None e d f = true≢false (sym d)
        step (Some x) (Some y) e d f =
            true≢false (sym e ∙ ap (λ t. is_some (if alike t (is_dir y) then None else Some y)) f ∙ ap (λ t. is_some (if t then None else Some y)) d)

    lost_there : (path : List ℕ) → is_some (node_at older path) ≡ true → (is_some (node_at newer path) ≡ true → ⊥)
        → lies_in (lost_rows is_dir newer older) (Some path) ≡ true
    lost_there path there none =
        ap is_some (node_at-lost is_dir newer older new.in_order old.in_order path) ∙ step (node_at newer path) (node_at older path) there none
      where
        step : (n o : Option X) → is_some o ≡ true → (is_some n ≡ true → ⊥) → is_some (lost is_dir n o) ≡ true
        step None None there none = there
        step None (Some y) there none = refl
        step (Some x) o there none = absurd (none refl)

    -- no topmost path lies within another
    tops_apart : (above path : List ℕ) → is_some (node_at gone above) ≡ true → is_some (node_at gone path) ≡ true → is_within above path ≡ true → above ≡ path
    tops_apart above path a b within = step (within-parts above path within)
      where
        lost_above : is_some (lost is_dir (node_at newer above) (node_at older above)) ≡ true
        lost_above = topmost_lost is_dir is_same same newer older new old above a

        dir_of : (o : Option X) → is_dir_found is_dir o ≡ true → is_some o ≡ true
        dir_of None e = e
        dir_of (Some y) e = refl

        -- the directory of a topmost path isn't lost
        kept_directory : (t : Bool) → lies_in (lost_rows is_dir newer older) (parent path) ≡ t → lies_in (lost_rows is_dir newer older) (parent path) ≡ false
        kept_directory false e = e
        kept_directory true e =
            absurd (true≢false (sym b ∙ ap is_some (node_at-topmost (lost_rows is_dir newer older) path)
            ∙ ap (λ t. is_some (cond (not t) (node_at (lost_rows is_dir newer older) path) None)) e))

        step : ((path ≡ above) ⊎ ((rest : List ℕ) × (path ≡ above ++ 47 ∷ rest))) → above ≡ path
        step (inl e) = sym e
        step (inr w) = absurd (below w.0 w.1 (parent-below above w.0))
          where
            below : (rest : List ℕ) → path ≡ above ++ 47 ∷ rest
                → ((parent (above ++ 47 ∷ rest) ≡ Some above) ⊎ ((more : List ℕ) × (parent (above ++ 47 ∷ rest) ≡ Some (above ++ 47 ∷ more)))) → ⊥
            below rest e (inl p) =
                true≢false (sym (ap is_some (node_at-lost is_dir newer older new.in_order old.in_order above) ∙ lost_above)
                ∙ ap (lies_in (lost_rows is_dir newer older)) (sym (ap parent e ∙ p)) ∙ kept_directory (lies_in (lost_rows is_dir newer older) (parent path)) refl)
            below rest e (inr v) =
                let here : is_some (node_at older path) ≡ true = was_there _ _ (topmost_lost is_dir is_same same newer older new old path b) in
                let dir : is_dir_at is_dir older above ≡ true = old.parents above rest (ap (λ q. is_some (node_at older q)) (sym e) ∙ here) in
                let w = parent-parts path (above ++ 47 ∷ v.0) (ap parent e ∙ v.1) in
                let between : is_some (node_at older (above ++ 47 ∷ v.0)) ≡ true =
                dir_of _ (old.parents (above ++ 47 ∷ v.0) w.0 (ap (λ q. is_some (node_at older q)) (sym w.1) ∙ here)) in
                true≢false (sym (lost_there (above ++ 47 ∷ v.0) between (λ there. nothing_below above v.0 lost_above dir there))
                ∙ ap (lies_in (lost_rows is_dir newer older)) (sym (ap parent e ∙ v.1)) ∙ kept_directory (lies_in (lost_rows is_dir newer older) (parent path)) refl)

    -- each removal finds its path
    pub removals-there : AreThere gone older
    removals-there =
        there-all gone older (in_order_topmost is_dir is_same same newer older new old)
        (λ path there. was_there (node_at newer path) (node_at older path) (topmost_lost is_dir is_same same newer older new old path there))
        (λ above path a b within. tops_apart above path a b within)
