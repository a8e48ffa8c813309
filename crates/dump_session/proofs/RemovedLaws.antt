-- Laws of removed paths.
use Rattle.std.specs.Prelude.{◌≡◌, ℕ, ◌==◌, Bool, true, false, ◌||◌, ◌&&◌, not, cond, List, [], ◌∷◌, ◌++◌, Option, Some, None, is_some, ◌⊎◌}
use Rattle.std.specs.List.{list_any}
use Rattle.std.specs.declared.cmp.Ordering.{Ordering}
use Rattle.std.specs.declared.cmp.Ordering.TheVariants.{Less, Equal, Greater}
use Rattle.std.specs.Ordering.{is_lt, is_gt, is_eq, eq_by_cmp, ordering_reverse}
use Rattle.std.specs.Cmp.{first_so, second_so, both_ways, tied_itself, Equal-is}
use Rattle.std.proofs.Common.{refl, sym, ap, ◌∙◌, inl, inr}
use borrow.Author.Tests.{eqb-true, eq-eqb}
use Rattle.std.proofs.lemmas.Bool.{true≢false}
use Rattle.attr_records.specs.Paths.{path_cmp, is_within}
use Rattle.attr_records.specs.PathLaws.{path_cmp_total, path_cmp_exact, between}
use Rattle.attr_records.specs.Trees.{node_at, with_node, without}
use Rattle.attr_records.specs.TreeLaws.{node_at-with_node, node_at-without}
use Rattle.merge_view.specs.RunLaws.{within_after, within_through}
use Rattle.dump_session.specs.Removed.{is_removed, is_gone, IsApart, with_removed}

-- two directories of one path lie within each other
pub nested : (a b path : List ℕ) → is_within a path ≡ true → is_within b path ≡ true → (is_within a b ≡ true) ⊎ (is_within b a ≡ true)
nested [] [] path g h = inl refl
nested [] (y ∷ b) [] g h = cc
nested [] (y ∷ b) (z ∷ path) g h = inl (ap (λ byte. byte == 47) (eqb-true y z (first_so (y == z) (is_within b path) h)) ∙ g)
nested (x ∷ a) [] [] g h = cc
nested (x ∷ a) [] (z ∷ path) g h = inr (ap (λ byte. byte == 47) (eqb-true x z (first_so (x == z) (is_within a path) g)) ∙ h)
nested (x ∷ a) (y ∷ b) [] g h = cc
nested (x ∷ a) (y ∷ b) (z ∷ path) g h =
    step (nested a b path (second_so (x == z) (is_within a path) g) (second_so (y == z) (is_within b path) h))
  where
    x_is : x ≡ z
    x_is = eqb-true x z (first_so (x == z) (is_within a path) g)

    y_is : y ≡ z
    y_is = eqb-true y z (first_so (y == z) (is_within b path) h)

    step : ((is_within a b ≡ true) ⊎ (is_within b a ≡ true)) → (is_within (x ∷ a) (y ∷ b) ≡ true) ⊎ (is_within (y ∷ b) (x ∷ a) ≡ true)
    step (inl e) = inl (λ i. eq-eqb x y (x_is ∙ sym y_is) i && e i)
    step (inr e) = inr (λ i. eq-eqb y x (y_is ∙ sym x_is) i && e i)

-- what lies within a directory is the directory, or stands below it
pub within_or_below : (directory path : List ℕ) → is_within directory path ≡ true
    → (path ≡ directory) ⊎ ((rest : List ℕ) × (path ≡ directory ++ 47 ∷ rest))
within_or_below [] [] h = inl refl
within_or_below [] (byte ∷ path) h = inr (path, ap (λ b. b ∷ path) (eqb-true byte 47 h))
within_or_below (a ∷ directory) [] h = cc
within_or_below (a ∷ directory) (byte ∷ path) h = step (within_or_below directory path (second_so (a == byte) (is_within directory path) h))
  where
    same : byte ≡ a
    same = sym (eqb-true a byte (first_so (a == byte) (is_within directory path) h))

    step : ((path ≡ directory) ⊎ ((rest : List ℕ) × (path ≡ directory ++ 47 ∷ rest)))
        → (byte ∷ path ≡ a ∷ directory) ⊎ ((rest : List ℕ) × (byte ∷ path ≡ (a ∷ directory) ++ 47 ∷ rest))
    step (inl e) = inl (λ i. same i ∷ e i)
    step (inr w) = inr (w.0, λ i. same i ∷ w.1 i)

-- a directory does not come behind what lies within it
pub within_order : (directory path : List ℕ) → is_within directory path ≡ true → is_gt (path_cmp directory path) ≡ false
within_order directory path h =
    ap is_gt (path_cmp_total.antisymm directory path) ∙ turned (path_cmp path directory) (within_after directory path h)
  where
    turned : (r : Ordering) → is_lt r ≡ false → is_gt (ordering_reverse r) ≡ false
    turned Less e = cc
    turned Equal e = refl
    turned Greater e = refl

same_path : (a b : List ℕ) → eq_by_cmp path_cmp a b ≡ true → a ≡ b
same_path a b e = path_cmp_exact a b ((Equal-is (path_cmp a b)).0 e)

module _ {X : Type 0} where
  -- a path that is gone is taken away by a removed one
  pub gone_by : (removed : List (List ℕ × X)) (path : List ℕ) → is_gone removed path ≡ true
      → (by : List ℕ) × (is_removed removed by ≡ true) × (is_within by path ≡ true)
  gone_by [] path h = absurd (true≢false (sym h))
  gone_by (entry ∷ removed) path h = step (is_within entry.0 path) refl h (gone_by removed path)
    where
      found : (r : Bool) (rest : Option X) → is_some rest ≡ true → is_some (cond r (Some entry.1) rest) ≡ true
      found true rest e = refl
      found false rest e = e

      step : (b : Bool) → is_within entry.0 path ≡ b → (b || is_gone removed path) ≡ true
          → (is_gone removed path ≡ true → (by : List ℕ) × (is_removed removed by ≡ true) × (is_within by path ≡ true))
          → (by : List ℕ) × (is_removed (entry ∷ removed) by ≡ true) × (is_within by path ≡ true)
      step true is e rest =
          (entry.0, ap (λ r. is_some (cond (is_eq r) (Some entry.1) (node_at removed entry.0))) (tied_itself path_cmp_total entry.0), is)
      step false is e rest = let w = rest e in (w.0, found (eq_by_cmp path_cmp w.0 entry.0) (node_at removed w.0) w.1, w.2)

  -- what lies within a removed path is gone
  pub gone_within : (removed : List (List ℕ × X)) (by path : List ℕ) → is_removed removed by ≡ true → is_within by path ≡ true
      → is_gone removed path ≡ true
  gone_within [] by path h within = absurd (true≢false (sym h))
  gone_within (entry ∷ removed) by path h within =
      step (eq_by_cmp path_cmp by entry.0) refl h (λ rest. gone_within removed by path rest within)
    where
      or_true : (b : Bool) → (b || true) ≡ true
      or_true true = refl
      or_true false = refl

      step : (b : Bool) → eq_by_cmp path_cmp by entry.0 ≡ b → is_some (cond b (Some entry.1) (node_at removed by)) ≡ true
          → (is_removed removed by ≡ true → is_gone removed path ≡ true) → (is_within entry.0 path || is_gone removed path) ≡ true
      step true is e rest = ap (λ b. b || is_gone removed path) (ap (λ p. is_within p path) (sym (same_path by entry.0 is)) ∙ within)
      step false is e rest = ap (λ b. is_within entry.0 path || b) (rest e) ∙ or_true (is_within entry.0 path)

  -- what lies within a path that is gone is gone
  pub gone_below : (removed : List (List ℕ × X)) (directory path : List ℕ) → is_gone removed directory ≡ true
      → is_within directory path ≡ true → is_gone removed path ≡ true
  gone_below removed directory path h within =
      let w = gone_by removed directory h in
      gone_within removed w.0 path w.1 (within_through w.0 directory path w.2 within)

  is_removed-with_removed : (removed : List (List ℕ × X)) (path : List ℕ) (mark : X) (asked : List ℕ)
      → is_removed (with_removed removed path mark) asked ≡ (eq_by_cmp path_cmp asked path || (not (is_within path asked) && is_removed removed asked))
  is_removed-with_removed removed path mark asked =
      ap is_some (node_at-with_node (without removed path) path mark asked)
      ∙ ap (λ other. is_some (cond (eq_by_cmp path_cmp asked path) (Some mark) other)) (node_at-without removed path asked)
      ∙ step (eq_by_cmp path_cmp asked path) (is_within path asked)
    where
      step : (b c : Bool)
          → is_some (cond b (Some mark) (cond (not c) (node_at removed asked) None)) ≡ (b || (not c && is_removed removed asked))
      step true c = refl
      step false true = refl
      step false false = refl

  -- one more removed path takes away what lies within it
  pub is_gone-with_removed : (removed : List (List ℕ × X)) (path : List ℕ) (mark : X) (asked : List ℕ)
      → is_gone (with_removed removed path mark) asked ≡ (is_within path asked || is_gone removed asked)
  is_gone-with_removed removed path mark asked = both_ways _ _ there back
    where
      there : is_gone (with_removed removed path mark) asked ≡ true → (is_within path asked || is_gone removed asked) ≡ true
      there h =
          let w = gone_by (with_removed removed path mark) asked h in
          step w.0 w.2 (eq_by_cmp path_cmp w.0 path) refl (sym (is_removed-with_removed removed path mark w.0) ∙ w.1)
        where
          or_true : (b : Bool) → (b || true) ≡ true
          or_true true = refl
          or_true false = refl

          step : (by : List ℕ) → is_within by asked ≡ true → (b : Bool) → eq_by_cmp path_cmp by path ≡ b
              → (b || (not (is_within path by) && is_removed removed by)) ≡ true → (is_within path asked || is_gone removed asked) ≡ true
          step by within true is e =
              ap (λ b. b || is_gone removed asked) (ap (λ p. is_within p asked) (sym (same_path by path is)) ∙ within)
          step by within false is e =
              ap (λ b. is_within path asked || b) (gone_within removed by asked (second_so (not (is_within path by)) (is_removed removed by) e) within)
              ∙ or_true (is_within path asked)

      new_one : is_within path asked ≡ true → is_gone (with_removed removed path mark) asked ≡ true
      new_one within =
          gone_within (with_removed removed path mark) path asked
          (is_removed-with_removed removed path mark path ∙ ap (λ r. is_eq r || (not (is_within path path) && is_removed removed path)) (tied_itself path_cmp_total path))
          within

      back : (is_within path asked || is_gone removed asked) ≡ true → is_gone (with_removed removed path mark) asked ≡ true
      back h = step (is_within path asked) refl h
        where
          kept : (by : List ℕ) → is_removed removed by ≡ true → is_within by asked ≡ true → (c : Bool) → is_within path by ≡ c
              → is_gone (with_removed removed path mark) asked ≡ true
          kept by member within true is = new_one (within_through path by asked is within)
          kept by member within false is =
              gone_within (with_removed removed path mark) by asked
              (is_removed-with_removed removed path mark by ∙ (λ i. eq_by_cmp path_cmp by path || (not (is i) && member i)) ∙ or_true (eq_by_cmp path_cmp by path))
              within
            where
              or_true : (b : Bool) → (b || true) ≡ true
              or_true true = refl
              or_true false = refl

          step : (b : Bool) → is_within path asked ≡ b → (b || is_gone removed asked) ≡ true
              → is_gone (with_removed removed path mark) asked ≡ true
          step true is e = new_one is
          step false is e = let w = gone_by removed asked e in kept w.0 w.1 w.2 (is_within path w.0) refl

  -- removed paths stay apart where one more is not gone yet
  pub IsApart-with_removed : (removed : List (List ℕ × X)) (path : List ℕ) (mark : X) → IsApart removed → is_gone removed path ≡ false
      → IsApart (with_removed removed path mark)
  IsApart-with_removed removed path mark apart there =
      record { same = λ a b g h within. step a b within (eq_by_cmp path_cmp a path) refl (eq_by_cmp path_cmp b path) refl (sym (is_removed-with_removed removed path mark a) ∙ g) (sym (is_removed-with_removed removed path mark b) ∙ h) }
    where
      step : (a b : List ℕ) → is_within a b ≡ true → (c : Bool) → eq_by_cmp path_cmp a path ≡ c → (d : Bool) → eq_by_cmp path_cmp b path ≡ d
          → (c || (not (is_within path a) && is_removed removed a)) ≡ true → (d || (not (is_within path b) && is_removed removed b)) ≡ true
          → a ≡ b
      step a b within true is_a true is_b g h = same_path a path is_a ∙ sym (same_path b path is_b)
      step a b within true is_a false is_b g h =
          absurd (outside (is_within path b) (ap (λ p. is_within p b) (sym (same_path a path is_a)) ∙ within) (first_so (not (is_within path b)) (is_removed removed b) h))
        where
          outside : (c : Bool) → c ≡ true → not c ≡ true → ⊥
          outside true e f = true≢false (sym f)
          outside false e f = true≢false (sym e)
      step a b within false is_a true is_b g h =
          absurd (true≢false (sym (gone_within removed a path (second_so (not (is_within path a)) (is_removed removed a) g) (ap (is_within a) (sym (same_path b path is_b)) ∙ within)) ∙ there))
      step a b within false is_a false is_b g h =
          apart.same a b (second_so (not (is_within path a)) (is_removed removed a) g) (second_so (not (is_within path b)) (is_removed removed b) h) within

  -- ---- the last removed path at or before a path

  -- where no removed path is at or before a path, none of its directories is gone
  pub none_gone : (removed : List (List ℕ × X)) (path asked : List ℕ) → is_within asked path ≡ true
      → ((by : List ℕ) → is_gt (path_cmp by path) ≡ false → is_removed removed by ≡ false) → is_gone removed asked ≡ false
  none_gone removed path asked above none = step (is_gone removed asked) refl
    where
      step : (b : Bool) → is_gone removed asked ≡ b → b ≡ false
      step true is =
          let w = gone_by removed asked is in
          absurd (true≢false (sym w.1 ∙ none w.0 (within_order w.0 path (within_through w.0 asked path w.2 above))))
      step false is = refl

  -- else the last of them tells it
  pub last_gone : (removed : List (List ℕ × X)) (path asked last : List ℕ) → IsApart removed → is_within asked path ≡ true
      → is_removed removed last ≡ true → is_gt (path_cmp last path) ≡ false
      → ((by : List ℕ) → is_gt (path_cmp by path) ≡ false → is_removed removed by ≡ true → is_lt (path_cmp last by) ≡ false)
      → is_within last asked ≡ is_gone removed asked
  last_gone removed path asked last apart above member before greatest = both_ways _ _ (λ h. gone_within removed last asked member h) back
    where
      -- a removed path at or before the last, which holds the path, is the last
      is_last : (by : List ℕ) → is_removed removed by ≡ true → is_within by path ≡ true → (r : Ordering) → path_cmp by last ≡ r
          → (s : Ordering) → path_cmp last path ≡ s → is_gt s ≡ false → by ≡ last
      is_last by other within Equal is s at early = path_cmp_exact by last is
      is_last by other within Greater is s at early =
          absurd (true≢false (sym (ap is_lt (path_cmp_total.antisymm last by ∙ ap ordering_reverse is)) ∙ greatest by (within_order by path within) other))
      is_last by other within Less is Less at early = apart.same by last other member (between by last path within is at)
      is_last by other within Less is Equal at early =
          apart.same by last other member (ap (is_within by) (path_cmp_exact last path at) ∙ within)
      is_last by other within Less is Greater at early = cc

      back : is_gone removed asked ≡ true → is_within last asked ≡ true
      back h =
          let w = gone_by removed asked h in
          let e = is_last w.0 w.1 (within_through w.0 asked path w.2 above) (path_cmp w.0 last) refl (path_cmp last path) refl before in
          ap (λ p. is_within p asked) (sym e) ∙ w.2
