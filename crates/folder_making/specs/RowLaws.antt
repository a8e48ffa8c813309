-- Laws of rows in the order of the paths.
--     before_next      what was passed comes before the next row
--     found_before, found_behind, found_front, found_next, found_other      look-ups in rows behind which others stand
--     not_needed      if the next row doesn't lie in a directory, no later one does
use Rattle.std.specs.Prelude.{◌≡◌, ℕ, Bool, true, false, cond, List, [], ◌∷◌, ◌++◌, Option, Some, None, is_some}
use Rattle.std.specs.declared.cmp.Ordering.{Ordering}
use Rattle.std.specs.declared.cmp.Ordering.TheVariants.{Less, Equal, Greater}
use Rattle.std.specs.Ordering.{is_eq, ordering_then, eq_by_cmp}
use Rattle.std.proofs.Common.{refl, sym, ap, ◌∙◌, arith}
use Rattle.std.proofs.lemmas.Bool.{true≢false}
use Rattle.std.proofs.lemmas.Bool.Decides.{nat_tests}
use Rattle.attr_records.specs.Paths.{byte_cmp, path_cmp, parent, is_within}
use Rattle.attr_records.specs.PathLaws.{path_cmp_total, path_cmp_exact, parent-parts, between, within-itself, within-further}
use Rattle.attr_records.specs.Trees.{node_at}
use Rattle.ordered_lists.specs.Order.{IsBelowAll, IsInOrder}
use Rattle.ordered_lists.specs.OrderLaws.{find_below, below_through}

level : (b : ℕ) → byte_cmp b b ≡ Equal
level b = grind (arith, nat_tests)

pub path_level : (p : List ℕ) → path_cmp p p ≡ Equal
path_level [] = refl
path_level (b ∷ p) = ap (λ r. ordering_then r (path_cmp p p)) (level b) ∙ path_level p

-- a path lies within its directory
pub within_parent : (directory path : List ℕ) → parent path ≡ Some directory → is_within directory path ≡ true
within_parent directory path e =
    let parts = parent-parts path directory e in
    ap (is_within directory) parts.1 ∙ within-further directory directory parts.0 (within-itself directory)

-- a path comes before what lies in it
before_below : (p rest : List ℕ) → path_cmp p (p ++ 47 ∷ rest) ≡ Less
before_below [] rest = refl
before_below (b ∷ p) rest = ap (λ r. ordering_then r (path_cmp p (p ++ 47 ∷ rest))) (level b) ∙ before_below p rest

pub before_child : (directory path : List ℕ) → parent path ≡ Some directory → path_cmp directory path ≡ Less
before_child directory path e =
    let parts = parent-parts path directory e in
    ap (path_cmp directory) parts.1 ∙ before_below directory parts.0

not_less_self : (p : List ℕ) → path_cmp p p ≡ Less → ⊥
not_less_self p e = let clash : Equal ≡ Less = sym (path_level p) ∙ e in cc

module _ {X : Type 0} where
  below_middle : (k : List ℕ) (es : List (List ℕ × X)) (e : List ℕ × X) (more : List (List ℕ × X)) → IsBelowAll path_cmp k (es ++ e ∷ more)
      → path_cmp k e.0 ≡ Less
  below_middle k [] e more h = h.0
  below_middle k (f ∷ es) e more h = below_middle k es e more h.1

  -- a key below all comes before each that is found
  behind : (k : List ℕ) (es : List (List ℕ × X)) (q : List ℕ) → IsBelowAll path_cmp k es → is_some (node_at es q) ≡ true → path_cmp k q ≡ Less
  behind k [] q h some = absurd (true≢false (sym some))
  behind k (e ∷ es) q h some = step (path_cmp q e.0) refl some (behind k es q h.1)
    where
      step : (r : Ordering) → path_cmp q e.0 ≡ r → is_some (cond (is_eq r) (Some e.1) (node_at es q)) ≡ true
          → (is_some (node_at es q) ≡ true → path_cmp k q ≡ Less) → path_cmp k q ≡ Less
      step Equal is there rest = ap (path_cmp k) (path_cmp_exact q e.0 is) ∙ h.0
      step Less is there rest = rest there
      step Greater is there rest = rest there

  -- what was passed comes before the next row
  pub before_next : (es : List (List ℕ × X)) (e : List ℕ × X) (more : List (List ℕ × X)) (q : List ℕ) → IsInOrder path_cmp (es ++ e ∷ more)
      → is_some (node_at es q) ≡ true → path_cmp q e.0 ≡ Less
  before_next [] e more q h some = absurd (true≢false (sym some))
  before_next (f ∷ es) e more q h some = step (path_cmp q f.0) refl some (before_next es e more q h.1)
    where
      step : (r : Ordering) → path_cmp q f.0 ≡ r → is_some (cond (is_eq r) (Some f.1) (node_at es q)) ≡ true
          → (is_some (node_at es q) ≡ true → path_cmp q e.0 ≡ Less) → path_cmp q e.0 ≡ Less
      step Equal is there rest = ap (λ p. path_cmp p e.0) (path_cmp_exact q f.0 is) ∙ below_middle f.0 es e more h.0
      step Less is there rest = rest there
      step Greater is there rest = rest there

  last_order : (es : List (List ℕ × X)) (e : List ℕ × X) (more : List (List ℕ × X)) → IsInOrder path_cmp (es ++ e ∷ more)
      → IsBelowAll path_cmp e.0 more
  last_order [] e more h = h.0
  last_order (f ∷ es) e more h = last_order es e more h.1

  none_is : (node : Option X) → (is_some node ≡ true → ⊥) → node ≡ None
  none_is None h = refl
  none_is (Some x) h = absurd (h refl)

  -- the next row isn't among those that were passed
  pub next_is_new : (es : List (List ℕ × X)) (e : List ℕ × X) (more : List (List ℕ × X)) → IsInOrder path_cmp (es ++ e ∷ more)
      → node_at es e.0 ≡ None
  next_is_new es e more h = none_is (node_at es e.0) (λ some. not_less_self e.0 (before_next es e more e.0 h some))

  pub found_next : (e : List ℕ × X) (more : List (List ℕ × X)) → node_at (e ∷ more) e.0 ≡ Some e.1
  found_next e more = ap (λ r. cond (is_eq r) (Some e.1) (node_at more e.0)) (path_level e.0)

  -- what was found is found behind further rows
  pub found_before : (es : List (List ℕ × X)) (q : List ℕ) (more : List (List ℕ × X)) (x : X) → node_at es q ≡ Some x
      → node_at (es ++ more) q ≡ Some x
  found_before [] q more x e = cc
  found_before (f ∷ es) q more x e = step (is_eq (path_cmp q f.0)) e (found_before es q more x)
    where
      step : (b : Bool) → cond b (Some f.1) (node_at es q) ≡ Some x → (node_at es q ≡ Some x → node_at (es ++ more) q ≡ Some x)
          → cond b (Some f.1) (node_at (es ++ more) q) ≡ Some x
      step true h rest = h
      step false h rest = rest h

  -- what isn't found is looked up in the rows behind
  pub found_behind : (es : List (List ℕ × X)) (q : List ℕ) (more : List (List ℕ × X)) → node_at es q ≡ None
      → node_at (es ++ more) q ≡ node_at more q
  found_behind [] q more none = refl
  found_behind (f ∷ es) q more none = step (is_eq (path_cmp q f.0)) none (found_behind es q more)
    where
      step : (b : Bool) → cond b (Some f.1) (node_at es q) ≡ None → (node_at es q ≡ None → node_at (es ++ more) q ≡ node_at more q)
          → cond b (Some f.1) (node_at (es ++ more) q) ≡ node_at more q
      step true h rest = cc
      step false h rest = rest h

  -- what comes before the next row is looked up in those that were passed
  pub found_front : (es : List (List ℕ × X)) (e : List ℕ × X) (more : List (List ℕ × X)) (q : List ℕ) → IsInOrder path_cmp (es ++ e ∷ more)
      → path_cmp q e.0 ≡ Less → node_at (es ++ e ∷ more) q ≡ node_at es q
  found_front [] e more q h less = find_below path_cmp path_cmp_total q (e ∷ more) (less, below_through path_cmp path_cmp_total q e.0 more less h.0)
  found_front (f ∷ es) e more q h less = ap (cond (is_eq (path_cmp q f.0)) (Some f.1)) (found_front es e more q h.1 less)

  -- a row behind all leaves what is found elsewhere
  pub found_other : (es : List (List ℕ × X)) (e : List ℕ × X) (q : List ℕ) → eq_by_cmp path_cmp q e.0 ≡ false
      → node_at (es ++ e ∷ []) q ≡ node_at es q
  found_other [] e q other = ap (λ b. cond b (Some e.1) None) other
  found_other (f ∷ es) e q other = ap (cond (is_eq (path_cmp q f.0)) (Some f.1)) (found_other es e q other)

  -- what is found at the next row's place or behind
  pub next_or_later : (e : List ℕ × X) (more : List (List ℕ × X)) (q : List ℕ) → is_some (node_at more q) ≡ true
      → is_some (node_at (e ∷ more) q) ≡ true
  next_or_later e more q some = step (is_eq (path_cmp q e.0))
    where
      step : (b : Bool) → is_some (cond b (Some e.1) (node_at more q)) ≡ true
      step true = refl
      step false = some

  -- if the next row doesn't lie in a directory that was passed, no later one does
  pub not_needed : (es : List (List ℕ × X)) (e : List ℕ × X) (more : List (List ℕ × X)) (directory path : List ℕ)
      → IsInOrder path_cmp (es ++ e ∷ more) → is_some (node_at es directory) ≡ true → is_within directory e.0 ≡ false
      → is_some (node_at (e ∷ more) path) ≡ true → is_within directory path ≡ true → ⊥
  not_needed es e more directory path h passed outside there within = step (path_cmp path e.0) refl there
    where
      later : is_some (node_at more path) ≡ true → ⊥
      later some =
          true≢false (sym (between directory e.0 path within (before_next es e more directory h passed) (behind e.0 more path (last_order es e more h) some)) ∙ outside)

      step : (r : Ordering) → path_cmp path e.0 ≡ r → is_some (cond (is_eq r) (Some e.1) (node_at more path)) ≡ true → ⊥
      step Equal is found = true≢false (sym within ∙ ap (is_within directory) (path_cmp_exact path e.0 is) ∙ outside)
      step Less is found = later found
      step Greater is found = later found
