-- Laws of walks: where a row is passed, what lies in it comes next, before all else that is open.
--     first_open      the next row of a tree is open
--     open_more      behind it, what is open is what lies in it, and then what was open
--     node_between      what is at a row's path
use Rattle.std.specs.Prelude.{◌≡◌, ℕ, Bool, true, false, ◌||◌, cond, List, [], ◌∷◌, ◌++◌, Option, Some, None, is_some, bytes_eq, ◌⊎◌}
use Rattle.std.specs.List.{filter}
use Rattle.std.specs.Option.{option_eq}
use Rattle.std.specs.declared.cmp.Ordering.{Ordering}
use Rattle.std.specs.declared.cmp.Ordering.TheVariants.{Less, Equal, Greater}
use Rattle.std.specs.Ordering.{is_eq, ordering_then, ordering_reverse}
use Rattle.std.specs.FinMap.Entries.{find}
use borrow.Author.Tests.{eqb-true}
use Rattle.std.specs.Cmp.{first_so, second_so}
use Rattle.std.proofs.Common.{refl, sym, ap, ◌∙◌, inl, inr, arith}
use Rattle.std.proofs.lemmas.Bool.{true≢false}
use Rattle.std.proofs.lemmas.Bool.Decides.{nat_tests}
use Rattle.std.proofs.lemmas.Slice.Eq.{bytes_eq-Decides}
use Rattle.std.proofs.lemmas.List.Elements.{filter-append}
use Rattle.attr_records.specs.declared.nodes.Item.{Item}
use Rattle.attr_records.specs.Items.{Tree, is_dir}
use Rattle.attr_records.specs.Paths.{byte_cmp, path_cmp, parent, is_within}
use Rattle.attr_records.specs.PathLaws.{path_cmp_total, path_cmp_exact, parent-parts, parent-below, between, within-itself, within-further}
use Rattle.attr_records.specs.Trees.{node_at, is_dir_found, is_dir_at, IsTree}
use Rattle.ordered_lists.specs.Order.{IsBelowAll, IsInOrder}
use Rattle.ordered_lists.specs.OrderLaws.{find_below, below_through}
use Rattle.folder_laws.specs.Walks.{is_child}
use Rattle.folder_laws.specs.Walks.{children, is_passed, is_open}

-- ---- paths

level : (b : ℕ) → byte_cmp b b ≡ Equal
level b = grind (arith, nat_tests)

pub path_level : (p : List ℕ) → path_cmp p p ≡ Equal
path_level [] = refl
path_level (b ∷ p) = ap (λ r. ordering_then r (path_cmp p p)) (level b) ∙ path_level p

-- a path comes before what lies in it
pub before_below : (p rest : List ℕ) → path_cmp p (p ++ 47 ∷ rest) ≡ Less
before_below [] rest = refl
before_below (b ∷ p) rest = ap (λ r. ordering_then r (path_cmp p (p ++ 47 ∷ rest))) (level b) ∙ before_below p rest

pub before_child : (directory path : List ℕ) → parent path ≡ Some directory → path_cmp directory path ≡ Less
before_child directory path e =
    let parts = parent-parts path directory e in
    ap (path_cmp directory) parts.1 ∙ before_below directory parts.0

-- a path lies within its directory
pub within_parent : (directory path : List ℕ) → parent path ≡ Some directory → is_within directory path ≡ true
within_parent directory path e =
    let parts = parent-parts path directory e in
    ap (is_within directory) parts.1 ∙ within-further directory directory parts.0 (within-itself directory)

less_not_self : (p : List ℕ) → path_cmp p p ≡ Less → ⊥
less_not_self p e =
    let back : path_cmp p p ≡ Greater = path_cmp_total.antisymm p p ∙ ap ordering_reverse e in
    let clash : Less ≡ Greater = sym e ∙ back in cc

not_both_less : (p q : List ℕ) → path_cmp p q ≡ Less → path_cmp q p ≡ Less → ⊥
not_both_less p q e f = less_not_self p (path_cmp_total.trans p q p e f)

-- within a path there is the path itself, or what lies below
within_cases : (p q : List ℕ) → is_within p q ≡ true → (p ≡ q) ⊎ ((rest : List ℕ) × (q ≡ p ++ 47 ∷ rest))
within_cases [] [] e = inl refl
within_cases [] (b ∷ q) e = inr (q, ap (λ c. c ∷ q) (eqb-true b 47 e))
within_cases (a ∷ p) [] e = absurd (true≢false (sym e))
within_cases (a ∷ p) (b ∷ q) e = step (eqb-true a b (first_so _ _ e)) (within_cases p q (second_so _ _ e))
  where
    step : a ≡ b → (p ≡ q) ⊎ ((rest : List ℕ) × (q ≡ p ++ 47 ∷ rest)) → (a ∷ p ≡ b ∷ q) ⊎ ((rest : List ℕ) × (b ∷ q ≡ a ∷ p ++ 47 ∷ rest))
    step same (inl f) = inl ((λ i. same i ∷ f i))
    step same (inr w) = inr (w.0, ap (λ c. c ∷ q) (sym same) ∙ ap (λ qs. a ∷ qs) w.1)

-- the directory of what lies below a path lies within the path
parent_within : (p q : List ℕ) → is_within p q ≡ true → path_cmp p q ≡ Less
    → (d : List ℕ) × (parent q ≡ Some d) × ((d ≡ p) ⊎ (path_cmp p d ≡ Less))
parent_within p q within less = step (within_cases p q within)
  where
    found : (rest : List ℕ) → q ≡ p ++ 47 ∷ rest
        → (parent (p ++ 47 ∷ rest) ≡ Some p) ⊎ ((more : List ℕ) × (parent (p ++ 47 ∷ rest) ≡ Some (p ++ 47 ∷ more)))
        → (d : List ℕ) × (parent q ≡ Some d) × ((d ≡ p) ⊎ (path_cmp p d ≡ Less))
    found rest is (inl e) = (p, ap parent is ∙ e, inl refl)
    found rest is (inr w) = (p ++ 47 ∷ w.0, ap parent is ∙ w.1, inr (before_below p w.0))

    step : (p ≡ q) ⊎ ((rest : List ℕ) × (q ≡ p ++ 47 ∷ rest)) → (d : List ℕ) × (parent q ≡ Some d) × ((d ≡ p) ⊎ (path_cmp p d ≡ Less))
    step (inl same) = absurd (less_not_self p (ap (path_cmp p) same ∙ less))
    step (inr w) = found w.0 w.1 (parent-below p w.0)

-- ---- rows in order

is_child-true : (d q : List ℕ) → is_child (Some d) q ≡ true → parent q ≡ Some d
is_child-true d q e = step (parent q) e
  where
    step : (above : Option (List ℕ)) → option_eq bytes_eq above (Some d) ≡ true → above ≡ Some d
    step None h = absurd (true≢false (sym h))
    step (Some found) h = ap Some ((bytes_eq-Decides found d).0 h)

is_child-false : (d q : List ℕ) → is_child (Some d) q ≡ false → parent q ≡ Some d → ⊥
is_child-false d q e is =
    let yes : option_eq bytes_eq (Some d) (Some d) ≡ true = (bytes_eq-Decides d d).1 refl in
    true≢false (sym yes ∙ ap (λ above. option_eq bytes_eq above (Some d)) (sym is) ∙ e)

module _ {X : Type 0} where
  below_middle : (k : List ℕ) (es : List (List ℕ × X)) (e : List ℕ × X) (more : List (List ℕ × X)) → IsBelowAll path_cmp k (es ++ e ∷ more)
      → path_cmp k e.0 ≡ Less
  below_middle k [] e more h = h.0
  below_middle k (f ∷ es) e more h = below_middle k es e more h.1

  pub order_later : (es : List (List ℕ × X)) (e : List ℕ × X) (more : List (List ℕ × X)) → IsInOrder path_cmp (es ++ e ∷ more)
      → IsBelowAll path_cmp e.0 more × IsInOrder path_cmp more
  order_later [] e more h = h
  order_later (f ∷ es) e more h = order_later es e more h.1

  other : (q : List ℕ) (e : List ℕ × X) (es : List (List ℕ × X)) → path_cmp e.0 q ≡ Less → find path_cmp q (e ∷ es) ≡ find path_cmp q es
  other q e es less = ap (λ r. cond (is_eq r) (Some e.1) (find path_cmp q es)) (path_cmp_total.antisymm q e.0 ∙ ap ordering_reverse less)

  -- what comes at a row or behind it isn't before it
  pub not_before : (es : List (List ℕ × X)) (e : List ℕ × X) (more : List (List ℕ × X)) → IsInOrder path_cmp (es ++ e ∷ more)
      → (q : List ℕ) → (q ≡ e.0) ⊎ (path_cmp e.0 q ≡ Less) → node_at es q ≡ None
  not_before [] e more h q at = refl
  not_before (f ∷ es) e more h q at = other q f es (less at) ∙ not_before es e more h.1 q at
    where
      middle : path_cmp f.0 e.0 ≡ Less
      middle = below_middle f.0 es e more h.0

      less : (q ≡ e.0) ⊎ (path_cmp e.0 q ≡ Less) → path_cmp f.0 q ≡ Less
      less (inl same) = ap (path_cmp f.0) same ∙ middle
      less (inr behind) = path_cmp_total.trans f.0 e.0 q middle behind

  find-behind : (es : List (List ℕ × X)) (q : List ℕ) (more : List (List ℕ × X)) → node_at es q ≡ None → node_at (es ++ more) q ≡ node_at more q
  find-behind [] q more none = refl
  find-behind (f ∷ es) q more none = step (is_eq (path_cmp q f.0)) none (find-behind es q more)
    where
      step : (b : Bool) → cond b (Some f.1) (node_at es q) ≡ None → (node_at es q ≡ None → node_at (es ++ more) q ≡ node_at more q)
          → cond b (Some f.1) (node_at (es ++ more) q) ≡ node_at more q
      step true h rest = cc
      step false h rest = rest h

  find-before : (es : List (List ℕ × X)) (q : List ℕ) (more : List (List ℕ × X)) → is_some (node_at es q) ≡ true
      → node_at (es ++ more) q ≡ node_at es q
  find-before [] q more some = absurd (true≢false (sym some))
  find-before (f ∷ es) q more some = step (is_eq (path_cmp q f.0)) some (find-before es q more)
    where
      step : (b : Bool) → is_some (cond b (Some f.1) (node_at es q)) ≡ true → (is_some (node_at es q) ≡ true → node_at (es ++ more) q ≡ node_at es q)
          → cond b (Some f.1) (node_at (es ++ more) q) ≡ cond b (Some f.1) (node_at es q)
      step true h rest = refl
      step false h rest = rest h

  find-here : (e : List ℕ × X) (more : List (List ℕ × X)) → node_at (e ∷ more) e.0 ≡ Some e.1
  find-here e more = ap (λ r. cond (is_eq r) (Some e.1) (node_at more e.0)) (path_level e.0)

  -- what is at a row's path
  pub node_between : (es : List (List ℕ × X)) (e : List ℕ × X) (more : List (List ℕ × X)) → IsInOrder path_cmp (es ++ e ∷ more)
      → node_at (es ++ e ∷ more) e.0 ≡ Some e.1
  node_between es e more h = find-behind es e.0 (e ∷ more) (not_before es e more h e.0 (inl refl)) ∙ find-here e more

-- ---- what is open

module _ (done : Tree) (e : List ℕ × Item) (rest : Tree) (is_tree : IsTree is_dir (done ++ e ∷ rest)) where
  abbrev lies_in : List ℕ × Item → Bool
  lies_in row = is_child (Some e.0) row.0

  -- the directory of a row that was passed isn't at this one, or behind it
  passed_before : (d : List ℕ) → is_some (node_at done d) ≡ true → (d ≡ e.0) ⊎ (path_cmp e.0 d ≡ Less) → ⊥
  passed_before d some at = true≢false (sym some ∙ ap is_some (not_before done e rest is_tree.in_order d at))

  found_more : (d : List ℕ) → is_some (node_at (done ++ e ∷ []) d) ≡ (bytes_eq d e.0 || is_some (node_at done d))
  found_more d = step (is_some (node_at done d)) refl
    where
      same : (b : Bool) → bytes_eq d e.0 ≡ b → node_at done d ≡ None → is_some (node_at (done ++ e ∷ []) d) ≡ b
      same true is none =
          let at : d ≡ e.0 = (bytes_eq-Decides d e.0).0 is in
          ap is_some (find-behind done d (e ∷ []) none ∙ ap (node_at (e ∷ [])) at ∙ find-here e [])
      same false is none = ap is_some (find-behind done d (e ∷ []) none) ∙ missed (path_cmp d e.0) refl
        where
          missed : (r : Ordering) → path_cmp d e.0 ≡ r → is_some (cond (is_eq r) (Some e.1) None) ≡ false
          missed Less h = refl
          missed Greater h = refl
          missed Equal h = absurd (true≢false (sym ((bytes_eq-Decides d e.0).1 (path_cmp_exact d e.0 h)) ∙ is))

      none_is : (o : Option Item) → is_some o ≡ false → o ≡ None
      none_is None h = refl
      none_is (Some x) h = absurd (true≢false h)

      or_true : (b : Bool) → true ≡ (b || true)
      or_true true = refl
      or_true false = refl

      or_false : (b : Bool) → b ≡ (b || false)
      or_false true = refl
      or_false false = refl

      step : (b : Bool) → is_some (node_at done d) ≡ b → is_some (node_at (done ++ e ∷ []) d) ≡ (bytes_eq d e.0 || b)
      step true some = ap is_some (find-before done d (e ∷ []) some) ∙ some ∙ or_true (bytes_eq d e.0)
      step false none = same (bytes_eq d e.0) refl (none_is (node_at done d) none) ∙ or_false (bytes_eq d e.0)

  open_or : (row : List ℕ × Item) → is_open (done ++ e ∷ []) row ≡ (lies_in row || is_open done row)
  open_or row = step (parent row.0)
    where
      step : (above : Option (List ℕ)) → is_passed (done ++ e ∷ []) above ≡ (option_eq bytes_eq above (Some e.0) || is_passed done above)
      step None = refl
      step (Some d) = found_more d

  not_both : (row : List ℕ × Item) → lies_in row ≡ true → is_open done row ≡ true → ⊥
  not_both row lies is =
      let above : parent row.0 ≡ Some e.0 = is_child-true e.0 row.0 lies in
      passed_before e.0 (ap (is_passed done) (sym above) ∙ is) (inl refl)

  -- behind a row that was open, nothing lies in this one
  in_front : (row later : List ℕ × Item) → path_cmp e.0 row.0 ≡ Less → path_cmp row.0 later.0 ≡ Less → is_open done row ≡ true
      → lies_in later ≡ true → ⊥
  in_front row later behind order is lies =
      let above : parent later.0 ≡ Some e.0 = is_child-true e.0 later.0 lies in
      let within : is_within e.0 row.0 ≡ true = between e.0 row.0 later.0 (within_parent e.0 later.0 above) behind order in
      let d = parent_within e.0 row.0 within behind in
      passed_before d.0 (ap (is_passed done) (sym d.1) ∙ is) d.2

  none_later : (row : List ℕ × Item) → path_cmp e.0 row.0 ≡ Less → is_open done row ≡ true → (later : Tree) → IsBelowAll path_cmp row.0 later
      → filter lies_in later ≡ []
  none_later row behind is [] below = refl
  none_later row behind is (r ∷ later) below = step (lies_in r) refl (none_later row behind is later below.1)
    where
      step : (b : Bool) → lies_in r ≡ b → filter lies_in later ≡ [] → cond b (r ∷ filter lies_in later) (filter lies_in later) ≡ []
      step true lies rest = absurd (in_front row r behind below.0 is lies)
      step false lies rest = rest

  parted : (later : Tree) → IsBelowAll path_cmp e.0 later → IsInOrder path_cmp later
      → filter (is_open (done ++ e ∷ [])) later ≡ filter lies_in later ++ filter (is_open done) later
  parted [] below order = refl
  parted (r ∷ later) below order =
      ap (λ b. cond b (r ∷ filter (is_open (done ++ e ∷ [])) later) (filter (is_open (done ++ e ∷ [])) later)) (open_or r)
      ∙ step (lies_in r) refl (is_open done r) refl (parted later below.1 order.1)
    where
      step : (w : Bool) → lies_in r ≡ w → (o : Bool) → is_open done r ≡ o
          → filter (is_open (done ++ e ∷ [])) later ≡ filter lies_in later ++ filter (is_open done) later
          → cond (w || o) (r ∷ filter (is_open (done ++ e ∷ [])) later) (filter (is_open (done ++ e ∷ [])) later)
          ≡ cond w (r ∷ filter lies_in later) (filter lies_in later) ++ cond o (r ∷ filter (is_open done) later) (filter (is_open done) later)
      step true lies true is rest = absurd (not_both r lies is)
      step true lies false is rest = ap (λ rows. r ∷ rows) rest
      step false lies true is rest =
          let none : filter lies_in later ≡ [] = none_later r below.0 is later order.0 in
          ap (λ rows. r ∷ rows) (rest ∙ ap (λ rows. rows ++ filter (is_open done) later) none)
          ∙ sym (ap (λ rows. rows ++ r ∷ filter (is_open done) later) none)
      step false lies false is rest = rest

  -- a row before lies in none of what comes later
  none_before : (before after : Tree) → IsInOrder path_cmp (before ++ e ∷ after) → filter lies_in before ≡ []
  none_before [] after order = refl
  none_before (r ∷ before) after order = step (lies_in r) refl (none_before before after order.1)
    where
      step : (b : Bool) → lies_in r ≡ b → filter lies_in before ≡ [] → cond b (r ∷ filter lies_in before) (filter lies_in before) ≡ []
      step true lies rest =
          absurd (not_both_less e.0 r.0 (before_child e.0 r.0 (is_child-true e.0 r.0 lies)) (below_middle r.0 before e after order.0))
      step false lies rest = rest

  not_itself : lies_in e ≡ false
  not_itself = step (lies_in e) refl
    where
      step : (b : Bool) → lies_in e ≡ b → b ≡ false
      step true lies = absurd (less_not_self e.0 (before_child e.0 e.0 (is_child-true e.0 e.0 lies)))
      step false lies = refl

  children_later : children (done ++ e ∷ rest) (Some e.0) ≡ filter lies_in rest
  children_later =
      filter-append lies_in done (e ∷ rest) ∙ ap (λ rows. rows ++ filter lies_in (e ∷ rest)) (none_before done rest is_tree.in_order)
      ∙ ap (λ b. cond b (e ∷ filter lies_in rest) (filter lies_in rest)) not_itself

  -- behind a row, what is open is what lies in it, and then what was open
  pub open_more : filter (is_open (done ++ e ∷ [])) rest ≡ children (done ++ e ∷ rest) (Some e.0) ++ filter (is_open done) rest
  open_more =
      let later = order_later done e rest is_tree.in_order in
      parted rest later.0 later.1 ∙ ap (λ rows. rows ++ filter (is_open done) rest) (sym children_later)

  -- the next row is open
  pub first_open : is_open done e ≡ true
  first_open = step (parent e.0) refl
    where
      step : (above : Option (List ℕ)) → parent e.0 ≡ above → is_passed done above ≡ true
      step None is = refl
      step (Some d) is = there (is_some (node_at done d)) refl
        where
          parts : (name : List ℕ) × (e.0 ≡ d ++ 47 ∷ name) × (parent name ≡ None)
          parts = parent-parts e.0 d is

          dir_there : is_dir_at is_dir (done ++ e ∷ rest) d ≡ true
          dir_there = is_tree.parents d parts.0
              (ap (λ q. is_some (node_at (done ++ e ∷ rest) q)) (sym parts.1) ∙ ap is_some (node_between done e rest is_tree.in_order))

          less : path_cmp d e.0 ≡ Less
          less = before_child d e.0 is

          none_behind : node_at (e ∷ rest) d ≡ None
          none_behind = find_below path_cmp path_cmp_total d (e ∷ rest)
              (less, below_through path_cmp path_cmp_total d e.0 rest less (order_later done e rest is_tree.in_order).0)

          none_is : (o : Option Item) → is_some o ≡ false → o ≡ None
          none_is None h = refl
          none_is (Some x) h = absurd (true≢false h)

          there : (b : Bool) → is_some (node_at done d) ≡ b → b ≡ true
          there true some = refl
          there false none =
              let nowhere : node_at (done ++ e ∷ rest) d ≡ None = find-behind done d (e ∷ rest) (none_is (node_at done d) none) ∙ none_behind in
              sym (ap (is_dir_found is_dir) nowhere) ∙ dir_there

-- nothing is passed at first: what lies in the root is open
pub open_first : (tree : Tree) → filter (is_open []) tree ≡ children tree None
open_first [] = refl
open_first (row ∷ tree) = step (parent row.0) (open_first tree)
  where
    step : (above : Option (List ℕ)) → filter (is_open []) tree ≡ children tree None
        → cond (is_passed [] above) (row ∷ filter (is_open []) tree) (filter (is_open []) tree)
        ≡ cond (option_eq bytes_eq above None) (row ∷ children tree None) (children tree None)
    step None rest = ap (λ rows. row ∷ rows) rest
    step (Some d) rest = rest
