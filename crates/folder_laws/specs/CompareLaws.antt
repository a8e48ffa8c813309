-- Each path that the folder lacks lies within a path that leaves.
use Rattle.std.specs.Prelude.{◌≡◌, ℕ, Bool, true, false, not, ◌==◌, ◌&&◌, ◌||◌, cond, List, [], ◌∷◌, ◌++◌, map, Option, Some, None, is_some, if◌then◌else◌, bytes_eq, ◌⊎◌}
use Rattle.std.specs.List.{filter, list_any}
use Rattle.std.specs.Option.{option_eq}
use Rattle.std.specs.declared.cmp.Ordering.{Ordering}
use Rattle.std.specs.declared.cmp.Ordering.TheVariants.{Less, Equal, Greater}
use Rattle.std.specs.Ordering.{is_eq}
use borrow.Author.Tests.{eqb-true}
use Rattle.std.proofs.Common.{refl, sym, ap, ◌∙◌, subst, inl, inr, append_assoc}
use Rattle.std.proofs.lemmas.Bool.{true≢false}
use Rattle.std.proofs.lemmas.Slice.Eq.{bytes_eq-Decides}
use Rattle.std.proofs.lemmas.List.{map-append}
use Rattle.std.proofs.lemmas.List.Elements.{filter-append}
use Rattle.attr_records.specs.declared.nodes.Item.{Item}
use Rattle.attr_records.specs.Items.{Tree, is_dir}
use Rattle.attr_records.specs.Paths.{path_cmp, parent, is_within, under}
use Rattle.attr_records.specs.PathLaws.{path_cmp_exact, parent-last, within-further, within-itself}
use Rattle.attr_records.specs.Trees.{node_at, is_dir_found, IsTree}
use Rattle.folder_laws.specs.Walks.{is_child}
use Rattle.folder_laws.specs.Walks.{children}
use Rattle.folder_laws.specs.Replays.{without_all, with_all}
use Rattle.folder_laws.specs.ReplayLaws.{replayed_edits}
use Rattle.folder_laws.specs.declared.known.Known.{Known}
use Rattle.folder_laws.specs.Compares.{root, is_other, is_gone, gone_in, known_of, known_in, Compares}

-- ---- the child of a directory in which a path lies

abbrev Below : Option (List ℕ) → List ℕ → Type 0
Below None q = Unit {0}
Below (Some d) q = (rest : List ℕ) × (q ≡ d ++ 47 ∷ rest)

-- the path itself, or what lies below it
abbrev AtOrBelow : List ℕ → List ℕ → Type 0
AtOrBelow c q = (q ≡ c) ⊎ ((rest : List ℕ) × (q ≡ c ++ 47 ∷ rest))

first_slash : (q : List ℕ) → (parent q ≡ None) ⊎ ((c : List ℕ) × (rest : List ℕ) × (q ≡ c ++ 47 ∷ rest) × (parent c ≡ None))
first_slash [] = inl refl
first_slash (b ∷ q) = step (b == 47) refl (first_slash q)
  where
    step : (slash : Bool) → (b == 47) ≡ slash
        → (parent q ≡ None) ⊎ ((c : List ℕ) × (rest : List ℕ) × (q ≡ c ++ 47 ∷ rest) × (parent c ≡ None))
        → (parent (b ∷ q) ≡ None) ⊎ ((c : List ℕ) × (rest : List ℕ) × (b ∷ q ≡ c ++ 47 ∷ rest) × (parent c ≡ None))
    step true is rest = inr ([], q, ap (λ x. x ∷ q) (eqb-true b 47 is), refl)
    step false is (inl none) = inl (ap (under b) none ∙ ap (λ (s : Bool). if s then Some [] else None) is)
    step false is (inr w) =
        inr (b ∷ w.0, w.1, ap (λ xs. b ∷ xs) w.2, ap (under b) w.3 ∙ ap (λ (s : Bool). if s then Some [] else None) is)

pub record ChildAbove (directory : Option (List ℕ)) (q : List ℕ) : Type 0 where
  pub child : List ℕ
  pub lies : parent child ≡ directory
  pub within : AtOrBelow child q

child_above : (directory : Option (List ℕ)) (q : List ℕ) → Below directory q → ChildAbove directory q
child_above None q below = step (first_slash q)
  where
    step : (parent q ≡ None) ⊎ ((c : List ℕ) × (rest : List ℕ) × (q ≡ c ++ 47 ∷ rest) × (parent c ≡ None)) → ChildAbove None q
    step (inl none) = record { child = q; lies = none; within = inl refl }
    step (inr w) = record { child = w.0; lies = w.3; within = inr (w.1, w.2) }
child_above (Some d) q below = step (first_slash below.0)
  where
    step : (parent below.0 ≡ None) ⊎ ((c : List ℕ) × (rest : List ℕ) × (below.0 ≡ c ++ 47 ∷ rest) × (parent c ≡ None)) → ChildAbove (Some d) q
    step (inl none) = record { child = q; lies = ap parent below.1 ∙ parent-last d below.0 none; within = inl refl }
    step (inr w) = record {
      child = d ++ 47 ∷ w.0;
      lies = parent-last d w.0 w.3;
      within = inr (w.1, below.1 ∙ ap (λ r. d ++ 47 ∷ r) w.2 ∙ sym (append_assoc d (47 ∷ w.0) (47 ∷ w.1)));
    }

is_within-below : (c q : List ℕ) → AtOrBelow c q → is_within c q ≡ true
is_within-below c q (inl same) = ap (is_within c) same ∙ within-itself c
is_within-below c q (inr w) = ap (is_within c) w.1 ∙ within-further c c w.0 (within-itself c)

-- ---- rows of a tree and of a directory

pub record Stands {X : Type 0} (xs : List X) (x : X) : Type 0 where
  pub before : List X
  pub after : List X
  pub is : xs ≡ before ++ x ∷ after

pub stands_at : (es : Tree) (q : List ℕ) (x : Item) → node_at es q ≡ Some x → Stands es (q, x)
stands_at [] q x e = absurd (cc)
stands_at (row ∷ es) q x e = step (path_cmp q row.0) refl e (stands_at es q x)
  where
    later : Stands es (q, x) → Stands (row ∷ es) (q, x)
    later w = record { before = row ∷ w.before; after = w.after; is = ap (λ rows. row ∷ rows) w.is }

    here : q ≡ row.0 → row.1 ≡ x → Stands (row ∷ es) (q, x)
    here same item = record { before = []; after = es; is = (λ i. (sym same i, item i) ∷ es) }

    step : (r : Ordering) → path_cmp q row.0 ≡ r → cond (is_eq r) (Some row.1) (node_at es q) ≡ Some x → (node_at es q ≡ Some x → Stands es (q, x))
        → Stands (row ∷ es) (q, x)
    step Less is f rest = later (rest f)
    step Greater is f rest = later (rest f)
    step Equal is f rest = here (path_cmp_exact q row.0 is) (cc)

pub stands_filter : {X : Type 0} (p : X → Bool) (xs : List X) (x : X) → p x ≡ true → Stands xs x → Stands (filter p xs) x
stands_filter p xs x passes w = record {
  before = filter p w.before;
  after = filter p w.after;
  is = ap (filter p) w.is ∙ filter-append p w.before (x ∷ w.after)
      ∙ ap (λ b. filter p w.before ++ cond b (x ∷ filter p w.after) (filter p w.after)) passes;
}

stands_map : {X Y : Type 0} (f : X → Y) (xs : List X) (x : X) → Stands xs x → Stands (map f xs) (f x)
stands_map f xs x w = record {
  before = map f w.before;
  after = map f w.after;
  is = ap (map f) w.is ∙ map-append f w.before (x ∷ w.after);
}

stands_left : {X : Type 0} (xs ys : List X) (x : X) → Stands xs x → Stands (xs ++ ys) x
stands_left xs ys x w = record {
  before = w.before;
  after = w.after ++ ys;
  is = ap (λ zs. zs ++ ys) w.is ∙ append_assoc w.before (x ∷ w.after) ys;
}

stands_right : {X : Type 0} (xs ys : List X) (x : X) → Stands ys x → Stands (xs ++ ys) x
stands_right xs ys x w = record {
  before = xs ++ w.before;
  after = w.after;
  is = ap (λ zs. xs ++ zs) w.is ∙ sym (append_assoc xs w.before (x ∷ w.after));
}

child_test : (directory : Option (List ℕ)) (q : List ℕ) → parent q ≡ directory → is_child directory q ≡ true
child_test None q e = ap (λ above. option_eq bytes_eq above None) e
child_test (Some d) q e = ap (λ above. option_eq bytes_eq above (Some d)) e ∙ (bytes_eq-Decides d d).1 refl

-- what lies in a directory has there what the tree has
node_at-children : (tree : Tree) (directory : Option (List ℕ)) (q : List ℕ) → parent q ≡ directory → node_at (children tree directory) q ≡ node_at tree q
node_at-children [] directory q e = refl
node_at-children (row ∷ tree) directory q e = step (path_cmp q row.0) refl (is_child directory row.0) refl (node_at-children tree directory q e)
  where
    step : (r : Ordering) → path_cmp q row.0 ≡ r → (b : Bool) → is_child directory row.0 ≡ b → node_at (children tree directory) q ≡ node_at tree q
        → node_at (cond b (row ∷ children tree directory) (children tree directory)) q ≡ cond (is_eq r) (Some row.1) (node_at tree q)
    step Less is true lies rest = ap (λ r. cond (is_eq r) (Some row.1) (node_at (children tree directory) q)) is ∙ rest
    step Less is false lies rest = rest
    step Greater is true lies rest = ap (λ r. cond (is_eq r) (Some row.1) (node_at (children tree directory) q)) is ∙ rest
    step Greater is false lies rest = rest
    step Equal is true lies rest = ap (λ r. cond (is_eq r) (Some row.1) (node_at (children tree directory) q)) is
    step Equal is false lies rest =
        absurd (true≢false (sym (child_test directory row.0 (ap parent (sym (path_cmp_exact q row.0 is)) ∙ e)) ∙ lies))

-- ---- the comparison

module _ (seen base : Tree) (base_is : IsTree is_dir base) where
  abbrev Covered : List (List ℕ) → List ℕ → Type 0
  Covered gone q = (path : List ℕ) × Stands gone path × (is_within path q ≡ true)

  abbrev Awaited : List Known → List ℕ → Type 0
  Awaited pending q = (known : Known) × Stands pending known × (known.there ≡ true) × Below known.directory q

  -- of a path that the backup has and the folder lacks: it lies in one that leaves, or in a directory that is still to be compared
  abbrev IsSeenTo : List Known → List (List ℕ) → Type 0
  IsSeenTo pending gone = (q : List ℕ) (x : Item) → node_at base q ≡ Some x → node_at seen q ≡ None → Covered gone q ⊎ Awaited pending q

  -- the child that lies above is there, and a directory where something is below it
  above_there : (q c : List ℕ) (x : Item) → node_at base q ≡ Some x → AtOrBelow c q
      → (y : Item) × (node_at base c ≡ Some y) × ((q ≡ c) ⊎ (((rest : List ℕ) × (q ≡ c ++ 47 ∷ rest)) × (is_dir y ≡ true)))
  above_there q c x has (inl same) = (x, ap (node_at base) (sym same) ∙ has, inl same)
  above_there q c x has (inr w) = found (node_at base c) refl (base_is.parents c w.0 (ap (λ p. is_some (node_at base p)) (sym w.1) ∙ ap is_some has))
    where
      found : (o : Option Item) → node_at base c ≡ o → is_dir_found is_dir (node_at base c) ≡ true
          → (y : Item) × (node_at base c ≡ Some y) × ((q ≡ c) ⊎ (((rest : List ℕ) × (q ≡ c ++ 47 ∷ rest)) × (is_dir y ≡ true)))
      found None e dir = absurd (true≢false (sym dir ∙ ap (is_dir_found is_dir) e))
      found (Some y) e dir = (y, e, inr (w, sym (ap (is_dir_found is_dir) e) ∙ dir))

  compared : (known : Known) (q : List ℕ) (x : Item) → node_at base q ≡ Some x → node_at seen q ≡ None → known.there ≡ true → Below known.directory q
      → Covered (gone_in seen base known) q ⊎ Awaited (known_in seen base known) q
  compared known q x has lacks there below = step (above_there q above.child x has above.within)
    where
      above : ChildAbove known.directory q
      above = child_above known.directory q below

      in_seen : node_at (children seen known.directory) above.child ≡ node_at seen above.child
      in_seen = node_at-children seen known.directory above.child above.lies

      row_stands : (y : Item) → node_at base above.child ≡ Some y → Stands (children base known.directory) (above.child, y)
      row_stands y is = stands_filter (λ row. is_child known.directory row.0) base (above.child, y) (child_test known.directory above.child above.lies) (stands_at base above.child y is)

      leaves : (y : Item) → node_at base above.child ≡ Some y → is_other (is_dir y) (node_at seen above.child) ≡ true → Covered (gone_in seen base known) q
      leaves y is other =
          let stands : Stands (map (λ (row : List ℕ × Item). row.0) (filter (is_gone seen known.directory) (children base known.directory))) above.child =
          stands_map (λ (row : List ℕ × Item). row.0) _ (above.child, y)
          (stands_filter (is_gone seen known.directory) (children base known.directory) (above.child, y) (ap (is_other (is_dir y)) in_seen ∙ other) (row_stands y is)) in
          (above.child, subst (λ b. Stands (cond b (map (λ (row : List ℕ × Item). row.0) (filter (is_gone seen known.directory) (children base known.directory))) []) above.child) (sym there) stands, is_within-below above.child q above.within)

      stays : (y z : Item) → node_at base above.child ≡ Some y → node_at seen above.child ≡ Some z → is_dir y ≡ true → is_dir z ≡ true
          → (rest : List ℕ) × (q ≡ above.child ++ 47 ∷ rest) → Awaited (known_in seen base known) q
      stays y z is found dir_y dir_z w =
          let there_too : (known_of seen known (above.child, y)).there ≡ true =
          ap (λ b. b && is_dir_found is_dir (node_at (children seen known.directory) above.child)) there
          ∙ ap (is_dir_found is_dir) (in_seen ∙ found) ∙ dir_z in (
            known_of seen known (above.child, y),
            stands_map (known_of seen known) _ (above.child, y)
                (stands_filter (λ (row : List ℕ × Item). is_dir row.1) (children base known.directory) (above.child, y) dir_y (row_stands y is)),
            there_too,
            w,
          )

      not_false : (b : Bool) → not b ≡ false → b ≡ true
      not_false true e = refl
      not_false false e = absurd (true≢false e)

      decide : (y : Item) → node_at base above.child ≡ Some y
          → (q ≡ above.child) ⊎ (((rest : List ℕ) × (q ≡ above.child ++ 47 ∷ rest)) × (is_dir y ≡ true))
          → (o : Option Item) → node_at seen above.child ≡ o → (b : Bool) → is_other (is_dir y) o ≡ b
          → Covered (gone_in seen base known) q ⊎ Awaited (known_in seen base known) q
      decide y is at o found true other = inl (leaves y is (ap (is_other (is_dir y)) found ∙ other))
      decide y is at None found false other = absurd (true≢false other)
      decide y is (inl same) (Some z) found false other =
          let nothing : None ≡ Some z = sym lacks ∙ ap (node_at seen) same ∙ found in absurd (cc)
      decide y is (inr w) (Some z) found false other =
          inr (stays y z is found w.1 (not_false (is_dir z) (ap (λ b. cond b (not (is_dir z)) (is_dir z)) (sym w.1) ∙ other)) w.0)

      step : (y : Item) × (node_at base above.child ≡ Some y) × ((q ≡ above.child) ⊎ (((rest : List ℕ) × (q ≡ above.child ++ 47 ∷ rest)) × (is_dir y ≡ true)))
          → Covered (gone_in seen base known) q ⊎ Awaited (known_in seen base known) q
      step w = decide w.0 w.1 w.2 (node_at seen above.child) refl (is_other (is_dir w.0) (node_at seen above.child)) refl

  covered_left : (gone more : List (List ℕ)) (q : List ℕ) → Covered gone q → Covered (gone ++ more) q
  covered_left gone more q w = (w.0, stands_left gone more w.0 w.1, w.2)

  covered_right : (gone more : List (List ℕ)) (q : List ℕ) → Covered more q → Covered (gone ++ more) q
  covered_right gone more q w = (w.0, stands_right gone more w.0 w.1, w.2)

  awaited_left : (pending more : List Known) (q : List ℕ) → Awaited pending q → Awaited (pending ++ more) q
  awaited_left pending more q w = (w.0, stands_left pending more w.0 w.1, w.2, w.3)

  awaited_right : (pending more : List Known) (q : List ℕ) → Awaited more q → Awaited (pending ++ more) q
  awaited_right pending more q w = (w.0, stands_right pending more w.0 w.1, w.2, w.3)

  -- the first of a list, or one of the others
  first_or : {X : Type 0} (known x : X) (rest : List X) → Stands (known ∷ rest) x → (x ≡ known) ⊎ Stands rest x
  first_or {X = X} known x rest w = step w.before w.is
    where
      step : (before : List X) → known ∷ rest ≡ before ++ x ∷ w.after → (x ≡ known) ⊎ Stands rest x
      step [] e = let same : known ≡ x = cc in inl (sym same)
      step (y ∷ before) e = inr (record { before = before; after = w.after; is = (cc) })

  seen_more : (known : Known) (rest : List Known) (gone : List (List ℕ)) → IsSeenTo (known ∷ rest) gone
      → IsSeenTo (known_in seen base known ++ rest) (gone ++ gone_in seen base known)
  seen_more known rest gone to q x has lacks = step (to q x has lacks)
    where
      here : Covered (gone_in seen base known) q ⊎ Awaited (known_in seen base known) q
          → Covered (gone ++ gone_in seen base known) q ⊎ Awaited (known_in seen base known ++ rest) q
      here (inl w) = inl (covered_right gone (gone_in seen base known) q w)
      here (inr w) = inr (awaited_left (known_in seen base known) rest q w)

      waits : (k : Known) → k.there ≡ true → Below k.directory q → (k ≡ known) ⊎ Stands rest k
          → Covered (gone ++ gone_in seen base known) q ⊎ Awaited (known_in seen base known ++ rest) q
      waits k there below (inl same) =
          here (compared known q x has lacks (ap (λ (n : Known). n.there) (sym same) ∙ there) (subst (λ (n : Known). Below n.directory q) same below))
      waits k there below (inr stands) = inr (awaited_right (known_in seen base known) rest q (k, stands, there, below))

      step : Covered gone q ⊎ Awaited (known ∷ rest) q → Covered (gone ++ gone_in seen base known) q ⊎ Awaited (known_in seen base known ++ rest) q
      step (inl w) = inl (covered_left gone (gone_in seen base known) q w)
      step (inr w) = waits w.0 w.2 w.3 (first_or known w.0 rest w.1)

  seen_to : (visits pending : List Known) (gone all : List (List ℕ)) (pending' : List Known) → pending' ≡ pending → IsSeenTo pending' gone
      → Compares seen base pending gone visits all
      → (q : List ℕ) (x : Item) → node_at base q ≡ Some x → node_at seen q ≡ None → Covered all q
  seen_to [] pending gone all pending' same to h q x has lacks = step (to q x has lacks)
    where
      step : Covered gone q ⊎ Awaited pending' q → Covered all q
      step (inl w) = subst (λ g. Covered g q) (sym h.1) w
      step (inr w) = nothing w.1.before (sym (same ∙ h.0) ∙ w.1.is)
        where
          nothing : (before : List Known) → [] ≡ before ++ w.0 ∷ w.1.after → Covered all q
          nothing [] e = absurd (cc)
          nothing (k ∷ before) e = absurd (cc)
  seen_to (known ∷ visits) pending gone all pending' same to h q x has lacks =
      seen_to visits (known_in seen base known ++ h.0) (gone ++ gone_in seen base known) all (known_in seen base known ++ h.0) refl
      (seen_more known h.0 gone (subst (λ p. IsSeenTo p gone) (same ∙ h.1) to)) h.2 q x has lacks

  any_covered : (all : List (List ℕ)) (q : List ℕ) → Covered all q → list_any (λ path. is_within path q) all ≡ true
  any_covered all q w = ap (list_any (λ path. is_within path q)) w.1.is ∙ step w.1.before
    where
      step : (before : List (List ℕ)) → list_any (λ path. is_within path q) (before ++ w.0 ∷ w.1.after) ≡ true
      step [] = ap (λ b. b || list_any (λ path. is_within path q) w.1.after) w.2
      step (p ∷ before) = ap (λ b. is_within p q || b) (step before) ∙ or_true (is_within p q)
        where
          or_true : (b : Bool) → (b || true) ≡ true
          or_true true = refl
          or_true false = refl

  -- what the comparison finds: without the paths that leave, and with the folder's rows, the backup's tree is the folder's
  pub replayed_dump : (visits : List Known) (gone : List (List ℕ)) → IsTree is_dir seen → Compares seen base (root ∷ []) [] visits gone
      → with_all (without_all base gone) seen ≡ seen
  replayed_dump visits gone seen_is h =
      replayed_edits base seen gone base_is.in_order seen_is.in_order (λ q lacks bare. nowhere q lacks bare (node_at base q) refl)
    where
      at_first : IsSeenTo (root ∷ []) []
      at_first q x has lacks = inr (root, record { before = []; after = []; is = refl }, refl, tt)

      nowhere : (q : List ℕ) → node_at seen q ≡ None → list_any (λ path. is_within path q) gone ≡ false → (o : Option Item) → node_at base q ≡ o → o ≡ None
      nowhere q lacks bare None e = refl
      nowhere q lacks bare (Some x) e =
          absurd (true≢false (sym (any_covered gone q (seen_to visits (root ∷ []) [] gone (root ∷ []) refl at_first h q x e lacks)) ∙ bare))
