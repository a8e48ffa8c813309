-- Laws of rows that stand in a folder.
--     stands_first      in an empty folder no row stands
--     stands_finished      a directory in which nothing more lies was finished
--     stands_plain, stands_dir      a row was made
--     earlier_is      a hard link of an equal file is the file
--     stands_noted      a file of a group was noted
--     stands_whole      all was made and finished
use Rattle.std.specs.Prelude.{◌≡◌, ℕ, zero, suc, Bool, true, false, ◌||◌, cond, List, [], ◌∷◌, ◌++◌, Option, Some, None, is_some, slice_get, bytes_eq, ◌⊎◌}
use Rattle.std.specs.declared.cmp.Ordering.{Ordering}
use Rattle.std.specs.declared.cmp.Ordering.TheVariants.{Less, Equal, Greater}
use Rattle.std.specs.Ordering.{is_eq, eq_by_cmp}
use Rattle.std.proofs.Common.{refl, sym, ap, ◌∙◌, subst, append_assoc, inl, inr}
use Rattle.std.proofs.lemmas.Bool.{true≢false}
use Rattle.std.proofs.lemmas.Slice.Eq.{bytes_eq-Decides}
use Rattle.attr_records.specs.declared.nodes.Item.{Item}
use Rattle.attr_records.specs.declared.nodes.Item.TheVariants as I
use Rattle.attr_records.specs.declared.nodes.Dir.{Dir}
use Rattle.attr_records.specs.declared.nodes.File.{File}
use Rattle.attr_records.specs.Items.{Tree, is_dir}
use Rattle.attr_records.specs.Paths.{path_cmp, parent, is_within}
use Rattle.attr_records.specs.PathLaws.{path_cmp_exact, parent-parts}
use Rattle.attr_records.specs.Trees.{node_at, with_node, is_dir_found, is_dir_at, IsTree}
use Rattle.attr_records.specs.TreeLaws.{node_at-with_node, IsInOrder-with_node, same_tree}
use Rattle.ordered_lists.specs.Order.{IsInOrder}
use Rattle.ordered_lists.specs.OrderLaws.{IsInOrder-prefix}
use Rattle.folder_trait.specs.Folders.{unfinished, begun, touched, made, with_made, linked, with_linked, with_finished}
use Rattle.folder_making.specs.declared.dirs.OpenDir.{OpenDir}
use Rattle.folder_making.specs.declared.noted.Noted.{Noted}
use Rattle.folder_making.specs.RowLaws.{path_level, within_parent, before_child, next_is_new, found_next, found_before, found_behind, found_front, found_other, next_or_later}
use Rattle.folder_making.specs.Standing.{is_unfinished, shown, AreDirs, IsNoted, AreNoted, Stands, IsSame}

-- ---- tests

differ : (a b : List ℕ) → bytes_eq a b ≡ false → bytes_eq b a ≡ false
differ a b e = step (bytes_eq b a) refl
  where
    step : (r : Bool) → bytes_eq b a ≡ r → bytes_eq b a ≡ false
    step false h = h
    step true h = absurd (true≢false (sym ((bytes_eq-Decides a b).1 (sym ((bytes_eq-Decides b a).0 h))) ∙ e))

-- the order of paths tells equal paths as their bytes do
tests_agree : (p q : List ℕ) → eq_by_cmp path_cmp p q ≡ bytes_eq q p
tests_agree p q = step (bytes_eq q p) refl
  where
    missed : (r : Ordering) → path_cmp p q ≡ r → bytes_eq q p ≡ false → is_eq r ≡ false
    missed Less e h = refl
    missed Greater e h = refl
    missed Equal e h = absurd (true≢false (sym ((bytes_eq-Decides q p).1 (sym (path_cmp_exact p q e))) ∙ h))

    step : (b : Bool) → bytes_eq q p ≡ b → eq_by_cmp path_cmp p q ≡ b
    step true h = ap (λ r. eq_by_cmp path_cmp p r) ((bytes_eq-Decides q p).0 h) ∙ ap is_eq (path_level p)
    step false h = missed (path_cmp p q) refl h

same_path : (p q : List ℕ) → eq_by_cmp path_cmp p q ≡ true → q ≡ p
same_path p q e = (bytes_eq-Decides q p).0 (sym (tests_agree p q) ∙ e)

or_assoc : (a b c : Bool) → (a || (b || c)) ≡ ((a || b) || c)
or_assoc true b c = refl
or_assoc false b c = refl

or_false : (b : Bool) → (b || false) ≡ b
or_false true = refl
or_false false = refl

or_true : (b : Bool) → (b || true) ≡ true
or_true true = refl
or_true false = refl

neither : (a b : Bool) → (a || b) ≡ false → (a ≡ false) × (b ≡ false)
neither true b e = absurd (true≢false e)
neither false b e = (refl, e)

-- ---- the stack of directories

unfinished_or : (dirs : List OpenDir) (dir : OpenDir) (path : List ℕ)
    → is_unfinished (dirs ++ dir ∷ []) path ≡ (is_unfinished dirs path || bytes_eq dir.path path)
unfinished_or [] dir path = or_false (bytes_eq dir.path path)
unfinished_or (x ∷ dirs) dir path =
    ap (λ b. bytes_eq x.path path || b) (unfinished_or dirs dir path) ∙ or_assoc (bytes_eq x.path path) (is_unfinished dirs path) (bytes_eq dir.path path)

pub dirs_front : (rows : Tree) (dirs : List OpenDir) (dir : OpenDir) → AreDirs rows (dirs ++ dir ∷ [])
    → AreDirs rows dirs × (node_at rows dir.path ≡ Some (I.Dir dir.dir)) × (is_unfinished dirs dir.path ≡ false)
dirs_front rows [] dir h = (tt, h.0, refl)
dirs_front rows (x ∷ dirs) dir h =
    let rest = dirs_front rows dirs dir h.2 in
    let parts = neither (is_unfinished dirs x.path) (bytes_eq dir.path x.path) (sym (unfinished_or dirs dir x.path) ∙ h.1) in
    ((h.0, parts.0, rest.0), rest.1, ap (λ b. b || is_unfinished dirs dir.path) (differ dir.path x.path parts.1) ∙ rest.2)

dirs_push : (rows : Tree) (dirs : List OpenDir) (dir : OpenDir) → AreDirs rows dirs → node_at rows dir.path ≡ Some (I.Dir dir.dir)
    → is_unfinished dirs dir.path ≡ false → AreDirs rows (dirs ++ dir ∷ [])
dirs_push rows [] dir h at new = (at, refl, tt)
dirs_push rows (x ∷ dirs) dir h at new =
    let parts = neither (bytes_eq x.path dir.path) (is_unfinished dirs dir.path) new in
    (h.0, unfinished_or dirs dir x.path ∙ ap (λ b. b || bytes_eq dir.path x.path) h.1 ∙ differ x.path dir.path parts.0, dirs_push rows dirs dir h.2 at parts.1)

dirs_more : (rows more : Tree) (dirs : List OpenDir) → AreDirs rows dirs → AreDirs (rows ++ more) dirs
dirs_more rows more [] h = tt
dirs_more rows more (x ∷ dirs) h = (found_before rows x.path more (I.Dir x.dir) h.0, h.1, dirs_more rows more dirs h.2)

unfinished_is_dir : (rows : Tree) (dirs : List OpenDir) (path : List ℕ) → AreDirs rows dirs → is_unfinished dirs path ≡ true
    → is_dir_at is_dir rows path ≡ true
unfinished_is_dir rows [] path h e = absurd (true≢false (sym e))
unfinished_is_dir rows (x ∷ dirs) path h e = step (bytes_eq x.path path) refl e (unfinished_is_dir rows dirs path h.2)
  where
    step : (b : Bool) → bytes_eq x.path path ≡ b → (b || is_unfinished dirs path) ≡ true
        → (is_unfinished dirs path ≡ true → is_dir_at is_dir rows path ≡ true) → is_dir_at is_dir rows path ≡ true
    step true same f rest = ap (is_dir_at is_dir rows) (sym ((bytes_eq-Decides x.path path).0 same)) ∙ ap (is_dir_found is_dir) h.0
    step false other f rest = rest f

-- what is no directory isn't on the stack
not_unfinished : (rows : Tree) (dirs : List OpenDir) (path : List ℕ) (found : Option Item) → AreDirs rows dirs → node_at rows path ≡ found
    → is_dir_found is_dir found ≡ false → is_unfinished dirs path ≡ false
not_unfinished rows dirs path found h at none = step (is_unfinished dirs path) refl
  where
    step : (b : Bool) → is_unfinished dirs path ≡ b → is_unfinished dirs path ≡ false
    step false e = e
    step true e = absurd (true≢false (sym (unfinished_is_dir rows dirs path h e) ∙ ap (is_dir_found is_dir) at ∙ none))

-- ---- files of groups

noted_more : (rows more : Tree) (noted : List Noted) → AreNoted rows noted → AreNoted (rows ++ more) noted
noted_more rows more noted h index one at =
    let was = h index one at in
    record { file = was.file; stands = found_before rows one.path more (I.File was.file) was.stands; attr = was.attr; group = was.group }

got_more : (xs : List Noted) (x : Noted) (index : ℕ) (one : Noted) → slice_get (xs ++ x ∷ []) index ≡ Some one
    → (slice_get xs index ≡ Some one) ⊎ (x ≡ one)
got_more [] x zero one e = inr (let same : x ≡ one = cc in same)
got_more [] x (suc index) one e = cc
got_more (y ∷ xs) x zero one e = inl e
got_more (y ∷ xs) x (suc index) one e = got_more xs x index one e

-- ---- a directory is finished

pub stands_finished : (rows more : Tree) (told told' : Option Tree) (dirs : List OpenDir) (dir : OpenDir) (noted : List Noted)
    → told' ≡ with_finished told dir.path dir.dir
    → ((path : List ℕ) → is_some (node_at more path) ≡ true → is_within dir.path path ≡ true → ⊥)
    → Stands rows more told (dirs ++ dir ∷ []) noted → Stands rows more told' dirs noted
stands_finished rows more told told' dirs dir noted is unneeded s =
    let parts = dirs_front rows dirs dir s.dirs_are in
    record {
      is_tree = s.is_tree;
      all = with_node s.all dir.path (I.Dir dir.dir);
      told_is = is ∙ ap (λ t. with_finished t dir.path dir.dir) s.told_is;
      in_order = IsInOrder-with_node s.all dir.path (I.Dir dir.dir) s.in_order;
      shows = λ path. node_at-with_node s.all dir.path (I.Dir dir.dir) path ∙ there parts.1 parts.2 path (eq_by_cmp path_cmp path dir.path) refl;
      dirs_are = parts.0;
      covers = λ directory path at later within.
          left directory path later within (is_unfinished dirs directory) refl (sym (unfinished_or dirs dir directory) ∙ s.covers directory path at later within);
      noted_are = s.noted_are;
    }
  where
    there : node_at rows dir.path ≡ Some (I.Dir dir.dir) → is_unfinished dirs dir.path ≡ false → (path : List ℕ) (b : Bool)
        → eq_by_cmp path_cmp path dir.path ≡ b → cond b (Some (I.Dir dir.dir)) (node_at s.all path) ≡ shown dirs rows path
    there at gone path true e =
        sym (ap (shown dirs rows) (sym (same_path path dir.path e)) ∙ ap (λ b. cond b (Some unfinished) (node_at rows dir.path)) gone ∙ at)
    there at gone path false e =
        s.shows path ∙ ap (λ b. cond b (Some unfinished) (node_at rows path))
        (unfinished_or dirs dir path ∙ ap (λ b. is_unfinished dirs path || b) (sym (tests_agree path dir.path) ∙ e) ∙ or_false (is_unfinished dirs path))

    left : (directory path : List ℕ) → is_some (node_at more path) ≡ true → is_within directory path ≡ true
        → (b : Bool) → is_unfinished dirs directory ≡ b → (b || bytes_eq dir.path directory) ≡ true → is_unfinished dirs directory ≡ true
    left directory path later within true e f = e
    left directory path later within false e f =
        absurd (unneeded path later (ap (λ d. is_within d path) ((bytes_eq-Decides dir.path directory).0 f) ∙ within))

-- ---- a row is made

module _ (rows more : Tree) (told : Option Tree) (dirs : List OpenDir) (noted : List Noted) (path : List ℕ) (item : Item)
    (s : Stands rows ((path, item) ∷ more) told dirs noted) where
  new : node_at rows path ≡ None
  new = next_is_new rows (path, item) more s.is_tree.in_order

  here : node_at (rows ++ (path, item) ∷ []) path ≡ Some item
  here = found_behind rows path ((path, item) ∷ []) new ∙ found_next (path, item) []

  -- the directory that the row lies in is on the stack
  parent_unfinished : (directory : List ℕ) → parent path ≡ Some directory → is_unfinished dirs directory ≡ true
  parent_unfinished directory e =
      let parts = parent-parts path directory e in
      let at : node_at (rows ++ (path, item) ∷ more) path ≡ Some item = found_behind rows path ((path, item) ∷ more) new ∙ found_next (path, item) more in
      let is_there : is_some (node_at (rows ++ (path, item) ∷ more) (directory ++ 47 ∷ parts.0)) ≡ true =
      ap (λ p. is_some (node_at (rows ++ (path, item) ∷ more) p)) (sym parts.1) ∙ ap is_some at in
      let passed : is_dir_at is_dir rows directory ≡ true =
      ap (is_dir_found is_dir) (sym (found_front rows (path, item) more directory s.is_tree.in_order (before_child directory path e)))
      ∙ s.is_tree.parents directory parts.0 is_there in
      s.covers directory path passed (ap is_some (found_next (path, item) more)) (within_parent directory path e)

  touched_shows : (above : Option (List ℕ)) → parent path ≡ above → (asked : List ℕ) → node_at (touched s.all above) asked ≡ shown dirs rows asked
  touched_shows None e asked = s.shows asked
  touched_shows (Some directory) e asked =
      node_at-with_node s.all directory unfinished asked ∙ step (eq_by_cmp path_cmp asked directory) refl
    where
      step : (b : Bool) → eq_by_cmp path_cmp asked directory ≡ b → cond b (Some unfinished) (node_at s.all asked) ≡ shown dirs rows asked
      step true same =
          sym (ap (shown dirs rows) (sym (same_path asked directory same))
          ∙ ap (λ b. cond b (Some unfinished) (node_at rows directory)) (parent_unfinished directory e))
      step false other = s.shows asked

  made_shows : (asked : List ℕ)
      → node_at (made s.all path item) asked ≡ cond (eq_by_cmp path_cmp asked path) (Some (begun item)) (shown dirs rows asked)
  made_shows asked =
      node_at-with_node (touched s.all (parent path)) path (begun item) asked
      ∙ ap (cond (eq_by_cmp path_cmp asked path) (Some (begun item))) (touched_shows (parent path) refl asked)

  touched_order : (above : Option (List ℕ)) → IsInOrder path_cmp (touched s.all above)
  touched_order None = s.in_order
  touched_order (Some directory) = IsInOrder-with_node s.all directory unfinished s.in_order

  made_order : IsInOrder path_cmp (made s.all path item)
  made_order = IsInOrder-with_node (touched s.all (parent path)) path (begun item) (touched_order (parent path))

  tree_again : IsTree is_dir ((rows ++ (path, item) ∷ []) ++ more)
  tree_again = subst (λ t. IsTree is_dir t) (sym (append_assoc rows ((path, item) ∷ []) more)) s.is_tree

  -- a directory among the rows is the new row or was there
  was_dir : (directory : List ℕ) → eq_by_cmp path_cmp directory path ≡ false → is_dir_at is_dir (rows ++ (path, item) ∷ []) directory ≡ true
      → is_dir_at is_dir rows directory ≡ true
  was_dir directory other at = ap (is_dir_found is_dir) (sym (found_other rows (path, item) directory other)) ∙ at

  -- a file or a link was made
  pub stands_plain : (told' : Option Tree) → told' ≡ with_made told path item → begun item ≡ item → is_dir item ≡ false
      → Stands (rows ++ (path, item) ∷ []) more told' dirs noted
  stands_plain told' is same plain = record {
    is_tree = tree_again;
    all = made s.all path item;
    told_is = is ∙ ap (λ t. with_made t path item) s.told_is;
    in_order = made_order;
    shows = λ asked. made_shows asked ∙ there asked (eq_by_cmp path_cmp asked path) refl;
    dirs_are = dirs_more rows ((path, item) ∷ []) dirs s.dirs_are;
    covers = λ directory q at later within. left directory q later within at (eq_by_cmp path_cmp directory path) refl;
    noted_are = noted_more rows ((path, item) ∷ []) noted s.noted_are;
  }
    where
      gone : is_unfinished dirs path ≡ false
      gone = not_unfinished rows dirs path None s.dirs_are new refl

      there : (asked : List ℕ) (b : Bool) → eq_by_cmp path_cmp asked path ≡ b
          → cond b (Some (begun item)) (shown dirs rows asked) ≡ shown dirs (rows ++ (path, item) ∷ []) asked
      there asked true e =
          ap Some same
          ∙ sym (ap (shown dirs (rows ++ (path, item) ∷ [])) (sym (same_path asked path e))
          ∙ ap (λ b. cond b (Some unfinished) (node_at (rows ++ (path, item) ∷ []) path)) gone ∙ here)
      there asked false e = ap (cond (is_unfinished dirs asked) (Some unfinished)) (sym (found_other rows (path, item) asked e))

      left : (directory q : List ℕ) → is_some (node_at more q) ≡ true → is_within directory q ≡ true
          → is_dir_at is_dir (rows ++ (path, item) ∷ []) directory ≡ true → (b : Bool) → eq_by_cmp path_cmp directory path ≡ b
          → is_unfinished dirs directory ≡ true
      left directory q later within at true e =
          let found : is_dir item ≡ true =
          ap (is_dir_found is_dir) (sym here) ∙ ap (is_dir_at is_dir (rows ++ (path, item) ∷ [])) (same_path directory path e) ∙ at in
          absurd (true≢false (sym found ∙ plain))
      left directory q later within at false e =
          s.covers directory q (was_dir directory e at) (next_or_later (path, item) more q later) within

  -- a directory was made, and is on the stack
  pub stands_opened : (told' : Option Tree) (dir : Dir) → told' ≡ with_made told path item → I.Dir dir ≡ item
      → Stands (rows ++ (path, item) ∷ []) more told' (dirs ++ record { path = path; dir = dir } ∷ []) noted
  stands_opened told' dir is same = record {
    is_tree = tree_again;
    all = made s.all path item;
    told_is = is ∙ ap (λ t. with_made t path item) s.told_is;
    in_order = made_order;
    shows = λ asked. made_shows asked ∙ there asked (eq_by_cmp path_cmp asked path) refl;
    dirs_are = dirs_push (rows ++ (path, item) ∷ []) dirs top (dirs_more rows ((path, item) ∷ []) dirs s.dirs_are) (here ∙ ap Some (sym same)) gone;
    covers = λ directory q at later within.
        unfinished_or dirs top directory ∙ left directory q later within at (eq_by_cmp path_cmp directory path) refl;
    noted_are = noted_more rows ((path, item) ∷ []) noted s.noted_are;
  }
    where
      top : OpenDir
      top = record { path = path; dir = dir }

      gone : is_unfinished dirs path ≡ false
      gone = not_unfinished rows dirs path None s.dirs_are new refl

      there : (asked : List ℕ) (b : Bool) → eq_by_cmp path_cmp asked path ≡ b
          → cond b (Some (begun item)) (shown dirs rows asked) ≡ shown (dirs ++ top ∷ []) (rows ++ (path, item) ∷ []) asked
      there asked true e =
          ap (λ i. Some (begun i)) (sym same)
          ∙ sym (ap (λ b. cond b (Some unfinished) (node_at (rows ++ (path, item) ∷ []) asked))
          (unfinished_or dirs top asked ∙ ap (λ b. is_unfinished dirs asked || b) (sym (tests_agree asked path) ∙ e) ∙ or_true (is_unfinished dirs asked)))
      there asked false e =
          ap (cond (is_unfinished dirs asked) (Some unfinished)) (sym (found_other rows (path, item) asked e))
          ∙ sym (ap (λ b. cond b (Some unfinished) (node_at (rows ++ (path, item) ∷ []) asked))
          (unfinished_or dirs top asked ∙ ap (λ b. is_unfinished dirs asked || b) (sym (tests_agree asked path) ∙ e) ∙ or_false (is_unfinished dirs asked)))

      left : (directory q : List ℕ) → is_some (node_at more q) ≡ true → is_within directory q ≡ true
          → is_dir_at is_dir (rows ++ (path, item) ∷ []) directory ≡ true → (b : Bool) → eq_by_cmp path_cmp directory path ≡ b
          → (is_unfinished dirs directory || bytes_eq path directory) ≡ true
      left directory q later within at true e =
          ap (λ b. is_unfinished dirs directory || b) (sym (tests_agree directory path) ∙ e) ∙ or_true (is_unfinished dirs directory)
      left directory q later within at false e =
          ap (λ b. b || bytes_eq path directory) (s.covers directory q (was_dir directory e at) (next_or_later (path, item) more q later) within)

-- ---- hard links

-- an earlier file of the group with equal attributes and bytes is the file
pub earlier_is : (rows more : Tree) (told : Option Tree) (dirs : List OpenDir) (noted : List Noted) (file : File) (index : ℕ) (one : Noted)
    (s : Stands rows more told dirs noted) → slice_get noted index ≡ Some one → IsSame s.all one file
    → node_at s.all one.path ≡ Some (I.File file)
earlier_is rows more told dirs noted file index one s at same =
    let was : IsNoted rows one = s.noted_are index one at in
    let gone : is_unfinished dirs one.path ≡ false = not_unfinished rows dirs one.path (Some (I.File was.file)) s.dirs_are was.stands refl in
    let found : node_at s.all one.path ≡ Some (I.File was.file) =
    s.shows one.path ∙ ap (λ b. cond b (Some unfinished) (node_at rows one.path)) gone ∙ was.stands in
    let attr : was.file.attr ≡ file.attr = was.attr ∙ same.attr in
    let group : was.file.group ≡ file.group = was.group ∙ same.group in
    let bytes : was.file.bytes ≡ file.bytes = sym (same.bytes was.file found) in
    found ∙ (λ i. Some (I.File (record { attr = attr i; group = group i; bytes = bytes i })))

-- a link of it is as if it were made
pub stands_linked : (rows more : Tree) (told told' : Option Tree) (dirs : List OpenDir) (noted : List Noted) (path : List ℕ) (file : File) (index : ℕ)
    (one : Noted) (s : Stands rows ((path, I.File file) ∷ more) told dirs noted) → slice_get noted index ≡ Some one → IsSame s.all one file
    → told' ≡ with_linked told path one.path → Stands (rows ++ (path, I.File file) ∷ []) more told' dirs noted
stands_linked rows more told told' dirs noted path file index one s at same is =
    let found = earlier_is rows ((path, I.File file) ∷ more) told dirs noted file index one s at same in
    let as_made : told' ≡ with_made told path (I.File file) =
    is ∙ ap (λ t. with_linked t path one.path) s.told_is ∙ ap (λ node. Some (linked s.all path node)) found
    ∙ sym (ap (λ t. with_made t path (I.File file)) s.told_is) in
    stands_plain rows more told dirs noted path (I.File file) s told' as_made refl refl

-- a file that stands there was noted
pub stands_noted : (rows more : Tree) (told : Option Tree) (dirs : List OpenDir) (noted : List Noted) (path : List ℕ) (file : File) (one : Noted)
    → node_at rows path ≡ None → one.path ≡ path → one.node.attr ≡ file.attr → one.node.group ≡ file.group
    → Stands (rows ++ (path, I.File file) ∷ []) more told dirs noted
    → Stands (rows ++ (path, I.File file) ∷ []) more told dirs (noted ++ one ∷ [])
stands_noted rows more told dirs noted path file one free at attr group s = record {
  is_tree = s.is_tree;
  all = s.all;
  told_is = s.told_is;
  in_order = s.in_order;
  shows = s.shows;
  dirs_are = s.dirs_are;
  covers = s.covers;
  noted_are = λ index other got. step index other (s.noted_are index other) (got_more noted one index other got);
}
  where
    mine : IsNoted (rows ++ (path, I.File file) ∷ []) one
    mine = record {
      file = file;
      stands = ap (node_at (rows ++ (path, I.File file) ∷ [])) at ∙ found_behind rows path ((path, I.File file) ∷ []) free ∙ found_next (path, I.File file) [];
      attr = sym attr;
      group = sym group;
    }

    step : (index : ℕ) (other : Noted) → (slice_get noted index ≡ Some other → IsNoted (rows ++ (path, I.File file) ∷ []) other)
        → ((slice_get noted index ≡ Some other) ⊎ (one ≡ other)) → IsNoted (rows ++ (path, I.File file) ∷ []) other
    step index other was (inl e) = was e
    step index other was (inr e) = subst (λ o. IsNoted (rows ++ (path, I.File file) ∷ []) o) e mine

-- ---- the beginning and the end

pub stands_first : (tree : Tree) (told : Option Tree) → IsTree is_dir tree → told ≡ Some [] → Stands [] tree told [] []
stands_first tree told is_tree is = record {
  is_tree = is_tree;
  all = [];
  told_is = is;
  in_order = tt;
  shows = λ path. refl;
  dirs_are = tt;
  covers = λ directory path at later within. absurd (true≢false (sym at));
  noted_are = λ index one at. let nothing : ⊥ = cc in absurd nothing;
}

pub stands_whole : (rows : Tree) (told : Option Tree) (noted : List Noted) → Stands rows [] told [] noted → told ≡ Some rows
stands_whole rows told noted s =
    s.told_is ∙ ap Some (same_tree s.all rows s.in_order (IsInOrder-prefix path_cmp rows [] s.is_tree.in_order) s.shows)
