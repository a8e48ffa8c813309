-- A folder's listing of a directory, by whole paths.
use Rattle.std.specs.Prelude.{◌≡◌, ℕ, ◌+◌, Bool, true, false, cond, List, [], ◌∷◌, ◌++◌, length, drop, map, reverse, Option, Some, None, bytes_eq}
use Rattle.std.specs.Option.{option_eq}
use Rattle.std.specs.List.{filter}
use Rattle.std.proofs.Common.{refl, sym, ap, ◌∙◌, subst, append_assoc}
use Rattle.std.proofs.lemmas.Bool.{true≢false}
use Rattle.std.proofs.lemmas.List.{reverse-append, map-append}
use Rattle.std.proofs.lemmas.Slice.Eq.{bytes_eq-Decides}
use Rattle.std.proofs.Math.Seq.{drop-append-add}
use Rattle.attr_records.specs.declared.nodes.Item.{Item}
use Rattle.attr_records.specs.Items.{Tree}
use Rattle.attr_records.specs.Paths.{parent}
use Rattle.attr_records.specs.PathLaws.{parent-parts}
use Rattle.folder_trait.specs.declared.found.Found.{Found}
use Rattle.folder_trait.specs.Folders.{is_child, name_in, path_in, entry_of, found_of, listed, IsListing}
use Rattle.folder_laws.specs.Walks.{children}
use Rattle.attr_records.specs.PathRules.{broken_path_rule}
use Rattle.folder_laws.specs.CompareLaws.{Stands}
use Rattle.folder_walk.specs.declared.rows.Row.{Row}
use Rattle.folder_walk.specs.declared.refusals.DumpRefusal.{DumpRefusal}
use Rattle.folder_walk.specs.declared.refusals.DumpRefusal.TheVariants as D
use Rattle.folder_walk.specs.Causes.{IsRowFault, IsRowsFault, IsListFault}
use Rattle.folder_walk.specs.Rows.{row_found, row_in, rows_found}

-- a directory and the name in it make the path again
path_back : (directory : Option (List ℕ)) (path : List ℕ) → is_child directory path ≡ true → path_in directory (name_in directory path) ≡ path
path_back None path e = refl
path_back (Some d) path e = step (parent path) refl e
  where
    step : (above : Option (List ℕ)) → parent path ≡ above → option_eq bytes_eq above (Some d) ≡ true → d ++ 47 ∷ drop (length d + 1) path ≡ path
    step None is h = absurd (true≢false (sym h))
    step (Some found) is h =
        let parts = parent-parts path d (is ∙ ap Some ((bytes_eq-Decides found d).0 h)) in
        ap (λ name. d ++ 47 ∷ name) (ap (drop (length d + 1)) parts.1 ∙ drop-append-add d (47 ∷ parts.0) 1) ∙ sym parts.1

pub rows_listed : (tree : Tree) (directory : Option (List ℕ)) → map (row_in directory) (listed tree directory) ≡ rows_found tree directory
rows_listed [] directory = refl
rows_listed (row ∷ tree) directory = step (is_child directory row.0) refl (rows_listed tree directory)
  where
    step : (b : Bool) → is_child directory row.0 ≡ b → map (row_in directory) (listed tree directory) ≡ rows_found tree directory
        → map (row_in directory) (map (entry_of directory) (cond b (row ∷ children tree directory) (children tree directory)))
        ≡ map row_found (cond b (row ∷ children tree directory) (children tree directory))
    step true lies rest =
        λ i. (record { path = path_back directory row.0 lies i; node = found_of row.1 }) ∷ rest i
    step false lies rest = rest

pub rows_told : (tree : Tree) (directory : Option (List ℕ)) (list : List Found) (rows : List Row) → rows ≡ map (row_in directory) list
    → IsListing tree directory list → rows ≡ rows_found tree directory
rows_told tree directory list rows are is = are ∙ ap (map (row_in directory)) is.all ∙ rows_listed tree directory

-- ---- a row that makes no path

stands_mapped : {X Y : Type 0} (f : X → Y) (xs : List X) (y : Y) → Stands (map f xs) y → (x : X) × Stands xs x × (y ≡ f x)
stands_mapped {X} {Y} f xs y w = step xs w.before w.is
  where
    step : (xs : List X) (before : List Y) → map f xs ≡ before ++ y ∷ w.after → (x : X) × Stands xs x × (y ≡ f x)
    step [] [] e = absurd (cc)
    step [] (z ∷ before) e = absurd (cc)
    step (x ∷ xs) [] e = let same : f x ≡ y = cc in (x, record { before = []; after = xs; is = refl }, sym same)
    step (x ∷ xs) (z ∷ before) e =
        let rest : map f xs ≡ before ++ y ∷ w.after = cc in
        let found = step xs before rest in
        (found.0, record { before = x ∷ found.1.before; after = found.1.after; is = ap (λ ys. x ∷ ys) found.1.is }, found.2)

stands_filtered : {X : Type 0} (p : X → Bool) (xs : List X) (x : X) → Stands (filter p xs) x → Stands xs x
stands_filtered {X} p xs x w = step xs w.before w.is
  where
    step : (xs before : List X) → filter p xs ≡ before ++ x ∷ w.after → Stands xs x
    step [] [] e = absurd (cc)
    step [] (z ∷ before) e = absurd (cc)
    step (y ∷ xs) before e = at (p y) before e (step xs)
      where
        later : Stands xs x → Stands (y ∷ xs) x
        later found = record { before = y ∷ found.before; after = found.after; is = ap (λ ys. y ∷ ys) found.is }

        at : (b : Bool) (before : List X) → cond b (y ∷ filter p xs) (filter p xs) ≡ before ++ x ∷ w.after
            → ((before : List X) → filter p xs ≡ before ++ x ∷ w.after → Stands xs x) → Stands (y ∷ xs) x
        at false before e found = later (found before e)
        at true [] e found = let same : y ≡ x = cc in record { before = []; after = xs; is = ap (λ z. z ∷ xs) same }
        at true (z ∷ before) e found = let rest : filter p xs ≡ before ++ x ∷ w.after = cc in later (found before rest)

-- a name that makes no path is that of a row of the tree
pub listed_cause : (told : Option Tree) (directory : Option (List ℕ)) (list : List Found) (fault : DumpRefusal)
    → ((tree : Tree) → told ≡ Some tree → IsListing tree directory list) → IsRowsFault (map (row_in directory) list) fault → IsListFault told fault
listed_cause told directory list (D.Refused refusal) is cause = absurd cause
listed_cause told directory list (D.BadPath rule) is cause = λ tree here.
    let rows : map (row_in directory) list ≡ rows_found tree directory = rows_told tree directory list _ refl (is tree here) in
    let found = stands_mapped row_found (children tree directory) cause.row (subst (λ xs. Stands xs cause.row) rows cause.stands) in
    record {
      row = found.0;
      stands = stands_filtered (λ (row : List ℕ × Item). is_child directory row.0) tree found.0 found.1;
      broken = ap (λ (r : Row). broken_path_rule r.path) (sym found.2) ∙ cause.broken;
    }
listed_cause told directory list D.BadTarget is cause = absurd cause
listed_cause told directory list D.FileTooLarge is cause = absurd cause
listed_cause told directory list D.Folder is cause = tt
listed_cause told directory list D.Memory is cause = tt

-- of one name
pub named_cause : (directory : Option (List ℕ)) (yielded rest list : List Found) (found : Found) (fault : DumpRefusal)
    → yielded ++ found ∷ rest ≡ list → IsRowFault (path_in directory found.name) fault → IsRowsFault (map (row_in directory) list) fault
named_cause directory yielded rest list found (D.Refused refusal) split cause = absurd cause
named_cause directory yielded rest list found (D.BadPath rule) split cause = record {
  row = row_in directory found;
  stands = record {
    before = map (row_in directory) yielded;
    after = map (row_in directory) rest;
    is = ap (map (row_in directory)) (sym split) ∙ map-append (row_in directory) yielded (found ∷ rest);
  };
  broken = cause;
}
named_cause directory yielded rest list found D.BadTarget split cause = absurd cause
named_cause directory yielded rest list found D.FileTooLarge split cause = absurd cause
named_cause directory yielded rest list found D.Folder split cause = absurd cause
named_cause directory yielded rest list found D.Memory split cause = tt

-- ---- a stack

-- the last of some rows goes on top of a stack
pub moved_one : (pending front : List Row) (row : Row) → pending ++ reverse (front ++ row ∷ []) ≡ (pending ++ row ∷ []) ++ reverse front
moved_one pending front row = ap (λ rows. pending ++ rows) (reverse-append front (row ∷ [])) ∙ sym (append_assoc pending (row ∷ []) (reverse front))
