-- The files of a host after a deletion of backups.
--     left_backups numbers backups      the backups of other numbers, the last of them filled
--     IsTableOf table found      the file of a table, or none
--     IsChangedTo change before after      a file that a change leaves, removes or writes
--     IsDeletion      the host's index, its tables by the changes of a deletion, and its counts
--     lines_left      the lines of the backups that are left
--     as_backups, are_whole, left_shown      what backups show, and what those show that are left
--     deleted_left      what the model leaves of backups, one of which is deleted
--     host_shortened, beyond_deletion      the host after it, and no other table
use Rattle.std.specs.Prelude.{◌≡◌, ℕ, zero, suc, ◌+◌, ◌-◌, ◌<◌, ◌≢◌, ◌==◌, ◌&&◌, ◌||◌, Bool, true, false, List, [], ◌∷◌, length, map, Option, Some, None, is_some, slice_get, slice_set, if◌then◌else◌}
use Rattle.std.specs.List.{position_from, remove}
use Rattle.std.specs.Option.{option_map_or}
use Rattle.std.proofs.Common.{refl, sym, ap, ◌∙◌, subst, arith}
use Rattle.std.proofs.lemmas.Bool.{true≢false, false≢true, eq-eqb, eqb-true, ne_eqb}
use Rattle.disk_trait.specs.declared.ids.PoolId.{PoolId}
use Rattle.disk_trait.specs.declared.ids.FileId.TheVariants as F
use Rattle.disk_trait.specs.Files.{Files}
use Rattle.backup_rules.specs.declared.lines.Line.{Line}
use Rattle.merge_view.specs.Views.{Rows}
use Rattle.ref_counts.specs.Numbers.{total}
use Rattle.ref_counts.specs.Stored.{Backup as StoredBackup, StoredHost, stored, counted, AreWhole}
use Rattle.backup_delete.specs.Trees.{backups, is_gone, are_gone}
use Rattle.backup_delete.specs.Folds.{filled as filled_line, left_lines, left_trees, folded_tables, changes, change_at, changed, table_at}
use Rattle.backup_delete.specs.FoldLaws.{folded-stored}
use Rattle.backup_delete.specs.TableLaws.{changed-left}
use Rattle.office_model.specs.Office.{Host, Backup, Partial, AreNumbered, backup_index}
use Rattle.office_model.specs.Parts.{lines_of, with_last, filled_as}
use Rattle.office_model.specs.Pairs.{AtEachPair}
use Rattle.office_model.specs.PairsLaws.{no_pairs}
use Rattle.office_files.specs.Layouts.{IsHostFile, IsTableFile, IsCountsFile}
use Rattle.office_files.specs.Hosts.{index_of_host, IsShown, StandsPartial, StandsHost}
use Rattle.office_files.specs.KeptLaws.{IsTableFile-same, partial_given}
use Rattle.office_changes.specs.ChangeLaws.{shown_given}

-- the backups of other numbers, the last of them filled
abbrev pub left_backups : List ℕ → List Backup → List Backup
left_backups numbers [] = []
left_backups numbers (backup ∷ newer) =
    if is_gone numbers backup.line.number then left_backups numbers newer
    else (if are_gone numbers (lines_of newer) then filled_as true backup else backup) ∷ left_backups numbers newer

abbrev pub rows_of : List StoredBackup → List Rows
rows_of shown = map (λ backup. backup.rows) shown

-- the file of a table, or none
abbrev pub IsTableOf : Option Rows → Option (List ℕ) → Type 0
IsTableOf None found = found ≡ None
IsTableOf (Some rows) found = IsTableFile rows found

-- a file that a change leaves, removes or writes
abbrev pub IsChangedTo : Option (Option Rows) → Option (List ℕ) → Option (List ℕ) → Type 0
IsChangedTo None before after = after ≡ before
IsChangedTo (Some None) before after = after ≡ None
IsChangedTo (Some (Some rows)) before after = IsTableFile rows after

-- ---- lists

module _ {A B : Type 0} (R : A → B → Type 0) where
  pairs_cons : (x : A) (xs : List A) (y : B) (ys : List B) → R x y → AtEachPair (λ i. R) xs ys → AtEachPair (λ i. R) (x ∷ xs) (y ∷ ys)
  pairs_cons x xs y ys r pairs = record { counted = ap suc pairs.counted; each = each }
    where
      each : (i : ℕ) (a : A) (b : B) → slice_get (x ∷ xs) i ≡ Some a → slice_get (y ∷ ys) i ≡ Some b → R a b
      each zero a b e f = let s : x ≡ a = cc in let t : y ≡ b = cc in subst (λ (a : A). R a b) s (subst (R x) t r)
      each (suc i) a b e f = pairs.each i a b e f

  first_of : (x : A) (xs : List A) (y : B) (ys : List B) → AtEachPair (λ i. R) (x ∷ xs) (y ∷ ys) → R x y
  first_of x xs y ys pairs = pairs.each zero x y refl refl

  rest_of : (x : A) (xs : List A) (y : B) (ys : List B) → AtEachPair (λ i. R) (x ∷ xs) (y ∷ ys) → AtEachPair (λ i. R) xs ys
  rest_of x xs y ys pairs = record { counted = let same = pairs.counted in omega arith; each = λ i a b e f. pairs.each (suc i) a b e f }

pub length_lines : (all : List Backup) → length (lines_of all) ≡ length all
length_lines [] = refl
length_lines (b ∷ all) = ap suc (length_lines all)

pub length_rows : (shown : List StoredBackup) → length (rows_of shown) ≡ length shown
length_rows [] = refl
length_rows (s ∷ shown) = ap suc (length_rows shown)

-- ---- what backups show

module _ (given : PoolId → Type 0) (contents : PoolId → List ℕ) where
  abbrev Shown : Backup → StoredBackup → Type 0
  Shown = IsShown given contents

  -- shown backups are told by the lines and the rows
  pub as_backups : (all : List Backup) (shown : List StoredBackup) → AtEachPair (λ i. Shown) all shown
      → shown ≡ backups (lines_of all) (rows_of shown)
  as_backups [] [] pairs = refl
  as_backups [] (s ∷ shown) pairs = absurd (let same = pairs.counted in omega arith)
  as_backups (b ∷ all) [] pairs = absurd (let same = pairs.counted in omega arith)
  as_backups (b ∷ all) (s ∷ shown) pairs =
      let here = (first_of Shown b all s shown pairs).filled in
      let rest = as_backups all shown (rest_of Shown b all s shown pairs) in
      λ i. (record { filled = here i; rows = s.rows }) ∷ rest i

  pub are_whole : (all : List Backup) (shown : List StoredBackup) → AtEachPair (λ i. Shown) all shown → AreWhole shown
  are_whole all [] pairs = tt
  are_whole [] (s ∷ shown) pairs = absurd (let same = pairs.counted in omega arith)
  are_whole (b ∷ all) (s ∷ shown) pairs = ((first_of Shown b all s shown pairs).whole, are_whole all shown (rest_of Shown b all s shown pairs))

  pub left_shown : (numbers : List ℕ) (all : List Backup) (shown : List StoredBackup) → AtEachPair (λ i. Shown) all shown
      → AtEachPair (λ i. Shown) (left_backups numbers all) (backups (left_lines numbers (lines_of all)) (left_trees numbers (lines_of all) (rows_of shown)))
  left_shown numbers [] [] pairs = no_pairs (λ i. Shown)
  left_shown numbers [] (s ∷ shown) pairs = absurd (let same = pairs.counted in omega arith)
  left_shown numbers (b ∷ all) [] pairs = absurd (let same = pairs.counted in omega arith)
  left_shown numbers (b ∷ all) (s ∷ shown) pairs =
      step (is_gone numbers b.line.number) (are_gone numbers (lines_of all)) (first_of Shown b all s shown pairs)
      (left_shown numbers all shown (rest_of Shown b all s shown pairs))
    where
      step : (gone last : Bool) → Shown b s
          → AtEachPair (λ i. Shown) (left_backups numbers all) (backups (left_lines numbers (lines_of all)) (left_trees numbers (lines_of all) (rows_of shown)))
          → AtEachPair (λ i. Shown) (if gone then left_backups numbers all else (if last then filled_as true b else b) ∷ left_backups numbers all)
          (backups (if gone then left_lines numbers (lines_of all) else (if last then filled_line b.line else b.line) ∷ left_lines numbers (lines_of all))
          (if gone then left_trees numbers (lines_of all) (rows_of shown) else s.rows ∷ left_trees numbers (lines_of all) (rows_of shown)))
      step true last is rest = rest
      step false true is rest =
          pairs_cons Shown (filled_as true b) (left_backups numbers all) (record { filled = true; rows = s.rows })
          (backups (left_lines numbers (lines_of all)) (left_trees numbers (lines_of all) (rows_of shown)))
          (record { filled = refl; tree = is.tree; whole = is.whole; told = is.told }) rest
      step false false is rest =
          pairs_cons Shown b (left_backups numbers all) (record { filled = b.line.filled; rows = s.rows })
          (backups (left_lines numbers (lines_of all)) (left_trees numbers (lines_of all) (rows_of shown)))
          (record { filled = refl; tree = is.tree; whole = is.whole; told = is.told }) rest

pub lines_left : (numbers : List ℕ) (all : List Backup) → lines_of (left_backups numbers all) ≡ left_lines numbers (lines_of all)
lines_left numbers [] = refl
lines_left numbers (b ∷ all) = step (is_gone numbers b.line.number) (are_gone numbers (lines_of all)) (lines_left numbers all)
  where
    step : (gone last : Bool) → lines_of (left_backups numbers all) ≡ left_lines numbers (lines_of all)
        → lines_of (if gone then left_backups numbers all else (if last then filled_as true b else b) ∷ left_backups numbers all)
        ≡ (if gone then left_lines numbers (lines_of all) else (if last then filled_line b.line else b.line) ∷ left_lines numbers (lines_of all))
    step true last rest = rest
    step false true rest = ap (λ ls. filled_line b.line ∷ ls) rest
    step false false rest = ap (λ ls. b.line ∷ ls) rest

-- ---- tables by numbers

-- where no backup has the number no table does
no_table : (from number : ℕ) (all : List Backup) (tables : List Rows)
    → is_some (position_from (λ (b : Backup). b.line.number == number) from all) ≡ false
    → table_at (lines_of all) tables number ≡ None
no_table from number [] tables e = refl
no_table from number (b ∷ all) [] e = refl
no_table from number (b ∷ all) (table ∷ tables) e = step (b.line.number == number) e (no_table (from + 1) number all tables)
  where
    step : (t : Bool) → is_some (if t then Some from else position_from (λ (b : Backup). b.line.number == number) (from + 1) all) ≡ false
        → (is_some (position_from (λ (b : Backup). b.line.number == number) (from + 1) all) ≡ false
        → table_at (lines_of all) tables number ≡ None)
        → (if t then Some table else table_at (lines_of all) tables number) ≡ None
    step true e rest = absurd (true≢false e)
    step false e rest = rest e

-- the files of tables, told by numbers
by_number : (all : List Backup) (tables : List Rows) (file : ℕ → Option (List ℕ)) (from : ℕ)
    → AtEachPair (λ i b rows. IsTableFile rows (file b.line.number)) all tables → (number : ℕ)
    → (is_some (position_from (λ (b : Backup). b.line.number == number) from all) ≡ false → file number ≡ None)
    → IsTableOf (table_at (lines_of all) tables number) (file number)
by_number [] [] file from pairs number none = none refl
by_number [] (table ∷ tables) file from pairs number none = absurd (let same = pairs.counted in omega arith)
by_number (b ∷ all) [] file from pairs number none = absurd (let same = pairs.counted in omega arith)
by_number (b ∷ all) (table ∷ tables) file from pairs number none =
    step (b.line.number == number) refl none (by_number all tables file (from + 1) (rest_of (λ b rows. IsTableFile rows (file b.line.number)) b all table tables pairs) number)
  where
    step : (t : Bool) → (b.line.number == number) ≡ t
        → (is_some (if t then Some from else position_from (λ (b : Backup). b.line.number == number) (from + 1) all) ≡ false
        → file number ≡ None)
        → ((is_some (position_from (λ (b : Backup). b.line.number == number) (from + 1) all) ≡ false → file number ≡ None)
        → IsTableOf (table_at (lines_of all) tables number) (file number))
        → IsTableOf (if t then Some table else table_at (lines_of all) tables number) (file number)
    step true e none rest =
        subst (λ (n : ℕ). IsTableFile table (file n)) (eqb-true b.line.number number e)
        (first_of (λ b rows. IsTableFile rows (file b.line.number)) b all table tables pairs)
    step false e none rest = rest none

-- a later backup has another number than the first
abbrev IsRising : List Backup → Type 0
IsRising all = (i j : ℕ) (a b : Backup) → i < j → slice_get all i ≡ Some a → slice_get all j ≡ Some b → a.line.number < b.line.number

-- of backups whose numbers rise each has its table by its number
at_number : (all : List Backup) (tables : List Rows) → IsRising all → (i : ℕ) (b : Backup) (rows : Rows)
    → slice_get all i ≡ Some b → slice_get tables i ≡ Some rows → table_at (lines_of all) tables b.line.number ≡ Some rows
at_number [] tables rise i b rows e f = absurd cc
at_number (a ∷ all) [] rise i b rows e f = absurd cc
at_number (a ∷ all) (table ∷ tables) rise zero b rows e f =
    let same : a ≡ b = cc in
    let here = eq-eqb a.line.number b.line.number (ap (λ (x : Backup). x.line.number) same) in
    ap (λ (t : Bool). if t then Some table else table_at (lines_of all) tables b.line.number) here ∙ f
at_number (a ∷ all) (table ∷ tables) rise (suc i) b rows e f =
    let less = rise zero (suc i) a b (omega arith) refl e in
    let other = ne_eqb a.line.number b.line.number (λ same. omega (arith, same, less)) in
    ap (λ (t : Bool). if t then Some table else table_at (lines_of all) tables b.line.number) other
    ∙ at_number all tables (λ m n x y l g h. rise (suc m) (suc n) x y (omega arith) g h) i b rows e f

after_change : (change : Option (Option Rows)) (table : Option Rows) (before after : Option (List ℕ)) → IsTableOf table before
    → IsChangedTo change before after → IsTableOf (changed change table) after
after_change None None before after is same = same ∙ is
after_change None (Some rows) before after is same = IsTableFile-same rows before after same is
after_change (Some None) table before after is gone = gone
after_change (Some (Some rows)) table before after is file = file

-- ---- the model's deletion

-- the backups of other numbers
abbrev kept : List ℕ → List Backup → List Backup
kept numbers [] = []
kept numbers (backup ∷ newer) = if is_gone numbers backup.line.number then kept numbers newer else backup ∷ kept numbers newer

none_kept : (numbers : List ℕ) (all : List Backup) → are_gone numbers (lines_of all) ≡ true → kept numbers all ≡ []
none_kept numbers [] e = refl
none_kept numbers (b ∷ all) e = step (is_gone numbers b.line.number) e (none_kept numbers all)
  where
    step : (gone : Bool) → (gone && are_gone numbers (lines_of all)) ≡ true
        → (are_gone numbers (lines_of all) ≡ true → kept numbers all ≡ [])
        → (if gone then kept numbers all else b ∷ kept numbers all) ≡ []
    step true e rest = rest e
    step false e rest = absurd (false≢true e)

some_kept : (numbers : List ℕ) (all : List Backup) → are_gone numbers (lines_of all) ≡ false
    → (first : Backup) × (rest : List Backup) × (kept numbers all ≡ first ∷ rest)
some_kept numbers [] e = absurd (true≢false e)
some_kept numbers (b ∷ all) e = step (is_gone numbers b.line.number) e (some_kept numbers all)
  where
    step : (gone : Bool) → (gone && are_gone numbers (lines_of all)) ≡ false
        → (are_gone numbers (lines_of all) ≡ false → (first : Backup) × (rest : List Backup) × (kept numbers all ≡ first ∷ rest))
        → (first : Backup) × (rest : List Backup) × ((if gone then kept numbers all else b ∷ kept numbers all) ≡ first ∷ rest)
    step true e rest = rest e
    step false e rest = (b, kept numbers all, refl)

with_last-cons : {A : Type 0} (f : A → A) (x y : A) (xs : List A) → with_last f (x ∷ y ∷ xs) ≡ x ∷ with_last f (y ∷ xs)
with_last-cons {A} f x y xs =
    let n : length (x ∷ y ∷ xs) - 1 ≡ suc (length (y ∷ xs) - 1) = omega arith in
    ap (λ (n : ℕ). option_map_or (λ z. slice_set (x ∷ y ∷ xs) n (f z)) (slice_get (x ∷ y ∷ xs) n) (x ∷ y ∷ xs)) n
    ∙ step (slice_get (y ∷ xs) (length (y ∷ xs) - 1))
  where
    step : (o : Option A) → option_map_or (λ z. x ∷ slice_set (y ∷ xs) (length (y ∷ xs) - 1) (f z)) o (x ∷ y ∷ xs)
        ≡ x ∷ option_map_or (λ z. slice_set (y ∷ xs) (length (y ∷ xs) - 1) (f z)) o (y ∷ xs)
    step None = refl
    step (Some z) = refl

left_kept : (numbers : List ℕ) (all : List Backup) → left_backups numbers all ≡ with_last (filled_as true) (kept numbers all)
left_kept numbers [] = refl
left_kept numbers (b ∷ all) = step (is_gone numbers b.line.number) (are_gone numbers (lines_of all)) refl (left_kept numbers all)
  where
    step : (gone last : Bool) → are_gone numbers (lines_of all) ≡ last
        → left_backups numbers all ≡ with_last (filled_as true) (kept numbers all)
        → (if gone then left_backups numbers all else (if last then filled_as true b else b) ∷ left_backups numbers all)
        ≡ with_last (filled_as true) (if gone then kept numbers all else b ∷ kept numbers all)
    step true last e rest = rest
    step false true e rest =
        let none = none_kept numbers all e in
        ap (λ l. filled_as true b ∷ l) (rest ∙ ap (with_last (filled_as true)) none)
        ∙ sym (ap (λ l. with_last (filled_as true) (b ∷ l)) none)
    step false false e rest =
        let w = some_kept numbers all e in
        ap (λ l. b ∷ l) (rest ∙ ap (with_last (filled_as true)) w.2) ∙ sym (with_last-cons (filled_as true) b w.0 w.1)
        ∙ sym (ap (λ l. with_last (filled_as true) (b ∷ l)) w.2)

gone_one : (n number : ℕ) → is_gone (n ∷ []) number ≡ (n == number)
gone_one n number = step (n == number)
  where
    step : (b : Bool) → (b || false) ≡ b
    step true = refl
    step false = refl

all_kept : (n : ℕ) (all : List Backup) → ((i : ℕ) (b : Backup) → slice_get all i ≡ Some b → n ≢ b.line.number) → kept (n ∷ []) all ≡ all
all_kept n [] other = refl
all_kept n (b ∷ all) other =
    ap (λ (t : Bool). if t then kept (n ∷ []) all else b ∷ kept (n ∷ []) all) (gone_one n b.line.number
    ∙ ne_eqb n b.line.number (other zero b refl))
    ∙ ap (λ l. b ∷ l) (all_kept n all (λ i x e. other (suc i) x e))

kept_removed : (n : ℕ) (all : List Backup) (i : ℕ) (b : Backup) → IsRising all → slice_get all i ≡ Some b → b.line.number ≡ n
    → kept (n ∷ []) all ≡ remove all i
kept_removed n [] i b rise e is = absurd cc
kept_removed n (a ∷ all) zero b rise e is =
    let same : a ≡ b = cc in
    let number : a.line.number ≡ n = ap (λ (x : Backup). x.line.number) same ∙ is in
    ap (λ (t : Bool). if t then kept (n ∷ []) all else a ∷ kept (n ∷ []) all) (gone_one n a.line.number
    ∙ eq-eqb n a.line.number (sym number))
    ∙ all_kept n all (λ j x f later. omega (arith, number, later, rise zero (suc j) a x (omega arith) refl f))
kept_removed n (a ∷ all) (suc i) b rise e is =
    let less = rise zero (suc i) a b (omega arith) refl e in
    ap (λ (t : Bool). if t then kept (n ∷ []) all else a ∷ kept (n ∷ []) all)
    (gone_one n a.line.number ∙ ne_eqb n a.line.number (λ same. omega (arith, same, is, less)))
    ∙ ap (λ l. a ∷ l) (kept_removed n all i b (λ j k x y l g h. rise (suc j) (suc k) x y (omega arith) g h) e is)

-- the model's deletion of one backup leaves these
pub deleted_left : (all : List Backup) (i : ℕ) (b : Backup) → IsRising all → slice_get all i ≡ Some b
    → with_last (filled_as true) (remove all i) ≡ left_backups (b.line.number ∷ []) all
deleted_left all i b rise e =
    ap (with_last (filled_as true)) (sym (kept_removed b.line.number all i b rise e refl)) ∙ sym (left_kept (b.line.number ∷ []) all)

-- ---- a host

-- what is stored of a host without the backups of these numbers
abbrev pub shortened : List ℕ → List Line → StoredHost → StoredHost
shortened numbers lines of = record of { backups = backups (left_lines numbers lines) (left_trees numbers lines (rows_of of.backups)) }

-- The backups of these numbers are deleted from a host: its index, its tables as the changes of the deletion make them, and
-- its counts. Its partial stays.
pub record IsDeletion (numbers : List ℕ) (files image : Files) (number : ℕ) (host new : Host) (of : StoredHost) : Type 0 where
  pub backups_are : new.backups ≡ left_backups numbers host.backups
  pub numbered : AreNumbered new.next new.backups
  pub index : IsHostFile (index_of_host number new) (image (F.Host number))
  pub tables : (n : ℕ) → IsChangedTo (change_at (changes numbers (lines_of host.backups) (stored of.backups)) n) (files (F.Table number n)) (image (F.Table number n))
  pub counts : IsCountsFile number
      (λ id. total id (counted (shortened numbers (lines_of host.backups) of))) (image (F.Counts number))
  pub parked : new.partial ≡ host.partial
  pub partial : image (F.Partial number) ≡ files (F.Partial number)

module _ (given given' : PoolId → Type 0) (contents contents' : PoolId → List ℕ)
    (same : (id : PoolId) → given id → given' id × (contents id ≡ contents' id)) (numbers : List ℕ) (files image : Files) (number : ℕ)
    (host new : Host) (of : StoredHost) (stands : StandsHost given contents files number host of)
    (none : (n : ℕ) → is_some (backup_index host.backups n) ≡ false → files (F.Table number n) ≡ None)
    (deletion : IsDeletion numbers files image number host new of) where
  abbrev shown : List StoredBackup
  shown = of.backups

  abbrev lines : List Line
  lines = lines_of host.backups

  abbrev left : List StoredBackup
  left = backups (left_lines numbers lines) (left_trees numbers lines (rows_of shown))

  abbrev folded : List Rows
  folded = folded_tables numbers lines (stored shown)

  -- the tables after the deletion are those of the backups that are left
  left_stored : folded ≡ stored left
  left_stored =
      let is = as_backups given contents host.backups shown stands.shown in
      let counted : length (rows_of shown) ≡ length lines = length_rows shown ∙ stands.shown.counted ∙ sym (length_lines host.backups) in
      ap (λ (s : List StoredBackup). folded_tables numbers lines (stored s)) is
      ∙ folded-stored numbers lines (rows_of shown) counted (subst AreWhole is (are_whole given contents host.backups shown stands.shown))

  table_of : (n : ℕ) → IsTableOf (table_at (lines_of new.backups) (stored left) n) (image (F.Table number n))
  table_of n =
      let was = by_number host.backups (stored shown) (λ n. files (F.Table number n)) 0 stands.tables n (none n) in
      let now = after_change (change_at (changes numbers lines (stored shown)) n) (table_at lines (stored shown) n) (files (F.Table number n))
      (image (F.Table number n)) was (deletion.tables n) in
      let left_is : lines_of new.backups ≡ left_lines numbers lines = ap lines_of deletion.backups_are ∙ lines_left numbers host.backups in
      subst (λ (ls : List Line). IsTableOf (table_at ls (stored left) n) (image (F.Table number n))) (sym left_is)
      (subst (λ (ts : List Rows). IsTableOf (table_at (left_lines numbers lines) ts n) (image (F.Table number n))) left_stored
      (subst (λ (t : Option Rows). IsTableOf t (image (F.Table number n)))
      (changed-left numbers n host.next lines (stored shown) stands.index.fits.index.sound) now))

  shown_left : AtEachPair (λ i. IsShown given' contents') new.backups left
  shown_left =
      let was = left_shown given contents numbers host.backups shown stands.shown in
      subst (λ (l : List Backup). AtEachPair (λ i. IsShown given' contents') l left) (sym deletion.backups_are)
      (record { counted = was.counted; each = λ i x y e f. shown_given given given' contents contents' same x y (was.each i x y e f) })

  stored_length : (all : List StoredBackup) → length (stored all) ≡ length all
  stored_length [] = refl
  stored_length (s ∷ []) = refl
  stored_length (s ∷ t ∷ all) = ap suc (stored_length (t ∷ all))

  pub host_shortened : StandsHost given' contents' image number new (shortened numbers lines of)
  host_shortened = record {
    index = deletion.index;
    shown = shown_left;
    tables = record {
      counted = stored_length left ∙ shown_left.counted;
      each = λ i b rows e f.
          subst (λ (t : Option Rows). IsTableOf t (image (F.Table number b.line.number)))
          (at_number new.backups (stored left) deletion.numbered.rise i b rows e f) (table_of b.line.number);
    };
    partial = subst (λ (p : Option Partial). StandsPartial given' contents' number p of.partial (image (F.Partial number))) (sym deletion.parked)
        (partial_given given given' contents contents' same number host.partial of.partial (files (F.Partial number)) (image (F.Partial number))
        deletion.partial stands.partial);
    counts = deletion.counts;
  }

  -- the tables of numbers that the host hasn't
  pub beyond_deletion : (n : ℕ) → is_some (backup_index new.backups n) ≡ false → image (F.Table number n) ≡ None
  beyond_deletion n e = subst (λ (t : Option Rows). IsTableOf t (image (F.Table number n))) (no_table 0 n new.backups (stored left) e) (table_of n)
