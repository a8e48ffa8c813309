-- What stands in the files after the changes of a deletion.
--     are_tables      each table is named once
--     are_written      they name metadata files, none twice
--     at_index, at_table, at_counts, at_partial      the files of the host
--     at_other      another file stays
use Rattle.std.specs.Prelude.{◌≡◌, ◌≢◌, ◌==◌, ◌<◌, ◌+◌, ℕ, Bool, true, false, List, [], ◌∷◌, ◌++◌, map, Option, Some, None, IfSome, option_map, if◌then◌else◌}
use Rattle.std.specs.Option.{option_to_list}
use Rattle.std.proofs.Common.{refl, sym, ap, ◌∙◌, subst, inl, inr, arith}
use Rattle.std.proofs.lemmas.Bool.{false≢true, eq-eqb, eqb-true}
use Rattle.std.proofs.lemmas.List.{map-append}
use Rattle.disk_trait.specs.declared.ids.FileId.{FileId}
use Rattle.disk_trait.specs.declared.ids.FileId.TheVariants as F
use Rattle.disk_trait.specs.Names.{is_metadata, is_same_file}
use Rattle.disk_trait.specs.NamesLaws.{same_file, is_same_file-itself}
use Rattle.disk_trait.specs.Files.{Files, with_bytes}
use Rattle.intent_journal.specs.declared.changes.Change.{Change}
use Rattle.intent_journal.specs.Changes.{applied, names, AreChanges}
use Rattle.intent_journal.specs.ChangesLaws.{either, with_bytes_there, with_bytes_other, applied_other, are_more}
use Rattle.attr_tables.specs.declared.layouts.TableLayout.TheVariants.{Second}
use Rattle.attr_tables.specs.Layout.{IsTable}
use Rattle.attr_tables.specs.Tables.{table_file}
use Rattle.backup_rules.specs.declared.lines.Line.{Line}
use Rattle.keep_rules.specs.Named.{RiseFrom}
use Rattle.merge_view.specs.Views.{Rows, reverse}
use Rattle.ref_counts.specs.Numbers.{Items}
use Rattle.ref_counts.specs.CountsFile.{counts_file}
use Rattle.backup_delete.specs.Trees.{tree_of, is_gone, needs_fold}
use Rattle.backup_delete.specs.Folds.{next_tree, Change as TableChange, replaced, change_of, changes, change_at}
use Rattle.office_changes.specs.ChangeLaws.{is_of_host}
use Rattle.office_deletion.specs.DeletionLaws.{IsChangedTo}
use Rattle.store_deletions.specs.Written.{table_change, table_part, counts_change, written, AreFit}

-- ---- names of files

table_number : FileId → ℕ
table_number (F.Table host number) = number
table_number F.Head = 0
table_number F.Intent = 0
table_number F.Gate = 0
table_number (F.Host host) = 0
table_number (F.Counts host) = 0
table_number F.PoolIndex = 0
table_number (F.PoolBucket byte) = 0
table_number (F.Partial host) = 0
table_number (F.Pool id) = 0
table_number (F.Stage number) = 0

other_table : (host n m : ℕ) → n ≢ m → is_same_file (F.Table host n) (F.Table host m) ≡ false
unfolding table_number
other_table host n m other = elim (either (is_same_file (F.Table host n) (F.Table host m))) [
  | inl same ↦ absurd (other (ap table_number (same_file (F.Table host n) (F.Table host m) same)))
  | inr apart ↦ apart
]

-- a file that isn't the host's isn't one that is
not_hosts : (host : ℕ) (asked file : FileId) → is_of_host host asked ≡ false → is_of_host host file ≡ true → is_same_file asked file ≡ false
not_hosts host asked file out is = elim (either (is_same_file asked file)) [
  | inl same ↦ absurd (false≢true (sym out ∙ ap (is_of_host host) (same_file asked file same) ∙ is))
  | inr apart ↦ apart
]

-- ---- lists of changes, one behind the other

applied_both : (xs ys : List Change) (files : Files) → applied (xs ++ ys) files ≡ applied ys (applied xs files)
applied_both [] ys files = refl
applied_both (x ∷ xs) ys files = applied_both xs ys (with_bytes files x.file x.bytes)

names_none : (xs ys : List Change) (file : FileId) → names xs file ≡ false → names ys file ≡ false → names (xs ++ ys) file ≡ false
names_none [] ys file none others = others
names_none (x ∷ xs) ys file none others = step (is_same_file file x.file) none (names_none xs ys file)
  where
    step : (b : Bool) → (if b then true else names xs file) ≡ false
        → (names xs file ≡ false → names ys file ≡ false → names (xs ++ ys) file ≡ false)
        → (if b then true else names (xs ++ ys) file) ≡ false
    step true none rest = none
    step false none rest = rest none others

-- ---- the tables of a deletion

module _ (host : ℕ) where
  -- the file of another number isn't named
  one_out : (gone fold : Bool) (number asked : ℕ) (new : Rows) → asked ≢ number
      → names (table_part host (option_to_list (if gone then Some (number, None) else replaced number (if fold then Some new else None))))
      (F.Table host asked) ≡ false
  one_out true fold number asked new other = rw (other_table host asked number other) refl
  one_out false true number asked new other = rw (other_table host asked number other) refl
  one_out false false number asked new other = refl

  -- of lines from a number on none below it is
  out_below : (asked low : ℕ) (numbers : List ℕ) (lines : List Line) (tables : List Rows) → asked < low → RiseFrom low lines
      → names (table_part host (changes numbers lines tables)) (F.Table host asked) ≡ false
  out_below asked low numbers [] tables below from = refl
  out_below asked low numbers (line ∷ lines) [] below from = refl
  out_below asked low numbers (line ∷ lines) (table ∷ tables) below from =
      let one = option_to_list (change_of numbers line table lines tables) in
      let rising = from.0 in
      ap (λ (cs : List Change). names cs (F.Table host asked)) (map-append (table_change host) (changes numbers lines tables) one)
      ∙ names_none (table_part host (changes numbers lines tables)) (table_part host one) (F.Table host asked)
      (out_below asked (line.number + 1) numbers lines tables (omega (arith, below, rising)) from.1)
      (one_out (is_gone numbers line.number) (needs_fold numbers line lines) line.number asked
      (reverse (tree_of (line ∷ lines) (table ∷ tables)) (next_tree numbers lines tables)) (λ same. omega (arith, below, rising, same)))

  one_more : (gone fold : Bool) (number : ℕ) (new : Rows) (xs : List Change) → AreChanges xs → names xs (F.Table host number) ≡ false
      → AreChanges (xs
      ++ table_part host (option_to_list (if gone then Some (number, None) else replaced number (if fold then Some new else None))))
  one_more true fold number new xs are out = are_more xs (table_change host (number, None)) are refl out
  one_more false true number new xs are out = are_more xs (table_change host (number, Some new)) are refl out
  one_more false false number new xs are out = subst AreChanges (sym (nothing_more xs)) are
    where
      nothing_more : (xs : List Change) → xs ++ [] ≡ xs
      nothing_more [] = refl
      nothing_more (x ∷ xs) = ap (λ l. x ∷ l) (nothing_more xs)

  -- each table is named once
  pub are_tables : (low : ℕ) (numbers : List ℕ) (lines : List Line) (tables : List Rows) → RiseFrom low lines
      → AreChanges (table_part host (changes numbers lines tables))
  are_tables low numbers [] tables from = tt
  are_tables low numbers (line ∷ lines) [] from = tt
  are_tables low numbers (line ∷ lines) (table ∷ tables) from =
      let one = option_to_list (change_of numbers line table lines tables) in
      subst AreChanges (sym (map-append (table_change host) (changes numbers lines tables) one))
      (one_more (is_gone numbers line.number) (needs_fold numbers line lines) line.number
      (reverse (tree_of (line ∷ lines) (table ∷ tables)) (next_tree numbers lines tables)) (table_part host (changes numbers lines tables))
      (are_tables (line.number + 1) numbers lines tables from.1)
      (out_below line.number (line.number + 1) numbers lines tables (omega arith) from.1))

  changed_to : (table : Option Rows) (before after : Option (List ℕ)) → IfSome table (IsTable Second)
      → after ≡ option_map (table_file Second) table → IsChangedTo (Some table) before after
  changed_to None before after fits is = is
  changed_to (Some rows) before after fits is = record { layout = Second; fits = fits; is = is }

  -- the table of a number is as its change makes it
  tables_applied : (n : ℕ) (tables : List TableChange) (files : Files) → AreChanges (table_part host tables) → AreFit tables
      → IsChangedTo (change_at tables n) (files (F.Table host n)) (applied (table_part host tables) files (F.Table host n))
  tables_applied n [] files are fit = refl
  tables_applied n (x ∷ xs) files are fit =
      step (x.0 == n) refl
      (tables_applied n xs (with_bytes files (F.Table host x.0) (option_map (table_file Second) x.1)) are.2 fit.1)
    where
      bytes : Option (List ℕ)
      bytes = option_map (table_file Second) x.1

      next : Files
      next = with_bytes files (F.Table host x.0) bytes

      step : (b : Bool) → (x.0 == n) ≡ b
          → IsChangedTo (change_at xs n) (next (F.Table host n)) (applied (table_part host xs) next (F.Table host n))
          → IsChangedTo (if b then Some x.1 else change_at xs n) (files (F.Table host n))
          (applied (table_part host xs) next (F.Table host n))
      step true e rest =
          let same : x.0 ≡ n = eqb-true x.0 n e in
          changed_to x.1 (files (F.Table host n)) (applied (table_part host xs) next (F.Table host n)) fit.0
          (ap (λ (k : ℕ). applied (table_part host xs) next (F.Table host k)) (sym same)
          ∙ applied_other (table_part host xs) next (F.Table host x.0) are.1
          ∙ with_bytes_there files (F.Table host x.0) bytes (F.Table host x.0) (is_same_file-itself (F.Table host x.0)))
      step false e rest =
          let apart : n ≢ x.0 = λ same. false≢true (sym e ∙ eq-eqb x.0 n (sym same)) in
          subst (λ (before : Option (List ℕ)). IsChangedTo (change_at xs n) before (applied (table_part host xs) next (F.Table host n)))
          (with_bytes_other files (F.Table host x.0) bytes (F.Table host n) (other_table host n x.0 apart)) rest

  index_out : (tables : List TableChange) (counts : Items) (other : ℕ)
      → names (table_part host tables ++ counts_change host counts ∷ []) (F.Host other) ≡ false
  unfolding is_same_file
  index_out [] counts other = refl
  index_out (x ∷ xs) counts other = index_out xs counts other

  counts_out : (tables : List TableChange) → names (table_part host tables) (F.Counts host) ≡ false
  unfolding is_same_file
  counts_out [] = refl
  counts_out (x ∷ xs) = counts_out xs

  partial_out : (tables : List TableChange) (counts : Items)
      → names (table_part host tables ++ counts_change host counts ∷ []) (F.Partial host) ≡ false
  unfolding is_same_file
  partial_out [] counts = refl
  partial_out (x ∷ xs) counts = partial_out xs counts

  others_out : (tables : List TableChange) (counts : Items) (asked : FileId) → is_of_host host asked ≡ false
      → names (table_part host tables ++ counts_change host counts ∷ []) asked ≡ false
  others_out [] counts asked out = rw (not_hosts host asked (F.Counts host) out (eq-eqb host host refl)) refl
  others_out (x ∷ xs) counts asked out =
      rw (not_hosts host asked (F.Table host x.0) out (eq-eqb host host refl)) (others_out xs counts asked out)

-- ---- all changes, the first of which is that of the host's index

-- one change, of this file
pub record IsOne (changes : List Change) (file : FileId) : Type 0 where
  pub change : Change
  pub is : changes ≡ change ∷ []
  pub named : change.file ≡ file

pub one_change : (changes : List Change) (file : FileId) → map (λ change. change.file) changes ≡ file ∷ [] → IsOne changes file
one_change [] file e = absurd cc
one_change (change ∷ []) file e = let same : change.file ≡ file = cc in record { change = change; is = refl; named = same }
one_change (change ∷ other ∷ more) file e = absurd cc

module _ (index : List Change) (host : ℕ) (tables : List TableChange) (counts : Items) (one : IsOne index (F.Host host))
    (are : AreChanges (table_part host tables)) where
  abbrev rest : List Change
  rest = table_part host tables ++ counts_change host counts ∷ []

  changes_are : written index host tables counts ≡ one.change ∷ rest
  changes_are = ap (λ (i : List Change). written i host tables counts) one.is

  are_rest : AreChanges rest
  are_rest = are_more (table_part host tables) (counts_change host counts) are refl (counts_out host tables)

  pub are_written : AreChanges (written index host tables counts)
  are_written = subst AreChanges (sym changes_are) (
    ap is_metadata one.named,
    ap (names rest) one.named ∙ index_out host tables counts host,
    are_rest,
  )

  module _ (all : Files) where
    abbrev first : Files
    first = with_bytes all one.change.file one.change.bytes

    image_is : (file : FileId) → applied (written index host tables counts) all file ≡ applied rest first file
    image_is file = ap (λ (cs : List Change). applied cs all file) changes_are

    -- the index's file is as its change leaves it
    pub at_index : applied (written index host tables counts) all (F.Host host) ≡ applied index all (F.Host host)
    at_index =
        image_is (F.Host host) ∙ applied_other rest first (F.Host host) (index_out host tables counts host)
        ∙ ap (λ (cs : List Change). applied cs all (F.Host host)) (sym one.is)

    pub at_counts : applied (written index host tables counts) all (F.Counts host) ≡ Some (counts_file host counts)
    at_counts =
        image_is (F.Counts host)
        ∙ (λ i. applied_both (table_part host tables) (counts_change host counts ∷ []) first i (F.Counts host))
        ∙ with_bytes_there (applied (table_part host tables) first) (F.Counts host) (Some (counts_file host counts)) (F.Counts host)
        (is_same_file-itself (F.Counts host))

    first_other : (file : FileId) → is_same_file file (F.Host host) ≡ false → first file ≡ all file
    first_other file other = with_bytes_other all one.change.file one.change.bytes file (ap (is_same_file file) one.named ∙ other)

    pub at_table : AreFit tables → (n : ℕ)
        → IsChangedTo (change_at tables n) (all (F.Table host n)) (applied (written index host tables counts) all (F.Table host n))
    unfolding is_same_file
    at_table fit n =
        subst (IsChangedTo (change_at tables n) (all (F.Table host n))) (sym (image_is (F.Table host n)
        ∙ (λ i. applied_both (table_part host tables) (counts_change host counts ∷ []) first i (F.Table host n))
        ∙ with_bytes_other (applied (table_part host tables) first) (F.Counts host) (Some (counts_file host counts)) (F.Table host n) refl))
        (subst (λ (before : Option (List ℕ)). IsChangedTo (change_at tables n) before
        (applied (table_part host tables) first (F.Table host n)))
        (first_other (F.Table host n) refl) (tables_applied host n tables first are fit))

    -- that of the partial stays
    pub at_partial : applied (written index host tables counts) all (F.Partial host) ≡ all (F.Partial host)
    unfolding is_same_file
    at_partial =
        image_is (F.Partial host) ∙ applied_other rest first (F.Partial host) (partial_out host tables counts)
        ∙ first_other (F.Partial host) refl

    pub at_other : (file : FileId) → is_of_host host file ≡ false → applied (written index host tables counts) all file ≡ all file
    at_other file out =
        image_is file ∙ applied_other rest first file (others_out host tables counts file out)
        ∙ first_other file (not_hosts host file (F.Host host) out (eq-eqb host host refl))
