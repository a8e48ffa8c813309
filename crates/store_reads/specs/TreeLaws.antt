-- The tables of a host's backups show their trees.
--     tables_from      from a backup on, its files are those of what is stored
--     tree_from_at      and the tree that they tell is the backup's own rows
use Rattle.std.specs.Prelude.{◌≡◌, ℕ, zero, suc, Bool, true, false, List, [], ◌∷◌, drop, Some, slice_get, if◌then◌else◌}
use Rattle.std.proofs.Common.{refl, sym, ap, ◌∙◌, subst, arith}
use Rattle.disk_trait.specs.declared.ids.PoolId.{PoolId}
use Rattle.disk_trait.specs.declared.ids.FileId.TheVariants.{Table as TableOf}
use Rattle.disk_trait.specs.Files.{Files}
use Rattle.backup_rules.specs.declared.lines.Line.{Line}
use Rattle.merge_view.specs.Views.{Rows, IsWhole, view, reverse}
use Rattle.merge_view.specs.ViewLaws.{view-reverse}
use Rattle.merge_view.specs.TableLaws.{view-nil}
use Rattle.backup_views.specs.Stored.{AreTables, HasTable, tree_from}
use Rattle.ref_counts.specs.Stored.{Backup as StoredBackup, StoredHost, stored, stored_before}
use Rattle.office_model.specs.Office.{Host, Backup}
use Rattle.office_model.specs.Parts.{lines_of}
use Rattle.office_model.specs.Pairs.{AtEachPair}
use Rattle.office_files.specs.Layouts.{IsTableFile}
use Rattle.office_files.specs.Hosts.{IsShown, StandsHost}

-- ---- from a place on

module _ {A B : Type 0} (R : A → B → Type 0) where
  pairs_tail : (x : A) (xs : List A) (y : B) (ys : List B) → AtEachPair (λ i. R) (x ∷ xs) (y ∷ ys) → AtEachPair (λ i. R) xs ys
  pairs_tail x xs y ys pairs = record { counted = omega (arith, pairs.counted); each = λ i a b e f. pairs.each (suc i) a b e f }

  pairs_drop : (k : ℕ) (xs : List A) (ys : List B) → AtEachPair (λ i. R) xs ys → AtEachPair (λ i. R) (drop k xs) (drop k ys)
  pairs_drop zero xs ys pairs = pairs
  pairs_drop (suc k) [] [] pairs = pairs
  pairs_drop (suc k) [] (y ∷ ys) pairs = absurd (omega (arith, pairs.counted))
  pairs_drop (suc k) (x ∷ xs) [] pairs = absurd (omega (arith, pairs.counted))
  pairs_drop (suc k) (x ∷ xs) (y ∷ ys) pairs = pairs_drop k xs ys (pairs_tail x xs y ys pairs)

drop_lines : (k : ℕ) (backups : List Backup) → drop k (lines_of backups) ≡ lines_of (drop k backups)
drop_lines zero backups = refl
drop_lines (suc k) [] = refl
drop_lines (suc k) (backup ∷ backups) = drop_lines k backups

drop_nothing : {A : Type 0} (k : ℕ) → drop {A = A} k [] ≡ []
drop_nothing zero = refl
drop_nothing (suc k) = refl

drop_stored : (k : ℕ) (shown : List StoredBackup) → drop k (stored shown) ≡ stored (drop k shown)
drop_stored zero shown = refl
drop_stored (suc k) [] = refl
drop_stored (suc k) (backup ∷ []) = drop_nothing k ∙ sym (ap stored (drop_nothing k))
drop_stored (suc k) (backup ∷ next ∷ more) = drop_stored k (next ∷ more)

pub first_dropped : {A : Type 0} (k : ℕ) (xs : List A) → slice_get (drop k xs) 0 ≡ slice_get xs k
first_dropped zero xs = refl
first_dropped (suc k) [] = refl
first_dropped (suc k) (x ∷ xs) = first_dropped k xs

-- the rows of the first
abbrev first_rows : List StoredBackup → Rows
first_rows [] = []
first_rows (backup ∷ backups) = backup.rows

rows_dropped : (k : ℕ) (shown : List StoredBackup) (backup : StoredBackup) → slice_get shown k ≡ Some backup
    → first_rows (drop k shown) ≡ backup.rows
rows_dropped k [] backup e = absurd cc
rows_dropped zero (first ∷ shown) backup e = let same : first ≡ backup = cc in ap (λ (b : StoredBackup). b.rows) same
rows_dropped (suc k) (first ∷ shown) backup e = rows_dropped k shown backup e

-- ---- the first of backups

viewed : (f g : Bool) (tree rows newer : Rows) → g ≡ f → tree ≡ newer → IsWhole rows → IsWhole newer
    → (if f then (if g then rows else reverse rows newer) else view tree (if g then rows else reverse rows newer)) ≡ rows
viewed true true tree rows newer same is whole whole_newer = refl
viewed false false tree rows newer same is whole whole_newer =
    ap (λ (t : Rows). view t (reverse rows newer)) is ∙ view-reverse rows newer whole whole_newer.in_order
viewed true false tree rows newer same is whole whole_newer = cc
viewed false true tree rows newer same is whole whole_newer = cc

viewed_last : (f : Bool) (rows : Rows) → IsWhole rows → (if f then rows else view [] rows) ≡ rows
viewed_last true rows whole = refl
viewed_last false rows whole = view-nil rows whole

module _ (given : PoolId → Type 0) (contents : PoolId → List ℕ) (files : Files) (number : ℕ) where
  tree_first : (backups : List Backup) (shown : List StoredBackup) → AtEachPair (λ i. IsShown given contents) backups shown
      → tree_from (lines_of backups) (stored shown) ≡ first_rows shown
  tree_first [] [] pairs = refl
  tree_first [] (s ∷ shown) pairs = absurd (omega (arith, pairs.counted))
  tree_first (b ∷ backups) [] pairs = absurd (omega (arith, pairs.counted))
  tree_first (b ∷ []) (s ∷ []) pairs = viewed_last b.line.filled s.rows (pairs.each 0 b s refl refl).whole
  tree_first (b ∷ b' ∷ backups) (s ∷ []) pairs = absurd (omega (arith, pairs.counted))
  tree_first (b ∷ []) (s ∷ s' ∷ shown) pairs = absurd (omega (arith, pairs.counted))
  tree_first (b ∷ b' ∷ backups) (s ∷ s' ∷ shown) pairs =
      let here = pairs.each 0 b s refl refl in
      let next = pairs.each 1 b' s' refl refl in
      viewed b.line.filled s.filled (tree_from (lines_of (b' ∷ backups)) (stored (s' ∷ shown))) s.rows s'.rows here.filled
      (tree_first (b' ∷ backups) (s' ∷ shown)
      (pairs_tail (IsShown given contents) b (b' ∷ backups) s (s' ∷ shown) pairs)) here.whole next.whole

  abbrev HasFile : Backup → Rows → Type 0
  HasFile backup rows = IsTableFile rows (files (TableOf number backup.line.number))

  has_table : (backup : Backup) (rows : Rows) → HasFile backup rows → (backup.line.filled ≡ true → IsWhole rows)
      → HasTable files number backup.line rows
  has_table backup rows file whole = record { file = record { layout = file.layout; fits = file.fits; is = file.is }; whole = whole }

  tables_first : (backups : List Backup) (shown : List StoredBackup) → AtEachPair (λ i. IsShown given contents) backups shown
      → AtEachPair (λ i. HasFile) backups (stored shown) → AreTables files number (lines_of backups) (stored shown)
  tables_first [] [] pairs tables = tt
  tables_first [] (s ∷ shown) pairs tables = absurd (omega (arith, pairs.counted))
  tables_first (b ∷ backups) [] pairs tables = absurd (omega (arith, pairs.counted))
  tables_first (b ∷ []) (s ∷ []) pairs tables =
      (has_table b s.rows (tables.each 0 b s.rows refl refl) (λ e. (pairs.each 0 b s refl refl).whole), tt)
  tables_first (b ∷ b' ∷ backups) (s ∷ []) pairs tables = absurd (omega (arith, pairs.counted))
  tables_first (b ∷ []) (s ∷ s' ∷ shown) pairs tables = absurd (omega (arith, pairs.counted))
  tables_first (b ∷ b' ∷ backups) (s ∷ s' ∷ shown) pairs tables =
      let here = pairs.each 0 b s refl refl in (
        has_table b (stored_before s s'.rows) (tables.each 0 b (stored_before s s'.rows) refl refl)
            (λ e. subst (λ (f : Bool). IsWhole (if f then s.rows else reverse s.rows s'.rows)) (sym (here.filled ∙ e)) here.whole),
        tables_first (b' ∷ backups) (s' ∷ shown) (pairs_tail (IsShown given contents) b (b' ∷ backups) s (s' ∷ shown) pairs)
            (pairs_tail HasFile b (b' ∷ backups) (stored_before s s'.rows) (stored (s' ∷ shown)) tables),
      )

  module _ (host : Host) (of : StoredHost) (stands : StandsHost given contents files number host of) (k : ℕ) where
    pub tables_from : AreTables files number (drop k (lines_of host.backups)) (drop k (stored of.backups))
    tables_from =
        let lines = drop_lines k host.backups in
        let tables = drop_stored k of.backups in
        subst (λ (ls : List Line). AreTables files number ls (drop k (stored of.backups))) (sym lines)
        (subst (λ (ts : List Rows). AreTables files number (lines_of (drop k host.backups)) ts) (sym tables)
        (tables_first (drop k host.backups) (drop k of.backups) (pairs_drop (IsShown given contents) k host.backups of.backups stands.shown)
        (subst (λ (ts : List Rows). AtEachPair (λ i. HasFile) (drop k host.backups) ts) tables
        (pairs_drop HasFile k host.backups (stored of.backups) stands.tables))))

    pub tree_from_at : (backup : StoredBackup) → slice_get of.backups k ≡ Some backup
        → tree_from (drop k (lines_of host.backups)) (drop k (stored of.backups)) ≡ backup.rows
    tree_from_at backup e =
        (λ i. tree_from (drop_lines k host.backups i) (drop_stored k of.backups i))
        ∙ tree_first (drop k host.backups) (drop k of.backups) (pairs_drop (IsShown given contents) k host.backups of.backups stands.shown)
        ∙ rows_dropped k of.backups backup e
