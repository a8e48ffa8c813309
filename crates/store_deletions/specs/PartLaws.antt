-- The part of a host's lines and tables that a deletion reads.
--     slice_get-part      an item of the part is one of the whole
--     part_tables      the tables of the part are part of the tables
--     backup_there, tables_of_host      the tables of a host that files stand for
--     rise_sound, rise_part      the numbers of the part's lines rise
use Rattle.std.specs.Prelude.{◌≡◌, ℕ, zero, suc, ◌+◌, ◌-◌, ◌≤◌, List, [], ◌∷◌, take, drop, Some, slice_get}
use Rattle.std.proofs.Common.{refl, sym, ap, ◌∙◌, subst, arith}
use Rattle.disk_trait.specs.declared.ids.PoolId.{PoolId}
use Rattle.disk_trait.specs.declared.ids.FileId.TheVariants.{Table}
use Rattle.disk_trait.specs.Files.{Files}
use Rattle.backup_rules.specs.declared.lines.Line.{Line}
use Rattle.backup_index.specs.Lines.{LinesFrom, IsSound}
use Rattle.keep_rules.specs.Named.{Rise, RiseFrom}
use Rattle.merge_view.specs.Views.{Rows}
use Rattle.backup_delete.specs.Windows.{part}
use Rattle.backup_views.specs.Stored.{IsTableFile, AreTableFiles}
use Rattle.backup_views.specs.StoredLaws.{files_by_index}
use Rattle.ref_counts.specs.Stored.{StoredHost, stored}
use Rattle.office_model.specs.Office.{Host, Backup}
use Rattle.office_model.specs.Parts.{lines_of}
use Rattle.office_files.specs.Hosts.{StandsHost}
use Rattle.office_deletion.specs.DeletionLaws.{length_lines}

slice_get-take : {A : Type 0} (n : ℕ) (xs : List A) (i : ℕ) (x : A) → slice_get (take n xs) i ≡ Some x → slice_get xs i ≡ Some x
slice_get-take zero xs i x e = absurd cc
slice_get-take (suc n) [] i x e = absurd cc
slice_get-take (suc n) (y ∷ xs) zero x e = e
slice_get-take (suc n) (y ∷ xs) (suc i) x e = slice_get-take n xs i x e

slice_get-drop : {A : Type 0} (n : ℕ) (xs : List A) (i at : ℕ) (x : A) → at ≡ n + i → slice_get (drop n xs) i ≡ Some x
    → slice_get xs at ≡ Some x
slice_get-drop zero xs i at x is e = let same : at ≡ i = omega (arith, is) in ap (slice_get xs) same ∙ e
slice_get-drop (suc n) [] i at x is e = absurd cc
slice_get-drop (suc n) (y ∷ xs) i zero x is e = absurd (omega (arith, is))
slice_get-drop (suc n) (y ∷ xs) i (suc at) x is e = slice_get-drop n xs i at x (omega (arith, is)) e

pub slice_get-part : {A : Type 0} (first end : ℕ) (xs : List A) (i : ℕ) (x : A) → slice_get (part first end xs) i ≡ Some x
    → slice_get xs (first + i) ≡ Some x
slice_get-part first end xs i x e =
    slice_get-drop first xs i (first + i) x refl (slice_get-take (end - first) (drop first xs) i x e)

module _ (all : Files) (host : ℕ) where
  files_drop : (n : ℕ) (lines : List Line) (tables : List Rows) → AreTableFiles all host lines tables
      → AreTableFiles all host (drop n lines) (drop n tables)
  files_drop zero lines tables are = are
  files_drop (suc n) [] [] are = tt
  files_drop (suc n) [] (rows ∷ tables) are = absurd are
  files_drop (suc n) (line ∷ lines) [] are = absurd are
  files_drop (suc n) (line ∷ lines) (rows ∷ tables) are = files_drop n lines tables are.1

  files_take : (n : ℕ) (lines : List Line) (tables : List Rows) → AreTableFiles all host lines tables
      → AreTableFiles all host (take n lines) (take n tables)
  files_take zero lines tables are = tt
  files_take (suc n) [] [] are = tt
  files_take (suc n) [] (rows ∷ tables) are = absurd are
  files_take (suc n) (line ∷ lines) [] are = absurd are
  files_take (suc n) (line ∷ lines) (rows ∷ tables) are = (are.0, files_take n lines tables are.1)

  pub part_tables : (first end : ℕ) (lines : List Line) (tables : List Rows) → AreTableFiles all host lines tables
      → AreTableFiles all host (part first end lines) (part first end tables)
  part_tables first end lines tables are =
      files_take (end - first) (drop first lines) (drop first tables) (files_drop first lines tables are)

-- ---- of a host

-- the backup of a line that is there
pub backup_there : (backups : List Backup) (i : ℕ) (line : Line) → slice_get (lines_of backups) i ≡ Some line
    → (backup : Backup) × (slice_get backups i ≡ Some backup) × (backup.line ≡ line)
backup_there [] i line e = absurd cc
backup_there (b ∷ backups) zero line e = (b, refl, cc)
backup_there (b ∷ backups) (suc i) line e = backup_there backups i line e

-- files that stand for a host tell what is stored of its backups
pub tables_of_host : (given : PoolId → Type 0) (contents : PoolId → List ℕ) (all : Files) (number : ℕ) (host : Host)
    (of : StoredHost) → StandsHost given contents all number host of
    → AreTableFiles all number (lines_of host.backups) (stored of.backups)
tables_of_host given contents all number host of stands =
    files_by_index all number (lines_of host.backups) (stored of.backups)
    (stands.tables.counted ∙ sym (length_lines host.backups))
    (λ i line rows e f.
    let w = backup_there host.backups i line e in
    let file = stands.tables.each i w.0 rows w.1 f in
    subst (λ (l : Line). IsTableFile rows (all (Table number l.number))) w.2
    (record { layout = file.layout; fits = file.fits; is = file.is }))

-- ---- numbers that rise

rise_from_sound : (low next : ℕ) (lines : List Line) → LinesFrom low next lines → RiseFrom low lines
rise_from_sound low next [] sound = tt
rise_from_sound low next (line ∷ lines) sound = (sound.0.rising, rise_from_sound (line.number + 1) next lines sound.1)

pub rise_sound : (next : ℕ) (lines : List Line) → IsSound next lines → Rise lines
rise_sound next lines sound = rise_from_sound 0 next lines sound.in_turn

rise_lower : (low more : ℕ) (lines : List Line) → low ≤ more → RiseFrom more lines → RiseFrom low lines
rise_lower low more [] less rise = tt
rise_lower low more (line ∷ lines) less rise = (omega (arith, less, rise.0), rise.1)

rise_drop : (n low : ℕ) (lines : List Line) → RiseFrom low lines → RiseFrom low (drop n lines)
rise_drop zero low lines rise = rise
rise_drop (suc n) low [] rise = tt
rise_drop (suc n) low (line ∷ lines) rise =
    let above = rise.0 in
    rise_lower low (line.number + 1) (drop n lines) (omega (arith, above)) (rise_drop n (line.number + 1) lines rise.1)

rise_take : (n low : ℕ) (lines : List Line) → RiseFrom low lines → RiseFrom low (take n lines)
rise_take zero low lines rise = tt
rise_take (suc n) low [] rise = tt
rise_take (suc n) low (line ∷ lines) rise = (rise.0, rise_take n (line.number + 1) lines rise.1)

pub rise_part : (first end : ℕ) (lines : List Line) → Rise lines → Rise (part first end lines)
rise_part first end lines rise = rise_take (end - first) 0 (drop first lines) (rise_drop first 0 lines rise)
