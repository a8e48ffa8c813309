-- Laws of stored tables.
--     tree_from-whole      the tree is that of the tables up to the nearest filled one, taken from it downwards
--     AreTables-take      the first of the tables
--     table_at      the table at an index
--     files_of_tables, files_by_index      tables are what their files tell;  so are those that are at each index
--     tables_more, files_more, AreTableFiles-all, tree_read      of tables that are read one by one
use Rattle.std.specs.Prelude.{◌≡◌, ℕ, zero, suc, ◌+◌, ◌<◌, Bool, true, false, List, [], ◌∷◌, ◌++◌, length, take, Option, Some, slice_get, get_or, if◌then◌else◌}
use Rattle.std.proofs.Common.{refl, sym, ap, ◌∙◌, subst, add-one, reverse, arith}
use Rattle.std.proofs.lemmas.List.{reverse-append}
use Rattle.std.proofs.lemmas.Option.{slice_get-get_or}
use Rattle.disk_trait.specs.Files.{Files}
use Rattle.backup_rules.specs.declared.lines.Line.{Line}
use Rattle.merge_view.specs.Views.{Rows, view}
use Rattle.merge_view.specs.Tables.{viewed, whole}
use Rattle.merge_view.specs.TableLaws.{view-nil}
use Rattle.backup_views.specs.Stored.{IsTableFile, HasTable, AreTableFiles, AreTables, tree_from, depth_of}
use Rattle.disk_trait.specs.declared.ids.FileId.TheVariants.{Table}

viewed_snoc : (tree : Rows) (tables : List Rows) (rows : Rows) → viewed tree (tables ++ rows ∷ []) ≡ view (viewed tree tables) rows
viewed_snoc tree [] rows = refl
viewed_snoc tree (table ∷ tables) rows = viewed_snoc (view tree table) tables rows

pub tree_from-whole : (all : Files) (host : ℕ) (lines : List Line) (stored : List Rows) → AreTables all host lines stored
    → tree_from lines stored ≡ whole (reverse (take (depth_of lines) stored))
tree_from-whole all host [] [] are = refl
tree_from-whole all host [] (rows ∷ stored) are = absurd are
tree_from-whole all host (line ∷ lines) [] are = absurd are
tree_from-whole all host (line ∷ lines) (rows ∷ stored) are = step line.filled refl (tree_from-whole all host lines stored are.1)
  where
    step : (b : Bool) → line.filled ≡ b → tree_from lines stored ≡ whole (reverse (take (depth_of lines) stored))
        → (if b then rows else view (tree_from lines stored) rows) ≡ whole (reverse (take (if b then 1 else depth_of lines + 1) (rows ∷ stored)))
    step true e rest = sym (view-nil rows (are.0.whole e))
    step false e rest = sym (
        ap (λ m. whole (reverse (take m (rows ∷ stored)))) (add-one (depth_of lines))
        ∙ ap whole (reverse-append (rows ∷ []) (take (depth_of lines) stored))
        ∙ viewed_snoc [] (reverse (take (depth_of lines) stored)) rows
        ∙ ap (λ tree. view tree rows) (sym rest))

pub AreTables-take : (all : Files) (host : ℕ) (n : ℕ) (lines : List Line) (stored : List Rows) → AreTables all host lines stored
    → AreTables all host (take n lines) (take n stored)
AreTables-take all host zero lines stored are = tt
AreTables-take all host (suc n) [] [] are = tt
AreTables-take all host (suc n) [] (rows ∷ stored) are = absurd are
AreTables-take all host (suc n) (line ∷ lines) [] are = absurd are
AreTables-take all host (suc n) (line ∷ lines) (rows ∷ stored) are = (are.0, AreTables-take all host n lines stored are.1)

-- the table at an index is that line's
pub table_at : (all : Files) (host : ℕ) (i : ℕ) (lines : List Line) (stored : List Rows) (line : Line) → AreTables all host lines stored
    → slice_get lines i ≡ Some line → (rows : Rows) × HasTable all host line rows × (take (suc i) stored ≡ take i stored ++ rows ∷ [])
table_at all host i [] stored line are e = absurd cc
table_at all host i (first ∷ lines) [] line are e = absurd are
table_at all host zero (first ∷ lines) (rows ∷ stored) line are e =
    let same : first ≡ line = cc in (rows, subst (λ (l : Line). HasTable all host l rows) same are.0, refl)
table_at all host (suc i) (first ∷ lines) (rows ∷ stored) line are e =
    let rest = table_at all host i lines stored line are.1 e in
    (rest.0, rest.1, ap (λ (tables : List Rows). rows ∷ tables) rest.2)

pub files_of_tables : (all : Files) (host : ℕ) (lines : List Line) (stored : List Rows) → AreTables all host lines stored
    → AreTableFiles all host lines stored
files_of_tables all host [] [] are = tt
files_of_tables all host [] (rows ∷ stored) are = absurd are
files_of_tables all host (line ∷ lines) [] are = absurd are
files_of_tables all host (line ∷ lines) (rows ∷ stored) are = (are.0.file, files_of_tables all host lines stored are.1)

-- of two lists of one length, index by index
pub files_by_index : (all : Files) (host : ℕ) (lines : List Line) (stored : List Rows) → length stored ≡ length lines
    → ((i : ℕ) (line : Line) (rows : Rows) → slice_get lines i ≡ Some line → slice_get stored i ≡ Some rows
    → IsTableFile rows (all (Table host line.number)))
    → AreTableFiles all host lines stored
files_by_index all host [] [] counted each = tt
files_by_index all host [] (rows ∷ stored) counted each = absurd (omega (arith, counted))
files_by_index all host (line ∷ lines) [] counted each = absurd (omega (arith, counted))
files_by_index all host (line ∷ lines) (rows ∷ stored) counted each = (
  each 0 line rows refl refl,
  files_by_index all host lines stored (omega (arith, counted)) (λ i l r e f. each (suc i) l r e f),
)

-- the file at an index is that line's
table_file_at : (all : Files) (host : ℕ) (i : ℕ) (lines : List Line) (stored : List Rows) (line : Line) → AreTableFiles all host lines stored
    → slice_get lines i ≡ Some line
    → (rows : Rows) × IsTableFile rows (all (Table host line.number)) × (take (suc i) stored ≡ take i stored ++ rows ∷ [])
table_file_at all host i [] stored line are e = absurd cc
table_file_at all host i (first ∷ lines) [] line are e = absurd are
table_file_at all host zero (first ∷ lines) (rows ∷ stored) line are e =
    let same : first ≡ line = cc in
    (rows, subst (λ (l : Line). IsTableFile rows (all (Table host l.number))) same are.0, refl)
table_file_at all host (suc i) (first ∷ lines) (rows ∷ stored) line are e =
    let rest = table_file_at all host i lines stored line are.1 e in
    (rest.0, rest.1, ap (λ (tables : List Rows). rows ∷ tables) rest.2)

pub AreTableFiles-all : (all : Files) (host : ℕ) (lines : List Line) (stored : List Rows) → AreTableFiles all host lines stored
    → take (length lines) stored ≡ stored
AreTableFiles-all all host [] [] are = refl
AreTableFiles-all all host [] (rows ∷ stored) are = absurd are
AreTableFiles-all all host (line ∷ lines) [] are = absurd are
AreTableFiles-all all host (line ∷ lines) (rows ∷ stored) are =
    ap (λ (tables : List Rows). rows ∷ tables) (AreTableFiles-all all host lines stored are.1)

-- one table more is read
pub tables_more : (all : Files) (host : ℕ) (i : ℕ) (lines : List Line) (stored : List Rows) (d : Line) (tables : List Rows) (table : Rows)
    → AreTableFiles all host lines stored → i < length lines
    → ((rows : Rows) → IsTableFile rows (all (Table host (get_or lines i d).number)) → rows ≡ table) → tables ≡ take i stored
    → tables ++ table ∷ [] ≡ take (i + 1) stored
tables_more all host i lines stored d tables table are inside one so_far =
    let at = table_file_at all host i lines stored (get_or lines i d) are (slice_get-get_or lines i d inside) in
    ap (λ (front : List Rows). front ++ table ∷ []) so_far
    ∙ ap (λ (rows : Rows). take i stored ++ rows ∷ []) (sym (one at.0 at.1))
    ∙ sym at.2
    ∙ ap (λ (n : ℕ). take n stored) (sym (add-one i))

-- it is the file of the next line
next_file : (all : Files) (host : ℕ) (i : ℕ) (lines : List Line) (d : Line) (tables : List Rows) (table : Rows)
    → AreTableFiles all host (take i lines) tables → i < length lines → IsTableFile table (all (Table host (get_or lines i d).number))
    → AreTableFiles all host (take (suc i) lines) (tables ++ table ∷ [])
next_file all host i [] d tables table are inside file = absurd (omega (arith, inside))
next_file all host zero (line ∷ lines) d [] table are inside file = (file, tt)
next_file all host zero (line ∷ lines) d (rows ∷ tables) table are inside file = absurd are
next_file all host (suc i) (line ∷ lines) d [] table are inside file = absurd are
next_file all host (suc i) (line ∷ lines) d (rows ∷ tables) table are inside file =
    (are.0, next_file all host i lines d tables table are.1 (omega (arith, inside)) file)

pub files_more : (all : Files) (host : ℕ) (i : ℕ) (lines : List Line) (d : Line) (tables : List Rows) (table : Rows)
    → AreTableFiles all host (take i lines) tables → i < length lines → IsTableFile table (all (Table host (get_or lines i d).number))
    → AreTableFiles all host (take (i + 1) lines) (tables ++ table ∷ [])
files_more all host i lines d tables table are inside file =
    subst (λ (n : ℕ). AreTableFiles all host (take n lines) (tables ++ table ∷ [])) (sym (add-one i))
    (next_file all host i lines d tables table are inside file)

-- the tree of the tables that were read
pub tree_read : (all : Files) (host : ℕ) (n : ℕ) (lines : List Line) (stored tables : List Rows) (tree : Rows) → n ≡ depth_of lines
    → AreTables all host lines stored → (AreTableFiles all host (take n lines) (take n stored) → tables ≡ take n stored)
    → tree ≡ whole (reverse tables) → tree ≡ tree_from lines stored
tree_read all host n lines stored tables tree count are read e =
    e ∙ ap (λ (down : List Rows). whole (reverse down)) (read (files_of_tables all host (take n lines) (take n stored) (AreTables-take all host n lines stored are)))
    ∙ ap (λ (m : ℕ). whole (reverse (take m stored))) count
    ∙ sym (tree_from-whole all host lines stored are)
