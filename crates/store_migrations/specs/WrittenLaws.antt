-- The files after a migration.
--     are_changes      the changes name tables, none twice
--     other_file, no_first      no other file is named, and no table of the first layout is written
--     kept_or_rewritten      a file stays, or was a table of the first layout and is one of the second
--     second_after      each of the tables is of the second layout
--     second_stays      a table of the second layout stays so
--     migrated      what has become of the files
--     none_of_first      if none of the tables is of the first layout, there are no changes
use Rattle.std.specs.Prelude.{◌≡◌, ◌≤◌, ℕ, zero, suc, ◌+◌, true, false, List, [], ◌∷◌, ◌++◌, Option, Some, slice_get, ◌⊎◌}
use Rattle.std.proofs.Common.{refl, sym, ap, ◌∙◌, subst, inl, inr, arith}
use Rattle.std.proofs.lemmas.Bool.{true≢false}
use Rattle.disk_trait.specs.declared.ids.FileId.{FileId}
use Rattle.disk_trait.specs.declared.ids.FileId.TheVariants.{Table}
use Rattle.disk_trait.specs.Names.{is_same_file}
use Rattle.disk_trait.specs.NamesLaws.{same_file, is_same_file-itself}
use Rattle.disk_trait.specs.Files.{Files, with_bytes}
use Rattle.intent_journal.specs.declared.changes.Change.{Change}
use Rattle.intent_journal.specs.Changes.{applied, names, AreChanges}
use Rattle.intent_journal.specs.ChangesLaws.{either, with_bytes_there, with_bytes_other, applied_other, in_names}
use Rattle.attr_tables.specs.declared.file.TableFile.{TableFile}
use Rattle.attr_tables.specs.declared.layouts.TableLayout.{TableLayout}
use Rattle.attr_tables.specs.declared.layouts.TableLayout.TheVariants.{First, Second}
use Rattle.attr_tables.specs.Layout.{IsTable}
use Rattle.attr_tables.specs.Tables.{table_file}
use Rattle.backup_rules.specs.declared.lines.Line.{Line}
use Rattle.backup_index.specs.Lines.{LinesFrom}
use Rattle.merge_view.specs.Views.{Rows}
use Rattle.office_files.specs.TableLayouts.{is_first_layout, is_first_table, WriteNoFirst}
use Rattle.office_files.specs.TableLayoutLaws.{second_written}
use Rattle.store_migrations.specs.Migrated.{IsTableRead, AreRead, rewritten_from, changes_of, IsMigratedTable, IsMigrated}
use Rattle.store_migrations.specs.LayoutLaws.{first_there, second_fits}

-- ---- what is named and written

-- no file but the table of one of these backups
pub other_file : (host : ℕ) (lines : List Line) (files : List TableFile) (file : FileId)
    → ((i : ℕ) (line : Line) → slice_get lines i ≡ Some line → file ≡ Table host line.number → ⊥) → names (changes_of host lines files) file ≡ false
other_file host [] files file out = refl
other_file host (line ∷ lines) [] file out = refl
other_file host (line ∷ lines) (read ∷ files) file out =
    step read.layout (other_file host lines files file (λ i l there. out (suc i) l there))
  where
    apart : is_same_file file (Table host line.number) ≡ false
    apart = elim (either (is_same_file file (Table host line.number))) [
      | inl same ↦ absurd (out zero line refl (same_file file (Table host line.number) same))
      | inr other ↦ other
    ]

    step : (layout : TableLayout) → names (changes_of host lines files) file ≡ false
        → names (rewritten_from layout host line.number read.table ++ changes_of host lines files) file ≡ false
    step First rest =
        in_names (record { file = Table host line.number; bytes = Some (table_file Second read.table) }) (changes_of host lines files) file apart rest
    step Second rest = rest

least : (low next : ℕ) (lines : List Line) → LinesFrom low next lines → (i : ℕ) (line : Line) → slice_get lines i ≡ Some line → low ≤ line.number
least low next [] sound i line e = absurd cc
least low next (l ∷ lines) sound zero line e =
    let same : l ≡ line = cc in
    let number : l.number ≡ line.number = ap (λ (x : Line). x.number) same in omega (arith, sound.0.rising, number)
least low next (l ∷ lines) sound (suc i) line e =
    omega (arith, sound.0.rising, least (l.number + 1) next lines sound.1 i line e)

-- no number stands twice
not_again : (host number next : ℕ) (lines : List Line) (files : List TableFile) → LinesFrom (number + 1) next lines
    → names (changes_of host lines files) (Table host number) ≡ false
not_again host number next lines files sound =
    other_file host lines files (Table host number) (λ i line there same.
    let is : number ≡ line.number = cc in
    absurd (omega (arith, is, least (number + 1) next lines sound i line there)))

pub are_changes : (host low next : ℕ) (lines : List Line) (files : List TableFile) → LinesFrom low next lines → AreChanges (changes_of host lines files)
are_changes host low next [] files sound = tt
are_changes host low next (line ∷ lines) [] sound = tt
are_changes host low next (line ∷ lines) (read ∷ files) sound =
    step read.layout (are_changes host (line.number + 1) next lines files sound.1)
  where
    step : (layout : TableLayout) → AreChanges (changes_of host lines files)
        → AreChanges (rewritten_from layout host line.number read.table ++ changes_of host lines files)
    step First rest = (refl, not_again host line.number next lines files sound.1, rest)
    step Second rest = rest

pub no_first : (host : ℕ) (lines : List Line) (files : List TableFile) → WriteNoFirst (changes_of host lines files)
no_first host [] files = tt
no_first host (line ∷ lines) [] = tt
no_first host (line ∷ lines) (read ∷ files) = step read.layout (no_first host lines files)
  where
    step : (layout : TableLayout) → WriteNoFirst (changes_of host lines files)
        → WriteNoFirst (rewritten_from layout host line.number read.table ++ changes_of host lines files)
    step First rest = (second_written read.table, rest)
    step Second rest = rest

-- ---- one file

-- what was found was a table of the first layout, and is one of the second
pub record IsRewritten (before after : Option (List ℕ)) : Type 0 where
  pub rows : Rows
  pub fits : IsTable First rows
  pub was : before ≡ Some (table_file First rows)
  pub is : after ≡ Some (table_file Second rows)

-- the table of the file that is written is the one that was found
rewritten_here : (found later : Option (List ℕ)) (read : TableFile) → IsTableRead read found → read.layout ≡ First
    → later ≡ Some (table_file Second read.table) → IsRewritten found later
rewritten_here found later read is first written = record {
  rows = read.table;
  fits = subst (λ (layout : TableLayout). IsTable layout read.table) first is.fits;
  was = is.is ∙ ap (λ (layout : TableLayout). Some (table_file layout read.table)) first;
  is = written;
}

-- behind one change, by what becomes of the file then
one_more : (all base later : Files) (table file : FileId) (read : TableFile) → IsTableRead read (all table) → read.layout ≡ First
    → (later file ≡ with_bytes base table (Some (table_file Second read.table)) file) ⊎ IsRewritten (all file) (later file)
    → (later file ≡ base file) ⊎ IsRewritten (all file) (later file)
one_more all base later table file read is first (inr r) = inr r
one_more all base later table file read is first (inl kept) = elim (either (is_same_file file table)) [
  | inl same ↦ inr (rewritten_here (all file) (later file) read
      (subst (λ (f : FileId). IsTableRead read (all f)) (sym (same_file file table same)) is) first
      (kept ∙ with_bytes_there base table (Some (table_file Second read.table)) file same))
  | inr other ↦ inl (kept ∙ with_bytes_other base table (Some (table_file Second read.table)) file other)
]

pub kept_or_rewritten : (all : Files) (host : ℕ) (lines : List Line) (files : List TableFile) → AreRead all host lines files
    → (base : Files) (file : FileId) → (applied (changes_of host lines files) base file ≡ base file)
    ⊎ IsRewritten (all file) (applied (changes_of host lines files) base file)
kept_or_rewritten all host [] [] read base file = inl refl
kept_or_rewritten all host [] (f ∷ files) read base file = absurd read
kept_or_rewritten all host (line ∷ lines) [] read base file = absurd read
kept_or_rewritten all host (line ∷ lines) (f ∷ files) read base file =
    step f.layout refl (kept_or_rewritten all host lines files read.1)
  where
    step : (layout : TableLayout) → f.layout ≡ layout
        → ((from : Files) (asked : FileId) → (applied (changes_of host lines files) from asked ≡ from asked)
        ⊎ IsRewritten (all asked) (applied (changes_of host lines files) from asked))
        → (applied (rewritten_from layout host line.number f.table ++ changes_of host lines files) base file ≡ base file)
        ⊎ IsRewritten (all file) (applied (rewritten_from layout host line.number f.table ++ changes_of host lines files) base file)
    step Second e rest = rest base file
    step First e rest =
        one_more all base (applied (changes_of host lines files) (with_bytes base (Table host line.number) (Some (table_file Second f.table))))
        (Table host line.number) file f read.0 e (rest (with_bytes base (Table host line.number) (Some (table_file Second f.table))) file)

-- ---- the layout of a table

second_one : (base : Files) (file : FileId) (bytes : Option (List ℕ)) → is_first_table file bytes ≡ false → (host number : ℕ)
    → is_first_layout (base (Table host number)) ≡ false → is_first_layout (with_bytes base file bytes (Table host number)) ≡ false
second_one base file bytes none host number second = elim (either (is_same_file (Table host number) file)) [
  | inl same ↦
      let is : file ≡ Table host number = sym (same_file (Table host number) file same) in
      rw same (subst (λ (f : FileId). is_first_table f bytes ≡ false) is none)
  | inr other ↦ rw other second
]

pub second_stays : (changes : List Change) → WriteNoFirst changes → (base : Files) (host number : ℕ)
    → is_first_layout (base (Table host number)) ≡ false → is_first_layout (applied changes base (Table host number)) ≡ false
second_stays [] none base host number second = second
second_stays (change ∷ changes) none base host number second =
    second_stays changes none.1 (with_bytes base change.file change.bytes) host number
    (second_one base change.file change.bytes none.0 host number second)

-- a table that is of the second layout in the files below, or is still as it was read
abbrev IsSecondOrRead : Files → Files → ℕ → ℕ → Type 0
IsSecondOrRead all base host number =
    (is_first_layout (base (Table host number)) ≡ false) ⊎ (base (Table host number) ≡ all (Table host number))

second_or_read : (all base : Files) (host number other : ℕ) (rows : Rows) → IsSecondOrRead all base host number
    → IsSecondOrRead all (with_bytes base (Table host other) (Some (table_file Second rows))) host number
second_or_read all base host number other rows (inl second) =
    inl (second_one base (Table host other) (Some (table_file Second rows)) (second_written rows) host number second)
second_or_read all base host number other rows (inr as_read) = elim (either (is_same_file (Table host number) (Table host other))) [
  | inl same ↦ inl (ap is_first_layout (with_bytes_there base (Table host other) (Some (table_file Second rows)) (Table host number) same)
      ∙ second_written rows)
  | inr apart ↦ inr (with_bytes_other base (Table host other) (Some (table_file Second rows)) (Table host number) apart ∙ as_read)
]

second_head : (all base : Files) (host number : ℕ) (read : TableFile) → IsTableRead read (all (Table host number)) → read.layout ≡ Second
    → IsSecondOrRead all base host number → is_first_layout (base (Table host number)) ≡ false
second_head all base host number read is second (inl e) = e
second_head all base host number read is second (inr e) =
    ap is_first_layout (e ∙ is.is ∙ ap (λ (layout : TableLayout). Some (table_file layout read.table)) second) ∙ second_written read.table

-- the table of the first line
second_first : (all : Files) (host : ℕ) (l line : Line) → l ≡ line → (read : TableFile) → IsTableRead read (all (Table host l.number))
    → (changes : List Change) → WriteNoFirst changes → (base : Files) → IsSecondOrRead all base host line.number
    → (layout : TableLayout) → read.layout ≡ layout
    → is_first_layout (applied (rewritten_from layout host l.number read.table ++ changes) base (Table host line.number)) ≡ false
second_first all host l line same read is changes none base before Second e =
    second_stays changes none base host line.number
    (second_head all base host line.number read (subst (λ (x : Line). IsTableRead read (all (Table host x.number))) same is) e before)
second_first all host l line same read is changes none base before First e =
    let named : is_same_file (Table host line.number) (Table host l.number) ≡ true =
    subst (λ (x : Line). is_same_file (Table host line.number) (Table host x.number) ≡ true) (sym same)
    (is_same_file-itself (Table host line.number)) in
    second_stays changes none (with_bytes base (Table host l.number) (Some (table_file Second read.table))) host line.number
    (ap is_first_layout
    (with_bytes_there base (Table host l.number) (Some (table_file Second read.table)) (Table host line.number) named)
    ∙ second_written read.table)

pub second_after : (all : Files) (host : ℕ) (lines : List Line) (files : List TableFile) → AreRead all host lines files
    → (i : ℕ) (line : Line) → slice_get lines i ≡ Some line → (base : Files) → IsSecondOrRead all base host line.number
    → is_first_layout (applied (changes_of host lines files) base (Table host line.number)) ≡ false
second_after all host [] [] read i line there base before = absurd cc
second_after all host [] (f ∷ files) read i line there base before = absurd read
second_after all host (l ∷ lines) [] read i line there base before = absurd read
second_after all host (l ∷ lines) (f ∷ files) read zero line there base before =
    let same : l ≡ line = cc in
    second_first all host l line same f read.0 (changes_of host lines files) (no_first host lines files) base before f.layout refl
second_after all host (l ∷ lines) (f ∷ files) read (suc i) line there base before =
    step f.layout (second_after all host lines files read.1 i line there)
  where
    step : (layout : TableLayout)
        → ((from : Files) → IsSecondOrRead all from host line.number
        → is_first_layout (applied (changes_of host lines files) from (Table host line.number)) ≡ false)
        → is_first_layout (applied (rewritten_from layout host l.number f.table ++ changes_of host lines files) base (Table host line.number)) ≡ false
    step Second rest = rest base before
    step First rest =
        rest (with_bytes base (Table host l.number) (Some (table_file Second f.table)))
        (second_or_read all base host line.number l.number f.table before)

-- ---- all of them

-- the file at an index was read
read_at : (all : Files) (host : ℕ) (lines : List Line) (files : List TableFile) → AreRead all host lines files → (i : ℕ) (line : Line)
    → slice_get lines i ≡ Some line → (read : TableFile) × IsTableRead read (all (Table host line.number))
read_at all host [] files read i line there = absurd cc
read_at all host (l ∷ lines) [] read i line there = absurd read
read_at all host (l ∷ lines) (f ∷ files) read zero line there =
    let same : l ≡ line = cc in (f, subst (λ (x : Line). IsTableRead f (all (Table host x.number))) same read.0)
read_at all host (l ∷ lines) (f ∷ files) read (suc i) line there = read_at all host lines files read.1 i line there

-- one that stayed was of the second layout
migrated_table : (read : TableFile) (old new : Option (List ℕ)) → IsTableRead read old → is_first_layout new ≡ false
    → (new ≡ old) ⊎ IsRewritten old new → IsMigratedTable old new
migrated_table read old new is second (inr r) = record {
  rows = r.rows;
  was = record { layout = First; fits = r.fits; is = r.was };
  fits = second_fits r.rows r.fits;
  is = r.is;
}
migrated_table read old new is second (inl kept) = step read.layout refl
  where
    found : (layout : TableLayout) → read.layout ≡ layout → old ≡ Some (table_file layout read.table)
    found layout e = is.is ∙ ap (λ (l : TableLayout). Some (table_file l read.table)) e

    step : (layout : TableLayout) → read.layout ≡ layout → IsMigratedTable old new
    step First e =
        absurd (true≢false (sym (ap is_first_layout (kept ∙ found First e) ∙ first_there read.table) ∙ second))
    step Second e = record {
      rows = read.table;
      was = record { layout = read.layout; fits = is.fits; is = is.is };
      fits = subst (λ (l : TableLayout). IsTable l read.table) e is.fits;
      is = kept ∙ found Second e;
    }

pub migrated : (all : Files) (host : ℕ) (lines : List Line) (files : List TableFile) → AreRead all host lines files
    → IsMigrated host lines all (applied (changes_of host lines files) all)
migrated all host lines files read = record {
  tables = λ i line there.
      let at = read_at all host lines files read i line there in
      migrated_table at.0 (all (Table host line.number)) (applied (changes_of host lines files) all (Table host line.number)) at.1
      (second_after all host lines files read i line there all (inr refl))
      (kept_or_rewritten all host lines files read all (Table host line.number));
  others = λ file out. applied_other (changes_of host lines files) all file (other_file host lines files file out);
}

-- ---- none of the first layout

pub none_of_first : (all : Files) (host : ℕ) (lines : List Line) (files : List TableFile) → AreRead all host lines files
    → ((number : ℕ) → is_first_layout (all (Table host number)) ≡ false) → changes_of host lines files ≡ []
none_of_first all host [] files read none = refl
none_of_first all host (line ∷ lines) [] read none = refl
none_of_first all host (line ∷ lines) (f ∷ files) read none = step f.layout refl (none_of_first all host lines files read.1 none)
  where
    step : (layout : TableLayout) → f.layout ≡ layout → changes_of host lines files ≡ []
        → rewritten_from layout host line.number f.table ++ changes_of host lines files ≡ []
    step Second e rest = rest
    step First e rest =
        let first : is_first_layout (all (Table host line.number)) ≡ true =
        ap is_first_layout (read.0.is ∙ ap (λ (l : TableLayout). Some (table_file l f.table)) e) ∙ first_there f.table in
        absurd (true≢false (sym first ∙ none line.number))
