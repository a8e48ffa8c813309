-- Tables of the first layout come from nowhere.
--     second_alike      files whose tables are the same
--     second_applied      files after changes that write none of the first layout
--     none_in_both      two lists of changes that write none
--     second_written      what is written is of the second
--     none_in_files      changes of files that aren't tables write none
--     second_fewer      of fewer hosts
use Rattle.std.specs.Prelude.{◌≡◌, ◌⊎◌, ℕ, false, List, [], ◌∷◌, ◌++◌, map, Option, Some}
use Rattle.std.proofs.Common.{refl, sym, ap, ◌∙◌, subst, inl, inr, ⊎_elim}
use Rattle.std.proofs.lemmas.Bool.{false≢true}
use Rattle.disk_trait.specs.declared.ids.FileId.{FileId}
use Rattle.disk_trait.specs.declared.ids.FileId.TheVariants.{Table}
use Rattle.disk_trait.specs.Names.{is_same_file}
use Rattle.disk_trait.specs.NamesLaws.{same_file}
use Rattle.disk_trait.specs.Files.{Files, with_bytes}
use Rattle.intent_journal.specs.declared.changes.Change.{Change}
use Rattle.intent_journal.specs.Changes.{applied}
use Rattle.intent_journal.specs.ChangesLaws.{either}
use Rattle.wire_bytes.specs.Seal.{sealed}
use Rattle.wire_bytes.specs.Grammar.{seen_as, followed_by, field}
use Rattle.attr_tables.specs.declared.layouts.TableLayout.TheVariants.{Second}
use Rattle.attr_tables.specs.Layout.{Rows}
use Rattle.attr_tables.specs.Tables.{table_file}
use Rattle.office_files.specs.TableLayouts.{is_first_layout, is_among, AreSecondBut, is_table, AreNoTables, is_first_table, WriteNoFirst}

pub second_alike : (hosts : List ℕ) (files others : Files) → ((host number : ℕ) → others (Table host number) ≡ files (Table host number))
    → AreSecondBut hosts files → AreSecondBut hosts others
second_alike hosts files others same second host number out = ap is_first_layout (same host number) ∙ second host number out

second_with : (hosts : List ℕ) (files : Files) (file : FileId) (bytes : Option (List ℕ)) → is_first_table file bytes ≡ false
    → AreSecondBut hosts files → AreSecondBut hosts (with_bytes files file bytes)
second_with hosts files file bytes none second host number out = elim (either (is_same_file (Table host number) file)) [
  | inl same ↦
      let is : file ≡ Table host number = sym (same_file (Table host number) file same) in
      rw same (subst (λ (f : FileId). is_first_table f bytes ≡ false) is none)
  | inr other ↦ rw other (second host number out)
]

pub second_applied : (hosts : List ℕ) (files : Files) (changes : List Change) → WriteNoFirst changes → AreSecondBut hosts files
    → AreSecondBut hosts (applied changes files)
second_applied hosts files [] none second = second
second_applied hosts files (change ∷ changes) none second =
    second_applied hosts (with_bytes files change.file change.bytes) changes none.1 (second_with hosts files change.file change.bytes none.0 second)

pub none_in_both : (xs ys : List Change) → WriteNoFirst xs → WriteNoFirst ys → WriteNoFirst (xs ++ ys)
none_in_both [] ys left right = right
none_in_both (x ∷ xs) ys left right = (left.0, none_in_both xs ys left.1 right)

pub second_written : (rows : Rows) → is_first_layout (Some (table_file Second rows)) ≡ false
unfolding sealed seen_as followed_by field
second_written rows = refl

-- a file that isn't a table is none of the first layout
no_table : (file : FileId) (found : Option (List ℕ)) → is_table file ≡ false → is_first_table file found ≡ false
no_table (Table host number) found e = absurd (false≢true (sym e))
no_table file found e = refl

none_named : (changes : List Change) → AreNoTables (map (λ change. change.file) changes) → WriteNoFirst changes
none_named [] none = tt
none_named (change ∷ changes) none = (no_table change.file change.bytes none.0, none_named changes none.1)

pub none_in_files : (changes : List Change) (files : List FileId) → map (λ change. change.file) changes ≡ files → AreNoTables files
    → WriteNoFirst changes
none_in_files changes files are none = none_named changes (subst AreNoTables (sym are) none)

-- of fewer hosts
pub second_fewer : (hosts fewer : List ℕ) (files : Files)
    → ((host : ℕ) → is_among fewer host ≡ false → (is_among hosts host ≡ false) ⊎ ((number : ℕ) → is_first_layout (files (Table host number)) ≡ false))
    → AreSecondBut hosts files → AreSecondBut fewer files
second_fewer hosts fewer files left second host number out = ⊎_elim
    (λ before. second host number before)
    (λ none. none number)
    (left host out)
