-- Changes that write no table of the first layout.
--     second_of_index      those of the pool's index
use Rattle.std.specs.Prelude.{◌≡◌, ℕ, Bool, true, false, List, [], ◌∷◌, Option, if◌then◌else◌}
use Rattle.std.proofs.Common.{refl}
use Rattle.std.proofs.lemmas.Bool.{false≢true}
use Rattle.disk_trait.specs.declared.ids.FileId.{FileId}
use Rattle.disk_trait.specs.declared.ids.FileId.TheVariants as F
use Rattle.disk_trait.specs.Names.{is_same_file}
use Rattle.disk_trait.specs.NamesLaws.{is_same_file-itself}
use Rattle.intent_journal.specs.declared.changes.Change.{Change}
use Rattle.intent_journal.specs.Changes.{names}
use Rattle.office_files.specs.TableLayouts.{is_first_table, WriteNoFirst}
use Rattle.office_changes.specs.ChangeLaws.{is_of_index}

index_second : (file : FileId) (bytes : Option (List ℕ)) → is_of_index file ≡ true → is_first_table file bytes ≡ false
index_second (F.Table host number) bytes is = absurd (false≢true is)
index_second file bytes is = refl

pub second_of_index : (changes : List Change) → ((file : FileId) → names changes file ≡ true → is_of_index file ≡ true) → WriteNoFirst changes
second_of_index [] only = tt
second_of_index (change ∷ changes) only = (
  index_second change.file change.bytes (only change.file first),
  second_of_index changes (λ file e. only file (later file e)),
)
  where
    first : names (change ∷ changes) change.file ≡ true
    first = rw (is_same_file-itself change.file) refl

    later : (file : FileId) → names changes file ≡ true → names (change ∷ changes) file ≡ true
    later file e = step (is_same_file file change.file)
      where
        step : (b : Bool) → (if b then true else names changes file) ≡ true
        step true = refl
        step false = e
