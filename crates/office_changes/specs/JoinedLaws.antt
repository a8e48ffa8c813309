-- Changes one behind the other, and the files that they name.
--     applied_both, names_both, are_both      of two lists of changes, one behind the other
--     applied_named, not_named      a file that is named, and one that stays whatever the files are
--     other_table, not_hosts      tables of two numbers, and files of a host and of none, are two
use Rattle.std.specs.Prelude.{◌≡◌, ◌≢◌, ℕ, Bool, true, false, List, [], ◌∷◌, ◌++◌, Option, Some, None, if◌then◌else◌}
use Rattle.std.proofs.Common.{refl, sym, ap, ◌∙◌, inl, inr}
use Rattle.std.proofs.lemmas.Bool.{true≢false, false≢true}
use Rattle.disk_trait.specs.declared.ids.FileId.{FileId}
use Rattle.disk_trait.specs.declared.ids.FileId.TheVariants as F
use Rattle.disk_trait.specs.Names.{is_same_file}
use Rattle.disk_trait.specs.NamesLaws.{same_file, is_same_file-itself}
use Rattle.disk_trait.specs.Files.{Files, with_bytes}
use Rattle.intent_journal.specs.declared.changes.Change.{Change}
use Rattle.intent_journal.specs.Changes.{applied, names, AreChanges}
use Rattle.intent_journal.specs.ChangesLaws.{either, with_bytes_there, applied_other}
use Rattle.office_changes.specs.ChangeLaws.{is_of_host}

-- ---- two lists

pub applied_both : (xs ys : List Change) (files : Files) → applied (xs ++ ys) files ≡ applied ys (applied xs files)
applied_both [] ys files = refl
applied_both (x ∷ xs) ys files = applied_both xs ys (with_bytes files x.file x.bytes)

-- a file that the first doesn't name
pub names_both : (xs ys : List Change) (file : FileId) → names xs file ≡ false → names (xs ++ ys) file ≡ names ys file
names_both [] ys file none = refl
names_both (x ∷ xs) ys file none = step (is_same_file file x.file) refl none (names_both xs ys file)
  where
    step : (b : Bool) → is_same_file file x.file ≡ b → (if b then true else names xs file) ≡ false
        → (names xs file ≡ false → names (xs ++ ys) file ≡ names ys file)
        → (if is_same_file file x.file then true else names (xs ++ ys) file) ≡ names ys file
    step true e f rest = absurd (true≢false f)
    step false e f rest = rw e (rest f)

-- neither names a file that the other names
pub are_both : (xs ys : List Change) → AreChanges xs → AreChanges ys → ((file : FileId) → names xs file ≡ true → names ys file ≡ false)
    → AreChanges (xs ++ ys)
are_both [] ys one two apart = two
are_both (x ∷ xs) ys one two apart = (
  one.0,
  names_both xs ys x.file one.1 ∙ apart x.file first,
  are_both xs ys one.2 two (λ file e. apart file (later file e)),
)
  where
    first : names (x ∷ xs) x.file ≡ true
    first = rw (is_same_file-itself x.file) refl

    later : (file : FileId) → names xs file ≡ true → names (x ∷ xs) file ≡ true
    later file e = step (is_same_file file x.file)
      where
        step : (b : Bool) → (if b then true else names xs file) ≡ true
        step true = refl
        step false = e

-- ---- files that are named

-- a file that is named has the same bytes afterwards, whatever was in it
pub applied_named : (changes : List Change) (file : FileId) (a b : Files) → names changes file ≡ true
    → applied changes a file ≡ applied changes b file
applied_named [] file a b named = absurd (true≢false (sym named))
applied_named (change ∷ changes) file a b named =
    step (is_same_file file change.file) refl (names changes file) refl named (applied_named changes file)
  where
    step : (here : Bool) → is_same_file file change.file ≡ here → (later : Bool) → names changes file ≡ later
        → (if here then true else later) ≡ true
        → ((a b : Files) → names changes file ≡ true → applied changes a file ≡ applied changes b file)
        → applied changes (with_bytes a change.file change.bytes) file ≡ applied changes (with_bytes b change.file change.bytes) file
    step here e true f is rest = rest (with_bytes a change.file change.bytes) (with_bytes b change.file change.bytes) f
    step true e false f is rest =
        applied_other changes (with_bytes a change.file change.bytes) file f ∙ with_bytes_there a change.file change.bytes file e
        ∙ sym (with_bytes_there b change.file change.bytes file e)
        ∙ sym (applied_other changes (with_bytes b change.file change.bytes) file f)
    step false e false f is rest = absurd (true≢false (sym is))

-- a file that stays in all files isn't named
pub not_named : (changes : List Change) (file : FileId) → ((all : Files) → applied changes all file ≡ all file) → names changes file ≡ false
not_named changes file stays = step (names changes file) refl
  where
    step : (b : Bool) → names changes file ≡ b → b ≡ false
    step false e = refl
    step true e =
        let none : ◌≡◌ {A = Option (List ℕ)} None (Some []) =
        sym (stays (λ f. None)) ∙ applied_named changes file (λ f. None) (λ f. Some []) e ∙ stays (λ f. Some []) in
        absurd cc

-- ---- files of hosts

pub other_table : (host n m : ℕ) → n ≢ m → is_same_file (F.Table host n) (F.Table host m) ≡ false
other_table host n m other = elim (either (is_same_file (F.Table host n) (F.Table host m))) [
  | inl same ↦ absurd (other (number (same_file (F.Table host n) (F.Table host m) same)))
  | inr apart ↦ apart
]
  where
    number : F.Table host n ≡ F.Table host m → n ≡ m
    number e = cc

-- a file that isn't the host's isn't one that is
pub not_hosts : (host : ℕ) (asked file : FileId) → is_of_host host asked ≡ false → is_of_host host file ≡ true → is_same_file asked file ≡ false
not_hosts host asked file out is = elim (either (is_same_file asked file)) [
  | inl same ↦ absurd (false≢true (sym out ∙ ap (is_of_host host) (same_file asked file same) ∙ is))
  | inr apart ↦ apart
]
