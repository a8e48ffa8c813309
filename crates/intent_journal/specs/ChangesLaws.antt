-- Laws on changes, and on files with changes laid over them.
use Rattle.std.proofs.Common.{◌≡◌, Bool, true, false, List, [], ◌∷◌, ◌++◌, ◌⊎◌, inl, inr, refl, sym, ap, ◌∙◌}
use Rattle.std.proofs.lemmas.Bool.{false≢true}
use Rattle.disk_trait.specs.declared.ids.FileId.{FileId}
use Rattle.disk_trait.specs.declared.ids.FileId.TheVariants.{Intent, Gate, Pool, Stage}
use Rattle.disk_trait.specs.Names.{is_same_file, is_metadata, is_data}
use Rattle.disk_trait.specs.NamesLaws.{same_file, is_same_file-itself}
use Rattle.disk_trait.specs.Files.{Files, with_bytes}
use Rattle.intent_journal.specs.declared.changes.Change.{Change}
use Rattle.intent_journal.specs.Changes.{applied, names, AreChanges}

pub either : (b : Bool) → (b ≡ true) ⊎ (b ≡ false)
either true = inl refl
either false = inr refl

-- ---- one file

pub with_bytes_there : (files : Files) (file : FileId) (bytes : _) (asked : FileId) → is_same_file asked file ≡ true
    → with_bytes files file bytes asked ≡ bytes
with_bytes_there files file bytes asked same = rw same refl

pub with_bytes_other : (files : Files) (file : FileId) (bytes : _) (asked : FileId) → is_same_file asked file ≡ false
    → with_bytes files file bytes asked ≡ files asked
with_bytes_other files file bytes asked other = rw other refl

-- ---- kinds of file

pub metadata-not-Intent : (asked : FileId) → is_metadata asked ≡ true → is_same_file asked Intent ≡ false
unfolding is_same_file
metadata-not-Intent Intent is = absurd (false≢true is)
metadata-not-Intent file is = refl

pub metadata-not-Gate : (asked : FileId) → is_metadata asked ≡ true → is_same_file asked Gate ≡ false
unfolding is_same_file
metadata-not-Gate Gate is = absurd (false≢true is)
metadata-not-Gate file is = refl

pub data-not-Intent : (asked : FileId) → is_data asked ≡ true → is_same_file asked Intent ≡ false
unfolding is_same_file
data-not-Intent Intent is = absurd (false≢true is)
data-not-Intent file is = refl

pub data-not-Gate : (asked : FileId) → is_data asked ≡ true → is_same_file asked Gate ≡ false
unfolding is_same_file
data-not-Gate Gate is = absurd (false≢true is)
data-not-Gate file is = refl

pub metadata-not-data : (asked : FileId) → is_metadata asked ≡ true → is_data asked ≡ false
metadata-not-data (Pool id) is = absurd (false≢true is)
metadata-not-data (Stage number) is = absurd (false≢true is)
metadata-not-data file is = refl

pub data-not-metadata : (asked : FileId) → is_data asked ≡ true → is_metadata asked ≡ false
data-not-metadata (Pool id) is = refl
data-not-metadata (Stage number) is = refl
data-not-metadata file is = absurd (false≢true is)

pub Gate-not-Intent : is_same_file Gate Intent ≡ false
unfolding is_same_file
Gate-not-Intent = refl

pub Intent-not-Gate : is_same_file Intent Gate ≡ false
unfolding is_same_file
Intent-not-Gate = refl

-- two files, one of them metadata, the other not, are two
other_kind : (asked file : FileId) → is_metadata asked ≡ false → is_metadata file ≡ true → is_same_file asked file ≡ false
other_kind asked file out meta = elim (either (is_same_file asked file)) [
  | inl same ↦ absurd (false≢true (sym out ∙ ap is_metadata (same_file asked file same) ∙ meta))
  | inr other ↦ other
]

-- what isn't metadata isn't named by changes
pub not_named : (changes : List Change) → AreChanges changes → (asked : FileId) → is_metadata asked ≡ false → names changes asked ≡ false
not_named [] are asked out = refl
not_named (change ∷ changes) are asked out = rw (other_kind asked change.file out are.0) (not_named changes are.2 asked out)

-- ---- changes

-- a file that the changes don't name stays
pub applied_other : (changes : List Change) (files : Files) (asked : FileId) → names changes asked ≡ false
    → applied changes files asked ≡ files asked
applied_other [] files asked out = refl
applied_other (change ∷ changes) files asked out = elim (either (is_same_file asked change.file)) [
  | inl same ↦ absurd (false≢true (sym out ∙ rw same refl))
  | inr other ↦
      let rest : names changes asked ≡ false = rw other at out in
      applied_other changes (with_bytes files change.file change.bytes) asked rest
      ∙ with_bytes_other files change.file change.bytes asked other
]

-- laid over files that are the same but where the changes name them, they give the same
pub applied_alike : (changes : List Change) (files others : Files) (asked : FileId)
    → (names changes asked ≡ false → files asked ≡ others asked) → applied changes files asked ≡ applied changes others asked
applied_alike [] files others asked alike = alike refl
applied_alike (change ∷ changes) files others asked alike =
    applied_alike changes (with_bytes files change.file change.bytes) (with_bytes others change.file change.bytes) asked
    (λ out. elim (either (is_same_file asked change.file)) [
      | inl same ↦ with_bytes_there files change.file change.bytes asked same
          ∙ sym (with_bytes_there others change.file change.bytes asked same)
      | inr other ↦
          with_bytes_other files change.file change.bytes asked other
          ∙ alike (rw other out)
          ∙ sym (with_bytes_other others change.file change.bytes asked other)
    ])

-- contents and stages aren't changed by changes
pub applied_contents : (changes : List Change) (files : Files) (asked : FileId) → AreChanges changes → is_data asked ≡ true
    → applied changes files asked ≡ files asked
applied_contents changes files asked are kind =
    applied_other changes files asked (not_named changes are asked (data-not-metadata asked kind))

-- ---- one change more

-- neither the next change's file nor one of the others
pub out_of_next : (change : Change) (rest : List Change) (asked : FileId) → names (change ∷ rest) asked ≡ false
    → (is_same_file asked change.file ≡ false) × (names rest asked ≡ false)
out_of_next change rest asked out = elim (either (is_same_file asked change.file)) [
  | inl same ↦ absurd (false≢true (sym out ∙ rw same refl))
  | inr other ↦ (other, rw other at out)
]

-- to be another file goes both ways
pub sym_other : (a b : FileId) → is_same_file a b ≡ false → is_same_file b a ≡ false
sym_other a b other = elim (either (is_same_file b a)) [
  | inl same ↦ absurd (false≢true (sym other ∙ ap (λ (x : FileId). is_same_file x b) (sym (same_file b a same)) ∙ is_same_file-itself b))
  | inr not ↦ not
]

pub in_names : (change : Change) (rest : List Change) (asked : FileId) → is_same_file asked change.file ≡ false → names rest asked ≡ false
    → names (change ∷ rest) asked ≡ false
in_names change rest asked other out = rw other out

out_more : (xs : List Change) (change : Change) (asked : FileId) → names xs asked ≡ false → is_same_file asked change.file ≡ false
    → names (xs ++ change ∷ []) asked ≡ false
out_more [] change asked out other = in_names change [] asked other refl
out_more (x ∷ xs) change asked out other =
    let next = out_of_next x xs asked out in
    in_names x (xs ++ change ∷ []) asked next.0 (out_more xs change asked next.1 other)

-- a list of changes with one more behind, of a file that it doesn't name
pub are_more : (xs : List Change) (change : Change) → AreChanges xs → is_metadata change.file ≡ true → names xs change.file ≡ false
    → AreChanges (xs ++ change ∷ [])
are_more [] change are kind out = (kind, refl, tt)
are_more (x ∷ xs) change are kind out =
    let next = out_of_next x xs change.file out in
    (are.0, out_more xs change x.file are.1 (sym_other change.file x.file next.0), are_more xs change are.2 kind next.1)
