-- Laws on what is seen of files, and on what an opening finds in an image.
use Rattle.std.specs.Prelude.{◌≡◌, ◌⊎◌, Bool, true, false, ◌||◌, List, Option, Some, None, option_map}
use Rattle.std.proofs.Common.{inl, inr, refl, sym, ap, ◌∙◌, subst}
use Rattle.std.proofs.lemmas.Bool.{false≢true}
use Rattle.disk_trait.specs.declared.ids.FileId.{FileId}
use Rattle.disk_trait.specs.declared.ids.FileId.TheVariants.{Gate}
use Rattle.disk_trait.specs.Names.{is_metadata, is_data}
use Rattle.disk_trait.specs.Files.{Files}
use Rattle.disk_trait.specs.Images.{FileSet, nothing, MayLeave}
use Rattle.intent_journal.specs.declared.changes.Change.{Change}
use Rattle.intent_journal.specs.Changes.{applied, names, AreChanges}
use Rattle.intent_journal.specs.Layout.{is_open}
use Rattle.intent_journal.specs.ChangesLaws.{either, applied_other, applied_alike, not_named}
use Rattle.intent_journal.specs.Overlay.{ComesTo, IsAlike, IsForeign, IsAtRest}
use Rattle.intent_journal.specs.OverlayLaws.{with_contents, comes_whole}
use Rattle.journal_view.specs.IntentLaws.{intent_once}
use Rattle.journal_view.specs.Found.{is_seen, seen, IsFoundIn, Finds, CanFind, FindsAll, IsOpenable, IsAlikeBut}

-- ---- laws: what is seen

true_first : (a b : Bool) → a ≡ true → (a || b) ≡ true
true_first true b e = refl
true_first false b e = absurd (false≢true e)

true_second : (a b : Bool) → b ≡ true → (a || b) ≡ true
true_second true b e = refl
true_second false b e = e

which : (a b : Bool) → (a || b) ≡ true → (a ≡ true) ⊎ (b ≡ true)
which true b e = inl refl
which false b e = inr e

pub seen_there : (files : Files) (asked : FileId) → is_seen asked ≡ true → seen files asked ≡ files asked
seen_there files asked kind = rw kind refl

pub seen_none : (files : Files) (asked : FileId) → is_seen asked ≡ false → seen files asked ≡ None
seen_none files asked kind = rw kind refl

pub metadata_seen : (asked : FileId) → is_metadata asked ≡ true → is_seen asked ≡ true
metadata_seen asked kind = true_first (is_metadata asked) (is_data asked) kind

pub contents_seen : (asked : FileId) → is_data asked ≡ true → is_seen asked ≡ true
contents_seen asked kind = true_second (is_metadata asked) (is_data asked) kind

pub seen_metadata : (files : Files) (asked : FileId) → is_metadata asked ≡ true → seen files asked ≡ files asked
seen_metadata files asked kind = seen_there files asked (metadata_seen asked kind)

pub seen_contents : (files : Files) (asked : FileId) → is_data asked ≡ true → seen files asked ≡ files asked
seen_contents files asked kind = seen_there files asked (contents_seen asked kind)

-- files that a store sees alike are one
pub seen_one : (files others : Files) → ((asked : FileId) → is_seen asked ≡ true → files asked ≡ others asked) → seen files ≡ seen others
seen_one files others same = λ i asked. at asked i
  where
    at : (asked : FileId) → seen files asked ≡ seen others asked
    at asked = elim (either (is_seen asked)) [
      | inl kind ↦ seen_there files asked kind ∙ same asked kind ∙ sym (seen_there others asked kind)
      | inr kind ↦ seen_none files asked kind ∙ sym (seen_none others asked kind)
    ]

pub seen_alike : (files others : Files) → IsAlike files others → seen files ≡ seen others
seen_alike files others alike =
    seen_one files others
    (λ asked kind. elim (which (is_metadata asked) (is_data asked) kind)
    [ inl m ↦ alike.metadata asked m | inr c ↦ alike.contents asked c ])

not_seen_named : (changes : List Change) → AreChanges changes → (asked : FileId) → is_seen asked ≡ false → names changes asked ≡ false
not_seen_named changes are asked kind = not_named changes are asked (first_false (is_metadata asked) (is_data asked) kind)
  where
    first_false : (a b : Bool) → (a || b) ≡ false → a ≡ false
    first_false true b e = absurd (false≢true (sym e))
    first_false false b e = refl

-- changes laid over what is seen
pub seen_applied : (changes : List Change) (files : Files) → AreChanges changes
    → seen (applied changes files) ≡ applied changes (seen files)
seen_applied changes files are = λ i asked. at asked i
  where
    at : (asked : FileId) → seen (applied changes files) asked ≡ applied changes (seen files) asked
    at asked = elim (either (is_seen asked)) [
      | inl kind ↦ seen_there (applied changes files) asked kind
          ∙ applied_alike changes files (seen files) asked (λ out. sym (seen_there files asked kind))
      | inr kind ↦ seen_none (applied changes files) asked kind
          ∙ sym (applied_other changes (seen files) asked (not_seen_named changes are asked kind) ∙ seen_none files asked kind)
    ]

-- files of which this is seen
pub told_raw : (told : Option Files) (all : Files) → option_map seen told ≡ Some all
    → (files : Files) × (told ≡ Some files) × (seen files ≡ all)
told_raw None all e = absurd cc
told_raw (Some files) all e = (files, refl, cc)

-- ---- laws: what is found

-- an image comes to one metadata
pub one_metadata : (files others : Files) (u v : FileSet) (image : Files) → ComesTo files u image → ComesTo others v image
    → (asked : FileId) → is_metadata asked ≡ true → others asked ≡ files asked
one_metadata files others u v image comes goes asked kind = elim (either (is_open (image Gate))) [
  | inl gate ↦
      let a = comes.opened gate in
      let b = goes.opened gate in
      let one = intent_once a.changes b.changes a.are b.are (some_is (sym a.intent ∙ b.intent)) in
      sym (b.each asked kind) ∙ ap (λ cs. applied cs image asked) (sym one) ∙ a.each asked kind
  | inr shut ↦ sym (goes.closed shut asked kind) ∙ comes.closed shut asked kind
]
  where
    some_is : {A : Type 0} {x y : A} → Some x ≡ Some y → x ≡ y
    some_is e = cc

-- an opening finds one thing in an image
pub found_once : (image found other : Files) → IsFoundIn image found → IsFoundIn image other → found ≡ other
found_once image found other a b = a.is ∙ seen_alike a.files b.files (record {
  metadata = λ asked kind. sym (one_metadata a.files b.files nothing nothing image a.comes b.comes asked kind);
  contents = λ asked kind. sym (a.comes.contents asked kind refl) ∙ b.comes.contents asked kind refl;
}) ∙ sym b.is

-- so where something that is found has P, whatever is found has it
pub finds_each : (P : Files → Type 0) (image found : Files) → Finds P image → IsFoundIn image found → P found
finds_each P image found finds in_image = subst P (found_once image finds.found found finds.in_image in_image) finds.has

-- what an image comes to is found in it, with the contents that it has
pub finds_as : (files : Files) (u : FileSet) (image : Files) → ComesTo files u image → Finds (IsAlikeBut files u) image
finds_as files u image comes =
    let whole = comes_whole files u image comes in
    let all = with_contents files image in
    record {
      found = seen all;
      in_image = record { files = all; comes = whole; is = refl };
      has = record {
        metadata = λ asked kind. seen_metadata all asked kind ∙ one_metadata files all u nothing image comes whole asked kind;
        contents = λ asked kind out. seen_contents all asked kind ∙ sym (whole.contents asked kind refl) ∙ comes.contents asked kind out;
      };
    }

-- all of what an image comes to
pub finds_whole : (P : Files → Type 0) (files image : Files) → ComesTo files nothing image → P (seen files) → Finds P image
finds_whole P files image comes has =
    record { found = seen files; in_image = record { files = files; comes = comes; is = refl }; has = has }

pub finds_wider : (P Q : Files → Type 0) (image : Files) → ((found : Files) → P found → Q found) → Finds P image → Finds Q image
finds_wider P Q image wider finds = record { found = finds.found; in_image = finds.in_image; has = wider finds.found finds.has }

-- the same where files are seen
pub but_seen : (files : Files) (u : FileSet) (found : Files) → IsAlikeBut files u found → IsAlikeBut (seen files) u found
but_seen files u found is = record {
  metadata = λ asked kind. is.metadata asked kind ∙ sym (seen_metadata files asked kind);
  contents = λ asked kind out. is.contents asked kind out ∙ sym (seen_contents files asked kind);
}

-- an image that an opening finds anything in isn't refused
pub never_foreign : (P : Files → Type 0) (told : Option Files) (all : Files) (found : _) → told ≡ Some all → Finds P all
    → IsForeign told found → ⊥
never_foreign P told all found is finds foreign =
    let there = foreign.is all is in
    let laid = finds.in_image.comes.opened there.1 in
    foreign.none laid.changes laid.are (there.0 ∙ laid.intent)

-- where a crash now can be opened, what is found is what can be found
pub openable : (told : Option Files) (uncertain : FileSet) → IsOpenable told uncertain → FindsAll told uncertain (CanFind told uncertain)
openable told uncertain opens = λ image left.
    let finds = opens image left in
    record { found = finds.found; in_image = finds.in_image; has = record { image = image; left = left; in_image = finds.in_image } }

-- the files of a disk are one of its images
pub itself : (told : Option Files) (uncertain : FileSet) (all : Files) → told ≡ Some all → MayLeave told uncertain all
itself told uncertain all is = record { all = all; is = is; image_of = record { each = λ asked out. refl } }

-- what is at rest is told
pub rest_told : (told : Option Files) (uncertain : FileSet) (files : Files) → IsAtRest told uncertain files
    → option_map seen told ≡ Some (seen files)
rest_told told uncertain files rest = ap (option_map seen) rest.is ∙ ap (λ (f : Files). Some f) (seen_alike rest.now files rest.alike)

-- where files stand for one office at most, an image does
pub one_office : {Office : Type 0} (StandsFor : Files → Office → Type 0) (a b : Office) (image : Files)
    → ((found : Files) → StandsFor found a → StandsFor found b → a ≡ b)
    → Finds (λ found. StandsFor found a) image → Finds (λ found. StandsFor found b) image → a ≡ b
one_office StandsFor a b image one of_a of_b =
    one of_b.found (finds_each (λ found. StandsFor found a) image of_b.found of_a of_b.in_image) of_b.has
