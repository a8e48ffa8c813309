-- What the images of a journal come to between commits.
use Rattle.std.specs.Prelude.{◌≡◌, true, false, Option, Some, if◌then◌else◌}
use Rattle.std.proofs.Common.{refl, sym, ap, ◌∙◌, subst}
use Rattle.std.proofs.lemmas.Bool.{false≢true}
use Rattle.disk_trait.specs.declared.ids.FileId.{FileId}
use Rattle.disk_trait.specs.declared.ids.FileId.TheVariants.{Intent, Gate}
use Rattle.disk_trait.specs.Names.{is_same_file, is_metadata, is_data}
use Rattle.disk_trait.specs.Files.{Files}
use Rattle.disk_trait.specs.Images.{FileSet, nothing, also, IsWithin, IsImage, MayLeave}
use Rattle.intent_journal.specs.Layout.{is_open}
use Rattle.intent_journal.specs.Overlay.{ComesTo, IsSettled, intent_alone}
use Rattle.intent_journal.specs.ChangesLaws.{metadata-not-data}

-- ---- what isn't Intent

pub metadata-not-alone : (asked : FileId) → is_metadata asked ≡ true → intent_alone asked ≡ false
metadata-not-alone Intent is = absurd (false≢true is)
metadata-not-alone file is = refl

pub data-not-alone : (asked : FileId) → is_data asked ≡ true → intent_alone asked ≡ false
data-not-alone Intent is = absurd (false≢true is)
data-not-alone file is = refl

pub not_alone-not-Intent : (asked : FileId) → intent_alone asked ≡ false → is_same_file asked Intent ≡ false
unfolding is_same_file
not_alone-not-Intent Intent out = absurd (false≢true (sym out))
not_alone-not-Intent file out = refl

-- nothing is uncertain, so nothing but Intent is
pub within_alone : (uncertain : FileSet) → IsWithin uncertain nothing → IsWithin uncertain intent_alone
within_alone uncertain within = record { each = λ asked out. within.each asked refl }

-- ---- images

-- one file more is uncertain, which this isn't
pub also_other : (set : FileSet) (file asked : FileId) → is_same_file asked file ≡ false → set asked ≡ false → also set file asked ≡ false
also_other set file asked other out = rw other out

-- Gate is closed, and out metadata is uncertain, nor Gate
pub closed_image : (files : Files) (uncertain outer : FileSet) (image : Files)
    → is_open (files Gate) ≡ false → uncertain Gate ≡ false → ((asked : FileId) → is_metadata asked ≡ true → uncertain asked ≡ false)
    → ((asked : FileId) → is_data asked ≡ true → outer asked ≡ false → uncertain asked ≡ false)
    → IsImage files uncertain image → ComesTo files outer image
closed_image files uncertain outer image shut gate metadata contents is = record {
  closed = λ _ asked kind. is.each asked (metadata asked kind);
  opened = λ open_gate. absurd (false≢true (sym shut ∙ ap is_open (sym (is.each Gate gate)) ∙ open_gate));
  contents = λ asked kind out. is.each asked (contents asked kind out);
}

-- between commits each image comes to the files
pub settled_image : (all : Files) (uncertain : FileSet) (image : Files) → IsSettled (Some all) uncertain → IsImage all uncertain image
    → ComesTo all uncertain image
settled_image all uncertain image settled is =
    closed_image all uncertain uncertain image (settled.closed all refl) (settled.certain Gate refl refl)
    (λ asked kind. settled.certain asked (metadata-not-data asked kind) (metadata-not-alone asked kind)) (λ asked kind out. out) is

-- the same told files
pub settled_of : (told : Option Files) (all : Files) (uncertain : FileSet) → told ≡ Some all → IsSettled told uncertain
    → IsSettled (Some all) uncertain
settled_of told all uncertain is settled = subst (λ (t : Option Files). IsSettled t uncertain) is settled

-- between commits
pub start_image : (told : Option Files) (uncertain : FileSet) (all image : Files) → told ≡ Some all → IsSettled told uncertain
    → MayLeave told uncertain image → ComesTo all uncertain image
start_image told uncertain all image is settled may =
    let one : may.all ≡ all = cc (may.is, is) in
    settled_image all uncertain image (settled_of told all uncertain is settled)
    (record { each = λ asked out. may.image_of.each asked out ∙ ap (λ (x : Files). x asked) one })

-- files with the contents and stages of others
abbrev pub with_contents : Files → Files → Files
with_contents files image asked = if is_data asked then image asked else files asked

-- whatever contents and stages an image has, it comes to them
pub comes_whole : (files : Files) (uncertain : FileSet) (image : Files) → ComesTo files uncertain image
    → ComesTo (with_contents files image) nothing image
comes_whole files uncertain image comes = record {
  closed = λ shut asked kind. comes.closed shut asked kind ∙ sym (metadata_stays asked kind);
  opened = λ gate.
      let laid = comes.opened gate in
      record {
        changes = laid.changes;
        are = laid.are;
        intent = laid.intent;
        each = λ asked kind. laid.each asked kind ∙ sym (metadata_stays asked kind);
      };
  contents = λ asked kind _. sym (contents_come asked kind);
}
  where
    metadata_stays : (asked : FileId) → is_metadata asked ≡ true → with_contents files image asked ≡ files asked
    metadata_stays asked kind = rw (metadata-not-data asked kind) refl

    contents_come : (asked : FileId) → is_data asked ≡ true → with_contents files image asked ≡ image asked
    contents_come asked kind = rw kind refl
