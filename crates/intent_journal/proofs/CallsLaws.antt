-- Contents and stages that are written, extended or taken away between commits.
use Rattle.std.proofs.Common.{◌≡◌, ℕ, true, false, List, Option, Some, None, Result, Ok, Err, OnOk, OnErr, inl, inr, refl, sym, ap, ◌∙◌, subst}
use Rattle.std.proofs.lemmas.Bool.{false≢true}
use Rattle.fault_counts.specs.Counts.{Counted}
use Rattle.disk_trait.specs.declared.ids.FileId.{FileId}
use Rattle.disk_trait.specs.declared.ids.FileId.TheVariants.{Gate}
use Rattle.disk_trait.specs.declared.disk.Disk.{Ghosts}
use Rattle.disk_trait.specs.declared.disk.Failed.{Failed}
use Rattle.disk_trait.specs.Names.{is_same_file, is_data}
use Rattle.disk_trait.specs.NamesLaws.{same_file}
use Rattle.disk_trait.specs.Files.{Files, with_bytes, with_more, changed, appended, SameButOne}
use Rattle.disk_trait.specs.Images.{FileSet, also, IsWithin, IsImage, MayLeave, Elapses}
use Rattle.disk_trait.specs.ImagesLaws.{leaves_by, leaves_only}
use Rattle.intent_journal.specs.declared.fault.JournalFault.{JournalFault}
use Rattle.intent_journal.specs.declared.fault.JournalFault.TheVariants.{Disk, Halted, Memory}
use Rattle.intent_journal.specs.declared.journal.Journal.{Journal}
use Rattle.intent_journal.specs.Layout.{is_open}
use Rattle.intent_journal.specs.Overlay.{ComesTo, IsSettled}
use Rattle.intent_journal.specs.Calls.{Touches}
use Rattle.intent_journal.specs.ChangesLaws.{either, with_bytes_other, metadata-not-data}
use Rattle.intent_journal.specs.OverlayLaws.{also_other, closed_image, start_image, metadata-not-alone}

-- what is no content or stage is another file than one
pub other_than_data : (asked file : FileId) → is_data asked ≡ false → is_data file ≡ true → is_same_file asked file ≡ false
other_than_data asked file out is = elim (either (is_same_file asked file)) [
  | inl same ↦ absurd (false≢true (sym out ∙ ap is_data (same_file asked file same) ∙ is))
  | inr other ↦ other
]

pub changed_one : (told : Option Files) (file : FileId) (bytes : Option (List ℕ)) → SameButOne file told (changed told file bytes)
changed_one None file bytes = refl
changed_one (Some files) file bytes = (with_bytes files file bytes, refl, λ asked other. with_bytes_other files file bytes asked other)

pub appended_one : (told : Option Files) (file : FileId) (more : List ℕ) → SameButOne file told (appended told file more)
appended_one None file more = refl
appended_one (Some files) file more = (with_more files file more, refl, λ asked other. with_bytes_other files file _ asked other)

-- whatever the call answered
pub one_changed : (result : Result (Unit {0}) Failed) (told told' after : Option Files) (file : FileId) → SameButOne file told after
    → OnOk result (told' ≡ after) → OnErr result (SameButOne file told told') → SameButOne file told told'
one_changed (Ok x) told told' after file one ok err = subst (λ (t : Option Files). SameButOne file told t) (sym ok) one
one_changed (Err x) told told' after file one ok err = err

on_err : {T E : Type 0} (result : Result T E) (P : Type 0) → P → OnErr result P
on_err (Ok x) P p = tt
on_err (Err x) P p = p

pub settled_touch : (told told' : Option Files) (uncertain uncertain' : FileSet) (file : FileId) → IsSettled told uncertain
    → is_data file ≡ true → SameButOne file told told' → IsWithin uncertain' (also uncertain file) → IsSettled told' uncertain'
settled_touch None told' uncertain uncertain' file settled is one within = record {
  certain = λ asked out own. within.each asked
      (also_other uncertain file asked (other_than_data asked file out is) (settled.certain asked out own));
  closed = λ all told. let none : Some all ≡ None = sym told ∙ one in absurd (cc);
}
settled_touch (Some files) told' uncertain uncertain' file settled is one within = record {
  certain = λ asked out own. within.each asked
      (also_other uncertain file asked (other_than_data asked file out is) (settled.certain asked out own));
  closed = λ all told.
      let same : all ≡ one.0 = cc (told, one.1) in
      ap (λ (x : Files). is_open (x Gate)) same ∙ ap is_open (one.2 Gate (other_than_data Gate file refl is)) ∙ settled.closed files refl;
}

touch_image : (told told' : Option Files) (uncertain uncertain' : FileSet) (file : FileId) (all image : Files) → told ≡ Some all
    → IsSettled told uncertain → is_data file ≡ true
    → SameButOne file told told' → IsWithin uncertain' (also uncertain file) → MayLeave told' uncertain' image
    → ComesTo all (also uncertain file) image
touch_image told told' uncertain uncertain' file all image here settled is one within may =
    let there = subst (λ (t : Option Files). SameButOne file t told') here one in
    let same : may.all ≡ there.0 = cc (may.is, there.1) in
    let rest = subst (λ (t : Option Files). IsSettled t uncertain) here settled in
    let of : IsImage all (also uncertain file) image = record {
      each = λ asked out.
          let other : is_same_file asked file ≡ false = elim (either (is_same_file asked file)) [
            | inl yes_same ↦ absurd (false≢true (sym out ∙ rw yes_same refl))
            | inr not_same ↦ not_same
          ] in
          may.image_of.each asked (within.each asked out) ∙ ap (λ (x : Files). x asked) same ∙ there.2 asked other;
    } in
    closed_image all (also uncertain file) (also uncertain file) image (rest.closed all refl)
    (also_other uncertain file Gate (other_than_data Gate file refl is) (rest.certain Gate refl refl))
    (λ asked kind. also_other uncertain file asked (other_than_data asked file (metadata-not-data asked kind) is)
    (rest.certain asked (metadata-not-data asked kind) (metadata-not-alone asked kind)))
    (λ asked kind out. out)
    of

-- what is uncertain may grow
wider : (all : Files) (uncertain : FileSet) (file : FileId) (image : Files) → ComesTo all uncertain image
    → ComesTo all (also uncertain file) image
wider all uncertain file image comes = record {
  closed = comes.closed;
  opened = comes.opened;
  contents = λ asked kind out. comes.contents asked kind (elim (either (is_same_file asked file)) [
    | inl same ↦ absurd (false≢true (sym out ∙ rw same refl))
    | inr other ↦ rw other at out
  ]);
}

pub touches : {D : Type 0} {d : Ghosts D} (old new : Journal D d) (file : FileId) (after : Option Files)
    (result : Result (Unit {0}) JournalFault)
    → ((disk : D) (image : Files) → d.left_since disk (d.moment disk) image → MayLeave (d.files disk) (d.uncertain disk) image)
    → old.halted ≡ false → new.halted ≡ old.halted → is_data file ≡ true → (result ≡ Err Halted → ⊥) → (result ≡ Err Memory → ⊥)
    → OnOk result (d.files new.disk ≡ after)
    → SameButOne file (d.files old.disk) (d.files new.disk)
    → IsWithin (d.uncertain new.disk) (also (d.uncertain old.disk) file)
    → Elapses d.moment d.left_since old.disk new.disk (MayLeave (d.files new.disk) (d.uncertain new.disk))
    → Counted (d.fault_count old.disk) (d.fault_count new.disk) (result ≡ Err Disk)
    → Touches old file after result new
touches old new file after result now run stays is not has_memory told one within time counted = record {
  stays = stays;
  halted = (λ e. absurd (not e), λ h. absurd (false≢true (sym run ∙ h)));
  no_memory_asked = has_memory;
  unwritten = λ e. absurd (not e);
  told = told;
  failed = on_err result _ one;
  certain = within;
  any_moment = λ _ all here.
      let settled = old.settled run in
      leaves_only
      (leaves_by time (λ image may. touch_image _ _ _ _ file all image here settled is one within may))
      (λ image left. wider all _ file image (start_image _ _ all image here settled (now old.disk image left)));
  counted = counted;
}
