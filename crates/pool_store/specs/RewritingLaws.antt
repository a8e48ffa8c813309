-- Laws of specs/Rewriting.
use Rattle.std.specs.Prelude.{◌≡◌, true, false, Option, Some, None, Result, Ok, Err}
use Rattle.std.proofs.Common.{refl, sym, ap, ◌∙◌, inl, inr}
use Rattle.std.proofs.lemmas.Bool.{false≢true}
use Rattle.disk_trait.specs.declared.ids.FileId.{FileId}
use Rattle.disk_trait.specs.declared.disk.Disk.{Ghosts}
use Rattle.disk_trait.specs.Names.{is_same_file, is_data, is_metadata}
use Rattle.disk_trait.specs.NamesLaws.{same_file}
use Rattle.disk_trait.specs.Files.{Files, SameButOne, changed, appended, with_bytes, with_more}
use Rattle.disk_trait.specs.Images.{FileSet, also, IsWithin}
use Rattle.disk_trait.specs.ImagesLaws.{leaves_none, leaves_then, leaves_wider}
use Rattle.intent_journal.specs.declared.journal.Journal.{Journal}
use Rattle.intent_journal.specs.declared.fault.JournalFault.{JournalFault}
use Rattle.intent_journal.specs.ChangesLaws.{either, with_bytes_other, metadata-not-data}
use Rattle.intent_journal.specs.Overlay.{ComesTo}
use Rattle.intent_journal.specs.OverlayLaws.{start_image, also_other}
use Rattle.intent_journal.specs.Calls.{Reads, Touches}
use Rattle.pool_store.specs.Rewriting.{Rewrites}

-- a file that isn't among the uncertain ones and this one
also_out : (set : FileSet) (file asked : FileId) → also set file asked ≡ false → (is_same_file asked file ≡ false) × (set asked ≡ false)
also_out set file asked out = elim (either (is_same_file asked file)) [
  | inl same ↦ absurd (false≢true (sym out ∙ rw same refl))
  | inr other ↦ (other, rw other at out)
]

pub also_within : (a b c : FileSet) (file : FileId) → IsWithin b (also a file) → IsWithin c (also b file) → IsWithin c (also a file)
also_within a b c file first second = record {
  each = λ asked out. second.each asked (also_other b file asked (also_out a file asked out).0 (first.each asked out));
}

within_also : (a b : FileSet) (file : FileId) → IsWithin b a → IsWithin b (also a file)
within_also a b file within = record { each = λ asked out. within.each asked (also_out a file asked out).1 }

pub same_none : (file : FileId) (told told' : Option Files) → told' ≡ told → SameButOne file told told'
same_none file None told' e = e
same_none file (Some all) told' e = (all, e, λ asked other. refl)

pub same_changed : (file : FileId) (told told' : Option Files) (bytes : _) → told' ≡ changed told file bytes → SameButOne file told told'
same_changed file None told' bytes e = e
same_changed file (Some all) told' bytes e = (with_bytes all file bytes, e, λ asked other. with_bytes_other all file bytes asked other)

pub same_appended : (file : FileId) (told told' : Option Files) (more : _) → told' ≡ appended told file more → SameButOne file told told'
same_appended file None told' more e = e
same_appended file (Some all) told' more e = (with_more all file more, e, λ asked other. with_bytes_other all file _ asked other)

pub same_then : (file : FileId) (a b c : Option Files) → SameButOne file a b → SameButOne file b c → SameButOne file a c
same_then file None b c first second = none_then b c first second
  where
    none_then : (b c : Option Files) → b ≡ None → SameButOne file b c → c ≡ None
    none_then None c e second = second
    none_then (Some all) c e second = absurd (cc)
same_then file (Some all) b c first second = some_then b first.1 second
  where
    some_then : (b : Option Files) → b ≡ Some first.0 → SameButOne file b c → SameButOne file (Some all) c
    some_then None e second = absurd (cc)
    some_then (Some mid) e second =
        let same : mid ≡ first.0 = cc in
        (second.0, second.1, λ asked other. second.2 asked other ∙ ap (λ (f : Files). f asked) same ∙ first.2 asked other)

-- the files of a told disk that differ in one
pub same_told : (file : FileId) (told told' : Option Files) (all : Files) → SameButOne file told told' → told ≡ Some all → SameButOne file (Some all) told'
same_told file None told' all same is = absurd (cc)
same_told file (Some all') told' all same is = let e : all' ≡ all = cc in
    (same.0, same.1, λ asked other. same.2 asked other ∙ ap (λ (f : Files). f asked) e)

metadata_other : (file asked : FileId) → is_data file ≡ true → is_metadata asked ≡ true → is_same_file asked file ≡ false
metadata_other file asked data_file kind = elim (either (is_same_file asked file)) [
  | inl same ↦ absurd (false≢true (sym (metadata-not-data asked kind) ∙ ap is_data (same_file asked file same) ∙ data_file))
  | inr other ↦ other
]

comes_also : (all : Files) (set : FileSet) (file : FileId) (image : Files) → ComesTo all set image → ComesTo all (also set file) image
comes_also all set file image comes = record {
  closed = comes.closed;
  opened = comes.opened;
  contents = λ asked kind out. comes.contents asked kind (also_out set file asked out).1;
}

-- what comes to files that differ in one
comes_back : (all mid : Files) (a b : FileSet) (file : FileId) (image : Files) → is_data file ≡ true
    → ((asked : FileId) → is_same_file asked file ≡ false → mid asked ≡ all asked) → IsWithin b (also a file)
    → ComesTo mid (also b file) image → ComesTo all (also a file) image
comes_back all mid a b file image data_file same within comes = record {
  closed = λ shut asked kind. comes.closed shut asked kind ∙ same asked (metadata_other file asked data_file kind);
  opened = λ gate.
      let laid = comes.opened gate in
      record {
        changes = laid.changes;
        are = laid.are;
        intent = laid.intent;
        each = λ asked kind. laid.each asked kind ∙ same asked (metadata_other file asked data_file kind);
      };
  contents = λ asked kind out.
      let outside = also_out a file asked out in
      comes.contents asked kind (also_other b file asked outside.0 (within.each asked out)) ∙ same asked outside.0;
}

pub reads_rewrites : {D : Type 0} {d : Ghosts D} (old : Journal D d) (file : FileId) (new : Journal D d) → Reads old new → Rewrites old file new
reads_rewrites {d = d} old file new reads = record {
  stays = reads.stays;
  others = same_none file (d.files old.disk) (d.files new.disk) reads.looks.same;
  certain = within_also (d.uncertain old.disk) (d.uncertain new.disk) file reads.looks.certain;
  any_moment = λ ready all told. leaves_wider reads.looks.any_moment (λ image may.
      comes_also all (d.uncertain old.disk) file image (start_image (d.files old.disk) (d.uncertain old.disk) all image told (old.settled ready) may));
}

pub rewrites_none : {D : Type 0} {d : Ghosts D} (journal : Journal D d) (file : FileId) → Rewrites journal file journal
rewrites_none {d = d} journal file = record {
  stays = refl;
  others = same_none file (d.files journal.disk) (d.files journal.disk) refl;
  certain = record { each = λ asked out. (also_out (d.uncertain journal.disk) file asked out).1 };
  any_moment = λ ready all told. leaves_none journal.disk _;
}

pub touches_rewrites : {D : Type 0} {d : Ghosts D} (old : Journal D d) (file : FileId) (after : Option Files) (result : Result (Unit {0}) JournalFault)
    (new : Journal D d) → ((told' : Option Files) → told' ≡ after → SameButOne file (d.files old.disk) told')
    → Touches old file after result new → Rewrites old file new
touches_rewrites {d = d} old file after result new same touches = record {
  stays = touches.stays;
  others = step result touches;
  certain = touches.certain;
  any_moment = λ ready all told. let t = touches.any_moment ready all told in record { later = t.later; since = t.since };
}
  where
    step : (result : Result (Unit {0}) JournalFault) → Touches old file after result new → SameButOne file (d.files old.disk) (d.files new.disk)
    step (Ok done) touches = same (d.files new.disk) touches.told
    step (Err fault) touches = touches.failed

pub rewrites_then : {D : Type 0} {d : Ghosts D} (a : Journal D d) (file : FileId) (b c : Journal D d) → is_data file ≡ true
    → Rewrites a file b → Rewrites b file c → Rewrites a file c
rewrites_then {d = d} a file b c data_file first second = record {
  stays = second.stays ∙ first.stays;
  others = same_then file (d.files a.disk) (d.files b.disk) (d.files c.disk) first.others second.others;
  certain = also_within (d.uncertain a.disk) (d.uncertain b.disk) (d.uncertain c.disk) file first.certain second.certain;
  any_moment = λ ready all told.
      let mid = same_told file (d.files a.disk) (d.files b.disk) all first.others told in
      leaves_then (first.any_moment ready all told)
      (leaves_wider (second.any_moment (first.stays ∙ ready) mid.0 mid.1)
      (λ image comes. comes_back all mid.0 (d.uncertain a.disk) (d.uncertain b.disk) file image data_file mid.2 first.certain comes));
}
