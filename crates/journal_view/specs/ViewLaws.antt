-- Laws from the clauses of a journal's calls to what a store sees of them, and on runs of calls.
use Rattle.std.specs.Prelude.{◌≡◌, ◌⊎◌, ◌≤◌, ℕ, true, false, List, ◌++◌, Option, Some, None, Result, Ok, Err, OnOk, OnErr, is_some, option_map, if◌then◌else◌}
use Rattle.std.proofs.lemmas.Bool.{false≢true}
use Rattle.std.proofs.Common.{inl, inr, ⊎_elim, refl, sym, ap, ◌∙◌, subst, arith}
use Rattle.std.specs.Option.{ForSome}
use Rattle.disk_trait.specs.declared.ids.FileId.{FileId}
use Rattle.disk_trait.specs.declared.disk.Disk.{Ghosts}
use Rattle.disk_trait.specs.Names.{is_same_file}
use Rattle.disk_trait.specs.NamesLaws.{same_file}
use Rattle.disk_trait.specs.Files.{piece, IsListing, Files, SameButOne, changed, appended, with_bytes, with_more, bytes_of}
use Rattle.disk_trait.specs.Images.{FileSet, nothing, also, IsWithin, Leaves}
use Rattle.disk_trait.specs.ImagesLaws.{leaves_none, leaves_then, leaves_wider}
use Rattle.intent_journal.specs.declared.changes.Change.{Change}
use Rattle.intent_journal.specs.declared.fault.JournalFault.{JournalFault}
use Rattle.intent_journal.specs.declared.journal.Journal.{Journal}
use Rattle.intent_journal.specs.Changes.{applied, AreChanges}
use Rattle.intent_journal.specs.Overlay.{IsAtRest, IsBeforeOrAfter, intent_alone}
use Rattle.intent_journal.specs.ChangesLaws.{either, with_bytes_there, with_bytes_other}
use Rattle.intent_journal.specs.OverlayLaws.{start_image}
use Rattle.intent_journal.specs.Calls.{Commits, Reads, Touches}
use Rattle.journal_view.specs.Found.{ListsSeen, seen, is_seen, Finds, IsAlikeBut}
use Rattle.journal_view.specs.FoundLaws.{finds_as, finds_wider, finds_each, but_seen, told_raw, rest_told, seen_applied, seen_there}
use Rattle.journal_view.specs.View.{IsOldOrNew, CountsNow, OnlyNow, told, uncertain, moment, MayFind, FoundSince, FindsNow, FindsOnly, Quiet, Committed, Staged}

others_seen : (files others : Files) (asked : FileId) → others asked ≡ files asked → seen others asked ≡ seen files asked
others_seen files others asked same = ap (λ (bytes : Option (List ℕ)). if is_seen asked then bytes else None) same

-- what is seen of a change
pub seen_changed : (files : Option Files) (file : FileId) (bytes : Option (List ℕ)) → is_seen file ≡ true
    → option_map seen (changed files file bytes) ≡ changed (option_map seen files) file bytes
seen_changed None file bytes kind = refl
seen_changed (Some files) file bytes kind = ap (λ (f : Files). Some f) (λ i asked. at asked i)
  where
    at : (asked : FileId) → seen (with_bytes files file bytes) asked ≡ with_bytes (seen files) file bytes asked
    at asked = elim (either (is_same_file asked file)) [
      | inl same ↦
          seen_there (with_bytes files file bytes) asked (ap is_seen (same_file asked file same) ∙ kind)
          ∙ with_bytes_there files file bytes asked same ∙ sym (with_bytes_there (seen files) file bytes asked same)
      | inr other ↦ others_seen files (with_bytes files file bytes) asked (with_bytes_other files file bytes asked other)
          ∙ sym (with_bytes_other (seen files) file bytes asked other)
    ]

-- what is seen of a file that was read
pub seen_read : (told : Option Files) (all : Files) (file : FileId) (found : Option (List ℕ)) → is_seen file ≡ true
    → ForSome told (λ files. found ≡ files file) → option_map seen told ≡ Some all → found ≡ all file
seen_read told all file found kind read is =
    let raw = told_raw told all is in
    read raw.0 raw.1 ∙ sym (seen_there raw.0 file kind) ∙ ap (λ (f : Files). f file) raw.2

-- what is seen of a file that was extended
pub seen_appended : (files : Option Files) (file : FileId) (more : List ℕ) → is_seen file ≡ true
    → option_map seen (appended files file more) ≡ appended (option_map seen files) file more
seen_appended None file more kind = refl
seen_appended (Some files) file more kind =
    seen_changed (Some files) file (Some (bytes_of (files file) ++ more)) kind
    ∙ ap (λ (bytes : Option (List ℕ)). Some (with_bytes (seen files) file (Some (bytes_of bytes ++ more))))
    (sym (seen_there files file kind))

-- what is seen of a piece that was read
pub seen_piece : (told : Option Files) (all : Files) (file : FileId) (offset room : ℕ) (found : Option (List ℕ)) → is_seen file ≡ true
    → ForSome told (λ files. found ≡ piece (files file) offset room) → option_map seen told ≡ Some all
    → found ≡ piece (all file) offset room
seen_piece told all file offset room found kind read is =
    let raw = told_raw told all is in
    read raw.0 raw.1
    ∙ ap (λ (bytes : Option (List ℕ)). piece bytes offset room) (sym (seen_there raw.0 file kind) ∙ ap (λ (f : Files). f file) raw.2)

-- what is seen of files that were listed
pub seen_listed : (told : Option Files) (all : Files) (list : List FileId) → ForSome told (IsListing list) → option_map seen told ≡ Some all
    → ListsSeen list all
seen_listed told all list listing is =
    let raw = told_raw told all is in
    let listed = listing raw.0 raw.1 in
    record {
      once = listed.once;
      each = λ file kind. listed.each file ∙ ap is_some (sym (seen_there raw.0 file kind) ∙ ap (λ (f : Files). f file) raw.2);
    }

-- one file of them was written or removed
pub same_changed : (files : Option Files) (file : FileId) (bytes : Option (List ℕ)) → SameButOne file files (changed files file bytes)
same_changed None file bytes = refl
same_changed (Some files) file bytes = (with_bytes files file bytes, refl, λ asked other. with_bytes_other files file bytes asked other)

pub same_appended : (files : Option Files) (file : FileId) (more : List ℕ) → SameButOne file files (appended files file more)
same_appended None file more = refl
same_appended (Some files) file more =
    (with_more files file more, refl, λ asked other. with_bytes_other files file (Some (bytes_of (files file) ++ more)) asked other)

some_seen : (files : Option Files) → is_some files ≡ true → is_some (option_map seen files) ≡ true
some_seen None e = e
some_seen (Some files) e = refl

pub seen_some : (files : Option Files) → is_some (option_map seen files) ≡ true → is_some files ≡ true
seen_some None e = e
seen_some (Some files) e = refl

none_seen : (files : Option Files) → (is_some files ≡ true → ⊥) → option_map seen files ≡ None
none_seen None no_files = refl
none_seen (Some files) no_files = absurd (no_files refl)

old_or_new : (files all : Files) (u : FileSet) (changes : List Change) (image : Files) → AreChanges changes → seen files ≡ all
    → IsBeforeOrAfter files u changes image → Finds (IsOldOrNew all u changes) image
old_or_new files all u changes image are is either = ⊎_elim
    (λ before. finds_wider (IsAlikeBut files u) (IsOldOrNew all u changes) image
    (λ found as_files. inl (subst (λ (f : Files). IsAlikeBut f u found) is (but_seen files u found as_files)))
    (finds_as files u image before))
    (λ after. finds_wider (IsAlikeBut (applied changes files) nothing) (IsOldOrNew all u changes) image
    (λ found as_files. inr
    (subst (λ (f : Files). IsAlikeBut f nothing found) (seen_applied changes files are ∙ ap (applied changes) is)
    (but_seen (applied changes files) nothing found as_files)))
    (finds_as (applied changes files) nothing image after))
    either

same_at : (file : FileId) (before after : Option Files) (all : Files) → before ≡ Some all → SameButOne file before after
    → SameButOne file (Some all) after
same_at file before after all is same = subst (λ (t : Option Files). SameButOne file t after) is same

module _ {D : Type 0} {d : Ghosts D} where
  pub FindsOnly-still : (journal : Journal D d) (P : Files → Type 0) → FindsOnly journal journal P
  FindsOnly-still journal P = leaves_none journal.disk (Finds P)

  pub FindsOnly-then : (P : Files → Type 0) (a b c : Journal D d) → FindsOnly a b P → FindsOnly b c P → FindsOnly a c P
  FindsOnly-then P a b c f g = leaves_then f g

  pub FindsOnly-each : (P Q : Files → Type 0) (a b : Journal D d) → ((found : Files) → P found → Q found) → FindsOnly a b P
      → FindsOnly a b Q
  FindsOnly-each P Q a b wider f = leaves_wider f (λ image finds. finds_wider P Q image wider finds)

  -- in terms of what is found: the form without images
  pub FindsOnly-found : (P : Files → Type 0) (old new : Journal D d) → FindsOnly old new P
      → (t : ℕ) (found : Files) → t ≤ moment old → FoundSince new t found → FoundSince old t found ⊎ P found
  FindsOnly-found P old new only t found le since = ⊎_elim
      (λ before. inl (record { image = since.image; left = before; in_image = since.in_image }))
      (λ finds. inr (finds_each P since.image found finds since.in_image))
      (only.since t since.image le since.left)

  pub FindsNow-found : (P : Files → Type 0) (journal : Journal D d) → FindsNow journal P → (found : Files) → MayFind journal found → P found
  FindsNow-found P journal now found may = finds_each P may.image found (now may.image may.left) may.in_image

  pub FindsNow-each : (P Q : Files → Type 0) (journal : Journal D d) → ((found : Files) → P found → Q found) → FindsNow journal P
      → FindsNow journal Q
  FindsNow-each P Q journal wider now = λ image left. finds_wider P Q image wider (now image left)

  -- what each image of the start has, each image of now has
  pub FindsNow-then : (P : Files → Type 0) (old new : Journal D d) → CountsNow d → OnlyNow d → FindsNow old P → FindsOnly old new P
      → FindsNow new P
  FindsNow-then P old new counts only start run = λ image left. ⊎_elim
      (λ before. start image (only old.disk image before))
      (λ finds. finds)
      (run.since (moment old) image (omega arith) (counts new.disk (moment old) image run.later left))

  -- at work, what is found is as the files that are told
  pub working_finds : (journal : Journal D d) (all : Files) → journal.halted ≡ false → told journal ≡ Some all
      → FindsNow journal (IsAlikeBut all (uncertain journal))
  working_finds journal all run is = λ image left.
      let raw = told_raw (d.files journal.disk) all is in
      let finds = finds_as raw.0 (uncertain journal) image
      (start_image (d.files journal.disk) (uncertain journal) raw.0 image raw.1 (journal.settled run) left) in
      finds_wider (IsAlikeBut raw.0 (uncertain journal)) (IsAlikeBut all (uncertain journal)) image
      (λ found as_raw. subst (λ (f : Files). IsAlikeBut f (uncertain journal) found) raw.2
      (but_seen raw.0 (uncertain journal) found as_raw)) finds

  pub working_found : (journal : Journal D d) (all found : Files) → journal.halted ≡ false → told journal ≡ Some all
      → MayFind journal found → IsAlikeBut all (uncertain journal) found
  working_found journal all found run is may =
      FindsNow-found (IsAlikeBut all (uncertain journal)) journal (working_finds journal all run is) found may

  pub Quiet-still : (journal : Journal D d) → Quiet journal journal
  Quiet-still journal =
      record {
        told_same = refl;
        certain = record { each = λ asked out. out };
        halted_same = refl;
        now = λ found may. may;
        crash = λ all is. FindsOnly-still journal (IsAlikeBut all (uncertain journal));
      }

  pub Quiet-then : (a b c : Journal D d) → Quiet a b → Quiet b c → Quiet a c
  Quiet-then a b c f g = record {
    told_same = g.told_same ∙ f.told_same;
    certain = record { each = λ asked out. g.certain.each asked (f.certain.each asked out) };
    halted_same = g.halted_same ∙ f.halted_same;
    now = λ found may. f.now found (g.now found may);
    crash = λ all is. FindsOnly-then (IsAlikeBut all (uncertain a)) a b c (f.crash all is)
        (FindsOnly-each (IsAlikeBut all (uncertain b)) (IsAlikeBut all (uncertain a)) b c
        (λ found as_b. record
        { metadata = as_b.metadata; contents = λ asked kind out. as_b.contents asked kind (f.certain.each asked out) })
        (g.crash all (f.told_same ∙ is)));
  }

  -- what may be found after it might have been found before
  pub found_before : (old new : Journal D d) → d.files new.disk ≡ d.files old.disk → IsWithin (uncertain new) (uncertain old)
      → (found : Files) → MayFind new found → MayFind old found
  found_before old new same within found may = record {
    image = may.image;
    left = record {
      all = may.left.all;
      is = sym same ∙ may.left.is;
      image_of = record { each = λ asked out. may.left.image_of.each asked (within.each asked out) };
    };
    in_image = may.in_image;
  }

  -- a call that reads is quiet
  pub quiet_of : (old new : Journal D d) → old.halted ≡ false → Reads old new → Quiet old new
  quiet_of old new run reads = record {
    now = found_before old new reads.looks.same reads.looks.certain;
    told_same = ap (option_map seen) reads.looks.same;
    certain = reads.looks.certain;
    halted_same = reads.stays;
    crash = λ all is. leaves_wider reads.looks.any_moment (λ image left. working_finds old all run is image left);
  }

  quiet_same : (old new : Journal D d) → new.disk ≡ old.disk → new.halted ≡ old.halted → Quiet old new
  quiet_same old new disk halted = record {
    now = found_before old new (ap d.files disk) (record { each = λ asked out. ap (λ (x : D). d.uncertain x asked) disk ∙ out });
    told_same = ap (λ (x : D). option_map seen (d.files x)) disk;
    certain = record { each = λ asked out. ap (λ (x : D). d.uncertain x asked) disk ∙ out };
    halted_same = halted;
    crash = λ all is. subst (λ (x : D). Leaves d.moment d.left_since old.disk x (Finds (IsAlikeBut all (uncertain old)))) (sym disk)
        (leaves_none old.disk (Finds (IsAlikeBut all (uncertain old))));
  }

  -- a commit of a journal at work
  pub committed_of : (old : Journal D d) (changes : List Change) (result : Result (Unit {0}) JournalFault) (new : Journal D d) → CountsNow d
      → (is_some (d.files old.disk) ≡ true → is_some (d.files new.disk) ≡ true)
      → (is_some (d.files new.disk) ≡ true → is_some (d.files old.disk) ≡ true)
      → old.halted ≡ false → AreChanges changes → Commits old changes result new → Committed old changes result new
  committed_of old changes result new counts tells told_before run are commits = record {
    ready = ready result commits.done;
    done = done result commits.done;
    certain = certain result commits.done;
    memory = λ e. let same = commits.unwritten (inr e) in quiet_same old new same.0 same.1;
    stopped = commits.stopped;
    running = λ e. let was = commits.halted.0 e in absurd cc;
    crash = λ all is.
        let raw = told_raw (d.files old.disk) all is in
        let only = commits.any_moment run raw.0 raw.1 in
        record {
          later = only.later;
          since = λ t image le left. ⊎_elim (λ before. inl before)
              (λ either. inr (old_or_new raw.0 all (uncertain old) changes image are raw.2 either)) (only.since t image le left);
        };
    now = λ all is image left.
        let raw = told_raw (d.files old.disk) all is in
        let only = commits.any_moment run raw.0 raw.1 in
        old_or_new raw.0 all (uncertain old) changes image are raw.2 (only.each image (counts new.disk (moment old) image only.later left));
    tells = λ e. some_seen (d.files new.disk) (tells (seen_some (d.files old.disk) e));
    counted = commits.counted;
  }
    where
      ready : (r : Result (Unit {0}) JournalFault)
          → OnOk r ((new.halted ≡ false)
          × ((files : Files) → d.files old.disk ≡ Some files
          → IsAtRest (d.files new.disk) (d.uncertain new.disk) (applied changes files))) → OnOk r (new.halted ≡ false)
      ready (Ok x) e = e.0
      ready (Err x) e = tt

      told_after : (before : Option Files) → d.files old.disk ≡ before
          → ((files : Files) → d.files old.disk ≡ Some files → IsAtRest (d.files new.disk) (d.uncertain new.disk) (applied changes files))
          → told new ≡ option_map (applied changes) (option_map seen before)
      told_after None is rest = none_seen (d.files new.disk) (λ e. let was = told_before e in absurd cc)
      told_after (Some files) is rest =
          rest_told (d.files new.disk) (d.uncertain new.disk) (applied changes files) (rest files is)
          ∙ ap (λ (f : Files). Some f) (seen_applied changes files are)

      done : (r : Result (Unit {0}) JournalFault)
          → OnOk r ((new.halted ≡ false)
          × ((files : Files) → d.files old.disk ≡ Some files → IsAtRest (d.files new.disk) (d.uncertain new.disk) (applied changes files)))
          → OnOk r (told new ≡ option_map (applied changes) (told old))
      done (Ok x) e = told_after (d.files old.disk) refl e.1
      done (Err x) e = tt

      certain_after : (before : Option Files) → d.files old.disk ≡ before
          → ((files : Files) → d.files old.disk ≡ Some files → IsAtRest (d.files new.disk) (d.uncertain new.disk) (applied changes files))
          → is_some (option_map seen before) ≡ true → IsWithin (uncertain new) intent_alone
      certain_after None is rest e = absurd (false≢true e)
      certain_after (Some files) is rest e = (rest files is).certain

      certain : (r : Result (Unit {0}) JournalFault)
          → OnOk r ((new.halted ≡ false)
          × ((files : Files) → d.files old.disk ≡ Some files → IsAtRest (d.files new.disk) (d.uncertain new.disk) (applied changes files)))
          → OnOk r (is_some (told old) ≡ true → IsWithin (uncertain new) intent_alone)
      certain (Ok x) e = certain_after (d.files old.disk) refl e.1
      certain (Err x) e = tt

  -- ---- contents and stages

  -- a call that changes one content or stage of a journal at work
  pub staged_of : (old : Journal D d) (file : FileId) (after : Option Files) (result : Result (Unit {0}) JournalFault) (new : Journal D d)
      (all : Files)
      → SameButOne file (d.files old.disk) after → old.halted ≡ false → told old ≡ Some all → Touches old file after result new
      → Staged old file all new
  staged_of old file after result new all same run is touches =
      let raw = told_raw (d.files old.disk) all is in
      let there = same_at file (d.files old.disk) (d.files new.disk) raw.0 raw.1 (whichever result touches.told touches.failed) in
      let only = touches.any_moment run raw.0 raw.1 in
      let u = also (uncertain old) file in
      record {
        now = seen there.0;
        told_is = ap (option_map seen) there.1;
        others = λ asked other. others_seen raw.0 there.0 asked (there.2 asked other) ∙ ap (λ (f : Files). f asked) raw.2;
        certain = touches.certain;
        halted_same = touches.stays;
        crash = record {
          later = only.later;
          since = λ t image le left. ⊎_elim (λ before. inl before)
              (λ comes. inr
              (finds_wider (IsAlikeBut raw.0 u) (IsAlikeBut all u) image
              (λ found as_raw. subst (λ (f : Files). IsAlikeBut f u found) raw.2 (but_seen raw.0 u found as_raw))
              (finds_as raw.0 u image comes)))
              (only.since t image le left);
        };
      }
    where
      whichever : (r : Result (Unit {0}) JournalFault) → OnOk r (d.files new.disk ≡ after)
          → OnErr r (SameButOne file (d.files old.disk) (d.files new.disk)) → SameButOne file (d.files old.disk) (d.files new.disk)
      whichever (Ok x) is_after failed = subst (λ (t : Option Files). SameButOne file (d.files old.disk) t) (sym is_after) same
      whichever (Err x) is_after failed = failed
