-- The record of an image begins with the image.
use Rattle.std.proofs.Common.{◌≡◌, ℕ, zero, suc, ◌≤◌, ◌+◌, Bool, true, false, if◌then◌else◌, List, [], ◌∷◌, ◌++◌, length, take, drop, Option, Some, None, refl, sym, ap, ◌∙◌, subst, arith}
use Rattle.std.proofs.Math.Seq.{drop-append_seam}
use Rattle.std.proofs.lemmas.List.{length-append, append-nil}
use Rattle.disk_trait.specs.declared.ids.FileId.{FileId}
use Rattle.disk_trait.specs.declared.log.Span.{Span}
use Rattle.disk_trait.specs.declared.log.Entry.{Entry}
use Rattle.disk_trait.specs.declared.log.Entry.TheVariants as E
use Rattle.disk_trait.specs.declared.image.Choice.TheVariants.{Written, Absent, One}
use Rattle.disk_trait.specs.Names.{is_same_file}
use Rattle.disk_trait.specs.Files.{Files, no_files}
use Rattle.disk_trait.specs.Images.{FileSet, nothing, also}
use Rattle.disk_trait.specs.Log.{Call, call_of, calls_of, IsKept, AreKept, files_after, uncertain_with, uncertain_after}
use Rattle.disk_trait.specs.Image.{of_byte, with_uncertain, image_after, override_of, over_with, over_after, IsLaid}
use Rattle.disk_trait.proofs.Records.{files_more, files_join, calls_before, calls_join, are_kept_wider, are_kept_join, are_kept_take}

-- what is put behind the bytes, and what an override then does
record Chosen (byte : Option ℕ) (old : List ℕ) (span : Option Span) (new : List ℕ) : Type 0 where
  more : List ℕ
  longer : new ≡ old ++ more
  call : (file : FileId) → call_of new (override_of file span) ≡ Call.Changed file (of_byte byte)
  kept : (file : FileId) → IsKept (length new) (override_of file span)

chosen_of : (byte : Option ℕ) (old : List ℕ) (span : Option Span) (new : List ℕ) → IsLaid byte old span new → Chosen byte old span new
chosen_of None old span new is = record {
  more = [];
  longer = is.1 ∙ sym (append-nil old);
  call = λ file. ap (λ (s : Option Span). call_of new (override_of file s)) is.0;
  kept = λ file. subst (λ (s : Option Span). IsKept (length new) (override_of file s)) (sym is.0) tt;
}
chosen_of (Some byte) old span new is = record {
  more = byte ∷ [];
  longer = is.1;
  call = λ file.
      ap (λ (s : Option Span). call_of new (override_of file s)) is.0
      ∙ ap (λ (bytes : List ℕ). Call.Changed file (Some (take 1 (drop (length old) bytes)))) is.1
      ∙ ap (λ (rest : List ℕ). Call.Changed file (Some (take 1 rest))) (drop-append_seam old (byte ∷ []));
  kept = λ file. subst (λ (s : Option Span). IsKept (length new) (override_of file s)) (sym is.0) (within is.1);
}
  where
    within : new ≡ old ++ byte ∷ [] → length old + 1 ≤ length new
    within longer = omega (arith, ap length longer, length-append old (byte ∷ []))

module _ (byte : Option ℕ) (old : List ℕ) (span : Option Span) (new : List ℕ) (chosen : Chosen byte old span new) (files : Files) where
  -- the overrides give each file of the set its bytes, and leave the others
  abbrev Over : List Entry → FileSet → Type 0
  Over over set = (asked : FileId) → files_after files (calls_of new over) asked ≡ (if set asked then of_byte byte else files asked)

  over_one : (over : List Entry) (set : FileSet) (file : FileId) → Over over set → Over (over ++ override_of file span ∷ []) (also set file)
  over_one over set file is asked =
      ap (λ (calls : List Call). files_after files calls asked) (calls_join new over (override_of file span ∷ []) ∙ ap (λ (call : Call). calls_of new over ++ call ∷ []) (chosen.call file))
      ∙ ap (λ (all : Files). all asked) (files_more files (calls_of new over) (Call.Changed file (of_byte byte)))
      ∙ by_test (is_same_file asked file) (set asked) (files_after files (calls_of new over) asked) (files asked) (is asked)
    where
      by_test : (same in_set : Bool) (now held : Option (List ℕ)) → now ≡ (if in_set then of_byte byte else held)
          → (if same then of_byte byte else now) ≡ (if (if same then true else in_set) then of_byte byte else held)
      by_test true in_set now held is = refl
      by_test false in_set now held is = is

  over_next : (over : List Entry) (set : FileSet) (entry : Entry) → Over over set → Over (over_with span over entry) (uncertain_with set (call_of old entry))
  over_next over set (E.Written file at) is = over_one over set file is
  over_next over set (E.Extended file at) is = over_one over set file is
  over_next over set (E.Removed file) is = over_one over set file is
  over_next over set (E.Missed file) is = over_one over set file is
  over_next over set E.Synced is = λ asked. refl

  over_all : (over : List Entry) (set : FileSet) (entries : List Entry) → Over over set → Over (over_after span over entries) (uncertain_after set (calls_of old entries))
  over_all over set [] is = is
  over_all over set (entry ∷ later) is = over_all (over_with span over entry) (uncertain_with set (call_of old entry)) later (over_next over set entry is)

  kept_one : (over : List Entry) (file : FileId) → AreKept (length new) over → AreKept (length new) (over ++ override_of file span ∷ [])
  kept_one over file kept = are_kept_join (length new) over (override_of file span ∷ []) kept (chosen.kept file, tt)

  kept_next : (over : List Entry) (entry : Entry) → AreKept (length new) over → AreKept (length new) (over_with span over entry)
  kept_next over (E.Written file at) kept = kept_one over file kept
  kept_next over (E.Extended file at) kept = kept_one over file kept
  kept_next over (E.Removed file) kept = kept_one over file kept
  kept_next over (E.Missed file) kept = kept_one over file kept
  kept_next over E.Synced kept = tt

  kept_all : (over entries : List Entry) → AreKept (length new) over → AreKept (length new) (over_after span over entries)
  kept_all over [] kept = kept
  kept_all over (entry ∷ later) kept = kept_all (over_with span over entry) later (kept_next over entry kept)

module _ (bytes mine : List ℕ) (start older begins : List Entry) (kept_start : AreKept (length bytes) start) (kept_older : AreKept (length bytes) older)
    (same : mine ≡ bytes) (joined : begins ≡ start ++ older) where
  abbrev pub before : Files
  before = files_after (files_after no_files (calls_of bytes start)) (calls_of bytes older)

  kept : AreKept (length bytes) begins
  kept = subst (AreKept (length bytes)) (sym joined) (are_kept_join (length bytes) start older kept_start kept_older)

  begun : files_after no_files (calls_of bytes begins) ≡ before
  begun = ap (λ (entries : List Entry). files_after no_files (calls_of bytes entries)) joined
      ∙ ap (files_after no_files) (calls_join bytes start older) ∙ files_join no_files (calls_of bytes start) (calls_of bytes older)

  pub written_kept : AreKept (length mine) begins
  written_kept = subst (λ (b : List ℕ). AreKept (length b) begins) (sym same) kept

  pub written_files : files_after no_files (calls_of mine begins) ≡ before
  written_files = ap (λ (b : List ℕ). files_after no_files (calls_of b begins)) same ∙ begun

  module _ (byte : Option ℕ) (span : Option Span) (laid : List ℕ) (over whole : List Entry)
      (is_laid : IsLaid byte mine span laid) (is_over : over ≡ over_after span [] older) (is_whole : whole ≡ begins ++ over) where
    chosen : Chosen byte bytes span laid
    chosen = chosen_of byte bytes span laid (subst (λ (b : List ℕ). IsLaid byte b span laid) same is_laid)

    wider : AreKept (length laid) begins
    wider = are_kept_wider (length bytes) (length laid) begins (omega (arith, ap length chosen.longer, length-append bytes chosen.more)) kept

    pub overridden_kept : AreKept (length laid) whole
    overridden_kept = subst (AreKept (length laid)) (sym is_whole)
        (are_kept_join (length laid) begins over wider (subst (AreKept (length laid)) (sym is_over) (kept_all byte bytes span laid chosen before [] older tt)))

    whole_files : files_after no_files (calls_of laid whole) ≡ files_after before (calls_of laid over)
    whole_files = ap (λ (entries : List Entry). files_after no_files (calls_of laid entries)) is_whole
        ∙ ap (files_after no_files) (calls_join laid begins over) ∙ files_join no_files (calls_of laid begins) (calls_of laid over)
        ∙ ap (λ (files : Files). files_after files (calls_of laid over))
        (ap (λ (b : List ℕ). files_after no_files (calls_of b begins)) chosen.longer ∙ ap (files_after no_files) (calls_before bytes chosen.more begins kept) ∙ begun)

    pub overridden_files : files_after no_files (calls_of laid whole) ≡ with_uncertain (of_byte byte) (files_after no_files (calls_of bytes start)) (calls_of bytes older)
    overridden_files = whole_files ∙ ap (λ (entries : List Entry). files_after before (calls_of laid entries)) is_over ∙ (λ i asked. at asked i)
      where
        at : (asked : FileId) → files_after before (calls_of laid (over_after span [] older)) asked ≡ with_uncertain (of_byte byte) (files_after no_files (calls_of bytes start)) (calls_of bytes older) asked
        at = over_all byte bytes span laid chosen before [] nothing older (λ asked. refl)

-- the first entries of a record are kept
pub kept_older : (count moment : ℕ) (entries lent older : List Entry) → older ≡ take moment lent → lent ≡ entries → AreKept count entries → AreKept count older
kept_older count moment entries lent older is lends kept = subst (AreKept count) (sym (is ∙ ap (take moment) lends)) (are_kept_take count moment entries kept)

calls_take : (bytes : List ℕ) (n : ℕ) (entries : List Entry) → calls_of bytes (take n entries) ≡ take n (calls_of bytes entries)
calls_take bytes zero entries = refl
calls_take bytes (suc n) [] = refl
calls_take bytes (suc n) (entry ∷ later) = ap (λ (calls : List Call). call_of bytes entry ∷ calls) (calls_take bytes n later)

pub calls_older : (bytes : List ℕ) (moment : ℕ) (entries lent older : List Entry) → older ≡ take moment lent → lent ≡ entries → calls_of bytes older ≡ take moment (calls_of bytes entries)
calls_older bytes moment entries lent older is lends = ap (calls_of bytes) (is ∙ ap (take moment) lends) ∙ calls_take bytes moment entries

same_if : (b : Bool) (x : Option (List ℕ)) → x ≡ (if b then x else x)
same_if true x = refl
same_if false x = refl

pub written_image : (start made : Files) (calls past : List Call) (asked : FileId) → made ≡ files_after start calls → calls ≡ past → made asked ≡ image_after start past Written asked
written_image start made calls past asked is are =
    ap (λ (files : Files). files asked) is ∙ ap (λ (c : List Call). files_after start c asked) are ∙ same_if (uncertain_after nothing past asked) (files_after start past asked)

pub absent_image : (start made : Files) (calls past : List Call) (asked : FileId) → made ≡ with_uncertain (of_byte None) start calls → calls ≡ past → made asked ≡ image_after start past Absent asked
absent_image start made calls past asked is are = ap (λ (files : Files). files asked) is ∙ ap (λ (c : List Call). with_uncertain None start c asked) are

pub one_image : (start made : Files) (calls past : List Call) (byte : ℕ) (asked : FileId) → made ≡ with_uncertain (of_byte (Some byte)) start calls → calls ≡ past → made asked ≡ image_after start past (One byte) asked
one_image start made calls past byte asked is are = ap (λ (files : Files). files asked) is ∙ ap (λ (c : List Call). with_uncertain (Some (byte ∷ [])) start c asked) are
