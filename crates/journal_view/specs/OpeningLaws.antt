-- Laws from a journal's clauses on openings to what an opening finds.
use Rattle.std.specs.Prelude.{◌≡◌, ◌≤◌, ⊤, ℕ, false, true, List, Option, Some, None, is_some, option_map}
use Rattle.std.proofs.lemmas.Bool.{false≢true}
use Rattle.std.proofs.Common.{inl, inr, ⊎_elim, refl, sym, ap, ◌∙◌, arith, subst}
use Rattle.disk_trait.specs.declared.ids.FileId.{FileId}
use Rattle.disk_trait.specs.declared.disk.Disk.{Ghosts}
use Rattle.disk_trait.specs.Files.{Files}
use Rattle.disk_trait.specs.Images.{FileSet, nothing, MayLeave, Leaves}
use Rattle.disk_trait.specs.ImagesLaws.{leaves_then, leaves_wider}
use Rattle.intent_journal.specs.declared.fault.OpenJournalFault.{OpenJournalFault}
use Rattle.intent_journal.specs.declared.fault.OpenJournalFault.TheVariants.{Foreign, Memory as NoMemory}
use Rattle.intent_journal.specs.declared.journal.Journal.{Journal}
use Rattle.intent_journal.specs.Overlay.{ComesTo, Recovers}
use Rattle.intent_journal.specs.OverlayLaws.{start_image}
use Rattle.intent_journal.specs.Calls.{Opens, Refuses}
use Rattle.journal_view.specs.Found.{seen, Finds, FindsAll, CanFind, IsOpenable, Reopened, IsAlikeBut}
use Rattle.journal_view.specs.FoundLaws.{itself, never_foreign, finds_whole, rest_told, told_raw, found_once, finds_each, finds_wider, seen_alike}
use Rattle.journal_view.specs.View.{told, uncertain, Quiet}
use Rattle.journal_view.specs.ViewLaws.{working_finds, found_before}

module _ {D : Type 0} (told_by : D → Option Files) (uncertain_by : D → FileSet) (moment : D → ℕ) (left_since : D → ℕ → Files → Type 0)
    (counts : (disk : D) (t : ℕ) (image : Files) → t ≤ moment disk → MayLeave (told_by disk) (uncertain_by disk) image
    → left_since disk t image)
    (only : (disk : D) (image : Files) → left_since disk (moment disk) image → MayLeave (told_by disk) (uncertain_by disk) image) where
  -- what each image of the start has, each image of now has
  pub now_of : (P : Files → Type 0) (old new : D) → FindsAll (told_by old) (uncertain_by old) P
      → Leaves moment left_since old new (Finds P) → FindsAll (told_by new) (uncertain_by new) P
  now_of P old new start run = λ image left. ⊎_elim
      (λ before. start image (only old image before))
      (λ finds. finds)
      (run.since (moment old) image (omega arith) (counts new (moment old) image run.later left))

-- a disk that was recovered, to files that have P
pub recovered : {D : Type 0} {told_by : D → Option Files} {uncertain_by : D → FileSet} {moment : D → ℕ}
    {left_since : D → ℕ → Files → Type 0} (P : Files → Type 0) (old new : D) (files : Files)
    → FindsAll (told_by old) (uncertain_by old) P → P (seen files) → Recovers told_by uncertain_by moment left_since old new files
    → Leaves moment left_since old new (Finds P)
recovered P old new files start has recovers = leaves_then
    (leaves_wider recovers.up_to start)
    (record {
      later = recovers.from_then.later;
      since = λ t image le left. ⊎_elim (λ before. inl before) (λ comes. inr (finds_whole P files image comes has))
          (recovers.from_then.since t image le left);
    })

module _ {D : Type 0} {d : Ghosts D}
    (counts : (disk : D) (t : ℕ) (image : Files) → t ≤ d.moment disk → MayLeave (d.files disk) (d.uncertain disk) image
    → d.left_since disk t image)
    (only : (disk : D) (image : Files) → d.left_since disk (d.moment disk) image → MayLeave (d.files disk) (d.uncertain disk) image) where
  -- the disk was opened
  pub reopened_of : (P : Files → Type 0) (old : D) (new : Journal D d) (all : Files) → d.files old ≡ Some all
      → FindsAll (d.files old) (d.uncertain old) P → Opens old new
      → Reopened d.files d.uncertain d.moment d.left_since P old new.disk
  reopened_of P old new all is start opens =
      let here = start all (itself (d.files old) (d.uncertain old) all is) in
      let files = here.in_image.files in
      let has = subst P here.in_image.is here.has in
      let rest = opens.at_rest all files is here.in_image.comes in
      let crash = recovered P old new.disk files start has (opens.recovers all files is here.in_image.comes) in
      record {
        found = seen files;
        has = has;
        told_is = rest_told (d.files new.disk) (d.uncertain new.disk) files rest;
        certain = rest.certain;
        crash = crash;
        now = now_of d.files d.uncertain d.moment d.left_since counts only P old new.disk start crash;
      }

-- the disk wasn't opened
pub refused_of : {D : Type 0} {told_by : D → Option Files} {uncertain_by : D → FileSet} {moment : D → ℕ}
    {left_since : D → ℕ → Files → Type 0} {count : D → ℕ} (P : Files → Type 0) (old new : D) (fault : OpenJournalFault) (all : Files)
    → told_by old ≡ Some all → FindsAll (told_by old) (uncertain_by old) P
    → Refuses told_by uncertain_by moment left_since count old new fault → Leaves moment left_since old new (Finds P)
refused_of {told_by = told_by} {uncertain_by = uncertain_by} P old new fault all is start refuses =
    let here = start all (itself (told_by old) (uncertain_by old) all is) in
    ⊎_elim (λ before. leaves_wider before start)
    (λ recovers. recovered P old new here.in_image.files start (subst P here.in_image.is here.has) recovers)
    (refuses.any_moment all here.in_image.files is here.in_image.comes)

-- Foreign never comes where a crash can be opened
pub refused_known : {D : Type 0} {told_by : D → Option Files} {uncertain_by : D → FileSet} {moment : D → ℕ}
    {left_since : D → ℕ → Files → Type 0} {count : D → ℕ} (old new : D) (fault : OpenJournalFault) (all : Files) (file : FileId)
    (found : Option (List ℕ))
    → fault ≡ Foreign file found → told_by old ≡ Some all → IsOpenable (told_by old) (uncertain_by old)
    → Refuses told_by uncertain_by moment left_since count old new fault → ⊥
refused_known {told_by = told_by} {uncertain_by = uncertain_by} old new fault all file found foreign is start refuses =
    never_foreign (λ (f : Files). ⊤) (told_by old) all found is (start all (itself (told_by old) (uncertain_by old) all is))
    (refuses.foreign file found foreign).1

-- no memory for a reopening of a journal at work
pub refused_quietly : {D : Type 0} {d : Ghosts D} (old new : Journal D d) (fault : OpenJournalFault) → fault ≡ NoMemory
    → old.halted ≡ false → new.halted ≡ old.halted
    → Refuses d.files d.uncertain d.moment d.left_since d.fault_count old.disk new.disk fault → Quiet old new
refused_quietly {d = d} old new fault none run same refuses =
    let looks = refuses.unwritten (λ disk. absurd cc) in
    record {
      now = found_before old new looks.same looks.certain;
      told_same = ap (option_map seen) looks.same;
      certain = looks.certain;
      halted_same = same;
      crash = λ all is.
          let raw = told_raw (d.files old.disk) all is in
          refused_of (IsAlikeBut all (uncertain old)) old.disk new.disk fault raw.0 raw.1 (working_finds old all run is) refuses;
    }

-- a journal at work was opened again: it is as it was
pub reopened_quietly : {D : Type 0} {d : Ghosts D} (old new : Journal D d) → old.halted ≡ false → is_some (told old) ≡ true
    → Opens old.disk new → Quiet old new
reopened_quietly {D} {d} old new run tells opens = step (d.files old.disk) refl tells
  where
    quiet : (raw : Files) → d.files old.disk ≡ Some raw → Quiet old new
    quiet raw is =
        let start = start_image (d.files old.disk) (d.uncertain old.disk) raw raw is (old.settled run)
        (itself (d.files old.disk) (d.uncertain old.disk) raw is) in
        let comes : ComesTo raw nothing raw = record { closed = start.closed; opened = start.opened; contents = λ asked kind out. refl } in
        let rest = opens.at_rest raw raw is comes in
        let still = opens.shut raw is ((old.settled run).closed raw is) in
        record {
          told_same = rest_told (d.files new.disk) (d.uncertain new.disk) raw rest ∙ sym (ap (option_map seen) is);
          certain = record { each = λ asked out. still.durable.each asked refl };
          halted_same = opens.running ∙ sym run;
          now = λ found may.
              let there = start_image (d.files new.disk) (d.uncertain new.disk) rest.now may.image rest.is (new.settled opens.running)
              may.left in
              let whole : ComesTo rest.now nothing may.image =
              record {
                closed = there.closed;
                opened = there.opened;
                contents = λ asked kind out. there.contents asked kind (still.durable.each asked refl);
              } in
              let one = found_once may.image found (seen rest.now) may.in_image (record { files = rest.now; comes = whole; is = refl }) in
              record {
                image = raw;
                left = itself (d.files old.disk) (d.uncertain old.disk) raw is;
                in_image = record { files = raw; comes = comes; is = one ∙ seen_alike rest.now raw rest.alike };
              };
          crash = λ all told_is.
              let same : seen raw ≡ all = cc (ap (option_map seen) is, told_is) in
              recovered (IsAlikeBut all (uncertain old)) old.disk new.disk raw (working_finds old all run told_is)
              (record {
                metadata = λ asked kind. ap (λ (f : Files). f asked) same;
                contents = λ asked kind out. ap (λ (f : Files). f asked) same;
              })
              (opens.recovers raw raw is comes);
        }

    step : (files : Option Files) → d.files old.disk ≡ files → is_some (option_map seen files) ≡ true → Quiet old new
    step None is e = absurd (false≢true e)
    step (Some raw) is e = quiet raw is

-- what can be found has P, and so what the disk was opened on
pub reopened_has : {D : Type 0} {told_by : D → Option Files} {uncertain_by : D → FileSet} {moment : D → ℕ}
    {left_since : D → ℕ → Files → Type 0} (P : Files → Type 0) (old new : D)
    → FindsAll (told_by old) (uncertain_by old) P
    → Reopened told_by uncertain_by moment left_since (CanFind (told_by old) (uncertain_by old)) old new
    → Reopened told_by uncertain_by moment left_since P old new
reopened_has {told_by = told_by} {uncertain_by = uncertain_by} P old new start opened = record {
  found = opened.found;
  has = each opened.found opened.has;
  told_is = opened.told_is;
  certain = opened.certain;
  crash = leaves_wider opened.crash (λ image finds. finds_wider (CanFind (told_by old) (uncertain_by old)) P image each finds);
  now = λ image left. finds_wider (CanFind (told_by old) (uncertain_by old)) P image each (opened.now image left);
}
  where
    each : (found : Files) → CanFind (told_by old) (uncertain_by old) found → P found
    each found may = finds_each P may.image found (start may.image may.left) may.in_image

-- what is found to have P can be opened
pub opens_of : (P : Files → Type 0) (told : Option Files) (uncertain : FileSet) → FindsAll told uncertain P → IsOpenable told uncertain
opens_of P told uncertain start = λ image left. finds_wider P (λ (f : Files). ⊤) image (λ found has. tt) (start image left)

-- a disk on which nothing is found but what could be found earlier
pub still_has : (P : Files → Type 0) (before : Option Files) (u : FileSet) (now : Option Files) (v : FileSet) → FindsAll before u P
    → FindsAll now v (CanFind before u) → FindsAll now v P
still_has P before u now v start after =
    λ image left. finds_wider (CanFind before u) P image
    (λ found may. finds_each P may.image found (start may.image may.left) may.in_image) (after image left)
