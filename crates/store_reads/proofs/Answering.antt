-- An event that reads and changes nothing: it was judged, and answers with what it was judged to be.
use Rattle.std.specs.Prelude.{◌≡◌, false, Result, Ok, Err}
use Rattle.std.proofs.Common.{refl, ap, ◌∙◌}
use Rattle.fault_counts.specs.Counts.{Counted}
use Rattle.disk_trait.specs.declared.disk.Disk.{Ghosts as DiskGhosts}
use Rattle.pool_name.specs.declared.namer.Namer.{Ghosts as NamerGhosts}
use Rattle.office_model.specs.declared.answer.Answer.{Answer}
use Rattle.office_model.specs.declared.event.Event.{Event}
use Rattle.office_model.specs.declared.refusal.Refusal.{Refusal}
use Rattle.office_model.specs.declared.refusal.Refusal.TheVariants.{Broken, Halted, DiskFault, Damaged, Memory}
use Rattle.office_model.specs.Office.{Office, Names}
use Rattle.office_model.specs.Meaning.{Judged, ◌>>=◌, Reads as ReadsFiles}
use Rattle.office_model.specs.Step.{IsAnswerTo, meaning_of}
use Rattle.office_model.specs.UsedNames.{AreNamesAfter}
use Rattle.store_parts.specs.declared.parts.StoreParts.{StoreParts}
use Rattle.store_parts.specs.States.{IsRunning}
use Rattle.store_parts.specs.Runs.{Reads, Runs}
use Rattle.store_parts.specs.StepLaws.{carried_plain}
use Rattle.store_parts.specs.RunLaws.{counted_fine, runs_reads, runs_refused, runs_memory, runs_read_fault}
use Rattle.store_reads.specs.Shown.{Answers, IsRefusal}

-- a call failed by a fault of the disk
abbrev pub Failed : {T : Type 0} → Result T Refusal → Type 0
Failed {T} reply = reply ≡ Err DiskFault

pub not_failed : {T : Type 0} (x : T) → Failed (Ok x) → ⊥
not_failed x e = cc

-- an answer isn't a fault of the disk
pub answers_fine : {A T : Type 0} (judged : Judged A) (refusal : Refusal) → Answers {A = A} judged (Err refusal)
    → Failed {T = T} (Err refusal) → ⊥
answers_fine judged DiskFault answers e = answers
answers_fine judged Memory answers e = cc
answers_fine judged (Broken rule) answers e = cc
answers_fine judged Halted answers e = answers
answers_fine judged (Damaged file found) answers e = answers

module _ {D N S : Type 0} {d : DiskGhosts D} {n : NamerGhosts N S} where
  -- what breaks a rule first breaks it in the end
  pub refused_later : {A B : Type 0} (parts : StoreParts D N S d n) (judged : Office → Judged A) (then : A → Judged B) (refusal : Refusal)
      → IsRefusal parts judged refusal → IsRefusal parts (λ office. judged office >>= then) refusal
  refused_later parts judged then (Broken rule) is = λ office names at. ap (λ j. j >>= then) (is office names at)
  refused_later parts judged then (Damaged file found) is = is
  refused_later parts judged then DiskFault is = tt
  refused_later parts judged then Memory is = tt
  refused_later parts judged then Halted is = absurd is

  -- what a record answers
  pub refused_answer : {A : Type 0} (parts : StoreParts D N S d n) (judged : Office → Judged A) (told : Judged A) (refusal : Refusal)
      → ((office : Office) (names : Names) → IsRunning parts office names → judged office ≡ told) → Answers {A = A} told (Err refusal)
      → IsRefusal parts judged refusal
  refused_answer parts judged told (Broken rule) same answers = λ office names at. same office names at ∙ answers
  refused_answer parts judged told Memory same answers = tt
  refused_answer parts judged told DiskFault same answers = absurd answers
  refused_answer parts judged told Halted same answers = absurd answers
  refused_answer parts judged told (Damaged file found) same answers = absurd answers

  module _ {A : Type 0} (old : StoreParts D N S d n) (event : Event) (judged : Office → Judged A) (f : A → Answer)
      (means : (office : Office) (names : Names) → (meaning_of event).carried office names
      ≡ (judged office >>= λ x. Ok (record { answer = f x; after = office })))
      (touches : (office : Office) (names : Names) → (meaning_of event).touches office names ≡ ReadsFiles)
      (unnamed : (office : Office) (names : Names) (answer : Answer) → AreNamesAfter office names (meaning_of event) (Ok answer) names)
      (in_kind : (x : A) → IsAnswerTo event (f x)) (plain : (meaning_of event).pools ≡ false) where
    carried_is : (office : Office) (names : Names) (told : Judged A) → judged office ≡ told
        → (meaning_of event).carried office names ≡ (told >>= λ x. Ok (record { answer = f x; after = office }))
    carried_is office names told e =
        means office names ∙ ap (λ (j : Judged A). j >>= λ x. Ok (record { answer = f x; after = office })) e

    pub runs_ok : (new : StoreParts D N S d n) (x : A) {failed : Type 0} → Reads old new
        → ((office : Office) (names : Names) → IsRunning old office names → judged office ≡ Ok x)
        → Counted (d.fault_count old.journal.disk) (d.fault_count new.journal.disk) failed → (failed → ⊥) → Runs old event (Ok (f x)) new
    runs_ok new x reads is counted fine =
        runs_reads old new event (Ok (f x)) reads
        (λ office names at. (
          carried_plain event office names (record { answer = f x; after = office }) plain (carried_is office names (Ok x) (is office names at)),
          unnamed office names (f x),
        )) (λ office names at. tt) (in_kind x)
        (λ e. absurd cc) (counted_fine counted fine (λ e. absurd cc))

    pub runs_err : {T : Type 0} (new : StoreParts D N S d n) (refusal : Refusal) → Reads old new → IsRefusal old judged refusal
        → Counted (d.fault_count old.journal.disk) (d.fault_count new.journal.disk) (Failed {T = T} (Err refusal))
        → Runs old event (Err refusal) new
    runs_err new (Broken rule) reads is counted =
        runs_refused old new event rule reads (λ office names at. carried_is office names (Err rule) (is office names at))
        (counted_fine counted (λ e. cc) (λ e. e))
    runs_err new (Damaged file found) reads is counted =
        runs_reads old new event (Err (Damaged file found)) reads (λ office names at. absurd (is office names at))
        (λ office names at. absurd (is office names at)) tt (λ e. absurd cc)
        (counted_fine counted (λ e. cc) (λ e. cc))
    runs_err new DiskFault reads is counted = runs_read_fault old new event reads touches counted refl
    runs_err new Memory reads is counted = runs_memory old new event reads (counted_fine counted (λ e. cc) (λ e. e))
    runs_err new Halted reads is counted = absurd is
