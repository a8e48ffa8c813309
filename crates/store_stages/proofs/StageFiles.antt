-- What the file of a stage holds.
--     staged_is      the bytes of the stage
--     not_lost      so it isn't lost
--     takes_name      a name of a content is one of its bytes
--     says_lost      a file that is lost is absent, or has another number of bytes
use Rattle.std.specs.Prelude.{◌≡◌, ◌≢◌, ℕ, ◌<◌, ◌==◌, ◌⊎◌, List, length, Option, Some, Err, option_map, slice_get}
use Rattle.std.proofs.Common.{refl, sym, ap, ◌∙◌, subst, inl, inr}
use Rattle.std.proofs.lemmas.Bool.Decides.{Decides-eqb}
use Rattle.disk_trait.specs.declared.disk.Disk.{Ghosts as DiskGhosts}
use Rattle.disk_trait.specs.declared.ids.PoolId.{PoolId}
use Rattle.disk_trait.specs.declared.ids.FileId.{FileId}
use Rattle.disk_trait.specs.declared.ids.FileId.TheVariants as F
use Rattle.disk_trait.specs.Files.{Files}
use Rattle.pool_name.specs.declared.namer.Namer.{Ghosts as NamerGhosts}
use Rattle.intent_journal.specs.declared.journal.Journal.{Journal}
use Rattle.journal_view.specs.Found.{seen}
use Rattle.journal_view.specs.FoundLaws.{told_raw, seen_there}
use Rattle.journal_view.specs.View.{told}
use Rattle.pool_store.specs.declared.fault.PoolFault.{PoolFault}
use Rattle.pool_store.specs.declared.fault.PoolFault.TheVariants as P
use Rattle.pool_changes.specs.Slots.{Slots}
use Rattle.pool_store.specs.Pools.{Takes, IsNotForeign}
use Rattle.pool_store.specs.Sources.{IsStaged, IsStageLost, SaysStageLost}
use Rattle.open_sessions.specs.declared.stages.OpenStage.{OpenStage}
use Rattle.open_sessions.specs.Opened.{IsStage}
use Rattle.office_model.specs.declared.refusal.Refusal.{Refusal}
use Rattle.office_model.specs.Office.{Stage}
use Rattle.office_model.specs.PlacesLaws.{position-found}
use Rattle.store_parts.specs.declared.parts.StoreParts.{StoreParts}
use Rattle.store_parts.specs.Refusals.{refusal_of_pool}
use Rattle.store_parts.specs.FoundLaws.{stage_place}
use Rattle.store_dumps.specs.Putting.{TakesName}
use Rattle.store_stages.specs.Losing.{NamesLost}

-- what is told of a file is what the disk holds
raw_file : (raw : Option Files) (all : Files) (number : ℕ) (content : List ℕ) → option_map seen raw ≡ Some all
    → all (F.Stage number) ≡ Some content → (files : Files) → raw ≡ Some files → files (F.Stage number) ≡ Some content
raw_file raw all number content told_is holds files e =
    let found : Some (seen files) ≡ Some all = sym (ap (option_map seen) e) ∙ told_is in
    let same : seen files ≡ all = cc in
    sym (seen_there files (F.Stage number) refl) ∙ ap (λ (f : Files). f (F.Stage number)) same ∙ holds

module _ {D S : Type 0} {d : DiskGhosts D} (holds : S → List ℕ → Type 0) (journal : Journal D d) (all : Files) (stage : Stage)
    (held : OpenStage S) (told_is : told journal ≡ Some all) (is : IsStage holds (λ k. all (F.Stage k)) stage held) where
  pub staged_is : 0 < held.size → IsStaged (d.files journal.disk) held.number held.size stage.bytes
  staged_is some = record {
    there = raw_file (d.files journal.disk) all held.number stage.bytes told_is
        (ap (λ (k : ℕ). all (F.Stage k)) is.number ∙ is.file (subst (λ (k : ℕ). 0 < k) is.size some));
    size_is = sym is.size;
  }

  pub not_lost : 0 < held.size → (fault : PoolFault) → SaysStageLost held.number held.size (d.files journal.disk) fault → IsNotForeign fault
  not_lost some (P.Foreign file found) says =
      let raw = told_raw (d.files journal.disk) all told_is in
      (says file found refl).never raw.0 stage.bytes raw.1 (staged_is some)
  not_lost some P.Disk says = tt
  not_lost some P.Memory says = tt
  not_lost some (P.Damaged id found) says = tt
  not_lost some P.ChainFull says = tt

step_name : {A B C : Type 0} → C → A ⊎ B → A ⊎ (B × C)
step_name c (inl a) = inl a
step_name c (inr b) = inr (b, c)

pub takes_name : (digest_of : List ℕ → List ℕ) (old new : Slots) (told told' : Option Files) (id : PoolId) (content : List ℕ)
    → Takes digest_of old new told told' id content → TakesName digest_of old new told told' id content
takes_name digest_of old new told told' id content takes = step_name takes.digest takes.either

lost_is : {D : Type 0} {d : DiskGhosts D} (journal : Journal D d) (number size : ℕ) (file : FileId)
    → IsStageLost number size (d.files journal.disk) file → (all : Files) (content : List ℕ) → told journal ≡ Some all
    → all file ≡ Some content → length content ≢ size
lost_is {d = d} journal number size file lost all content told_is holds same =
    let raw = told_raw (d.files journal.disk) all told_is in
    lost.never raw.0 content raw.1 (record {
      there = raw_file (d.files journal.disk) all number content told_is (ap all (sym lost.is) ∙ holds);
      size_is = same;
    })

module _ {D N S : Type 0} {d : DiskGhosts D} {n : NamerGhosts N S} where
  names_lost : (old : StoreParts D N S d n) (number index : ℕ) (held : OpenStage S) → Some index ≡ stage_place old number
      → slice_get old.sessions.stages.items.items index ≡ Some held → (fault : PoolFault)
      → SaysStageLost held.number held.size (d.files old.journal.disk) fault
      → ((id : PoolId) (found : Option (List ℕ)) → fault ≡ P.Damaged id found → ⊥) → NamesLost old number (Err (refusal_of_pool fault))
  names_lost old number index held e there (P.Foreign file found) lost undamaged =
      let is = lost file found refl in
      let first = position-found (λ (stage : OpenStage S). stage.number == number) old.sessions.stages.items.items index (sym e) in
      let same : first.0 ≡ held = let a = first.1 in cc in
      let number_is : held.number ≡ number =
      ap (λ (stage : OpenStage S). stage.number) (sym same) ∙ (Decides-eqb first.0.number number).0 first.2 in
      record {
        at = index;
        held = held;
        place = e;
        there = there;
        is = is.is ∙ ap F.Stage number_is;
        other = lost_is old.journal held.number held.size file is;
      }
  names_lost old number index held e there P.Disk lost undamaged = tt
  names_lost old number index held e there P.Memory lost undamaged = tt
  names_lost old number index held e there (P.Damaged id found) lost undamaged = absurd (undamaged id found refl)
  names_lost old number index held e there P.ChainFull lost undamaged = tt

  pub says_lost : (old : StoreParts D N S d n) (number index : ℕ) (held : OpenStage S) → Some index ≡ stage_place old number
      → slice_get old.sessions.stages.items.items index ≡ Some held → (refusal : Refusal) (fault : PoolFault) → refusal ≡ refusal_of_pool fault
      → SaysStageLost held.number held.size (d.files old.journal.disk) fault
      → ((id : PoolId) (found : Option (List ℕ)) → fault ≡ P.Damaged id found → ⊥) → NamesLost old number (Err refusal)
  says_lost old number index held e there refusal fault is lost undamaged =
      subst (λ (r : Refusal). NamesLost old number (Err r)) (sym is) (names_lost old number index held e there fault lost undamaged)
