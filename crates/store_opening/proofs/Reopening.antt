-- A journal that was opened again.
use Rattle.std.specs.Prelude.{is_some, option_map}
use Rattle.std.proofs.Common.{◌≡◌, true, ℕ, List, Option, None, Some, Err, refl, sym, subst, inl, inr, ◌∙◌}
use Rattle.std.proofs.lemmas.Bool.{false≢true}
use Rattle.disk_trait.specs.declared.ids.FileId.{FileId}
use Rattle.disk_trait.specs.declared.disk.Disk.{Ghosts as DiskGhosts}
use Rattle.disk_trait.specs.Files.{Files}
use Rattle.disk_trait.specs.Images.{FileSet, Leaves}
use Rattle.disk_trait.specs.ImagesLaws.{leaves_wider}
use Rattle.pool_name.specs.declared.namer.Namer.{Ghosts as NamerGhosts}
use Rattle.intent_journal.specs.declared.journal.Journal.{Journal}
use Rattle.journal_view.specs.Found.{seen, Finds, FindsAll, CanFind, IsOpenable, Reopened}
use Rattle.journal_view.specs.FoundLaws.{finds_each, finds_wider}
use Rattle.journal_view.specs.OpeningLaws.{reopened_has, opens_of, still_has}
use Rattle.journal_view.specs.View.{told, uncertain, Quiet}
use Rattle.journal_view.specs.ViewLaws.{seen_some}
use Rattle.office_model.specs.Office.{Durable, raised}
use Rattle.store_parts.specs.Held.{IsEither, MayBe}
use Rattle.store_opening.specs.declared.fault.OpenRefusal.{OpenRefusal}
use Rattle.store_opening.specs.declared.fault.OpenRefusal.TheVariants.{Foreign, EpochsSpent, DiskFault, Memory}
use Rattle.store_opening.specs.Recovers.{Holds, IsForeign, SaysForeign}
use Rattle.store_opening.specs.Begins.{MayLeave, IsPlain, Begins}
use Rattle.store_opening.specs.Opens.{IsOf, Left}

pub some_files : (files : Option Files) → is_some (option_map seen files) ≡ true → (raw : Files) × (files ≡ Some raw)
some_files None e = absurd (false≢true e)
some_files (Some raw) e = (raw, refl)

pub seen_tells : (files : Option Files) → is_some files ≡ true → is_some (option_map seen files) ≡ true
seen_tells None e = absurd (false≢true e)
seen_tells (Some raw) e = refl

-- a crash of an opening leaves what could be found before
pub left_has : {D : Type 0} {moment : D → ℕ} {left_since : D → ℕ → Files → Type 0} (P : Files → Type 0) (told : Option Files) (u : FileSet)
    (old new : D) → FindsAll told u P → Leaves moment left_since old new (Finds (CanFind told u))
    → Leaves moment left_since old new (Finds P)
left_has P told u old new start crash =
    leaves_wider crash (λ image finds. finds_wider (CanFind told u) P image
    (λ found may. finds_each P may.image found (start may.image may.left) may.in_image) finds)

module _ {D : Type 0} (d : DiskGhosts D) (digest_of : List ℕ → List ℕ) (old : D) (a b : Durable)
    (start : FindsAll (d.files old) (d.uncertain old) (IsEither digest_of a b)) (raw : (files : Files) × (d.files old ≡ Some files)) where
  pub openable : IsOpenable (d.files old) (d.uncertain old)
  openable = opens_of (IsEither digest_of a b) (d.files old) (d.uncertain old) start

  module _ (new : Journal D d) (done : (all : Files) → d.files old ≡ Some all → IsOpenable (d.files old) (d.uncertain old)
      → Reopened d.files d.uncertain d.moment d.left_since (CanFind (d.files old) (d.uncertain old)) old new.disk) where
    opened : Reopened d.files d.uncertain d.moment d.left_since (IsEither digest_of a b) old new.disk
    opened = reopened_has (IsEither digest_of a b) old new.disk start (done raw.0 raw.1 openable)

    pub again_holds : Holds digest_of new a b
    again_holds = record { all = opened.found; told_is = opened.told_is; either = opened.has; certain = opened.certain }

    pub again_crash : Leaves d.moment d.left_since old new.disk (Finds (MayLeave digest_of a b))
    again_crash = leaves_wider opened.crash (λ image finds. finds_wider (IsEither digest_of a b) (MayLeave digest_of a b) image
        (λ found is. inl is) finds)

  module _ (new : D) (failed : (all : Files) → d.files old ≡ Some all → IsOpenable (d.files old) (d.uncertain old)
      → Leaves d.moment d.left_since old new (Finds (CanFind (d.files old) (d.uncertain old)))
      × FindsAll (d.files new) (d.uncertain new) (CanFind (d.files old) (d.uncertain old))) where
    pub failed_each : FindsAll (d.files new) (d.uncertain new) (IsEither digest_of a b)
    failed_each = still_has (IsEither digest_of a b) (d.files old) (d.uncertain old) (d.files new) (d.uncertain new) start
        (failed raw.0 raw.1 openable).1

    pub failed_crash : Leaves d.moment d.left_since old new (Finds (MayLeave digest_of a b))
    failed_crash =
        leaves_wider (left_has (IsEither digest_of a b) (d.files old) (d.uncertain old) old new start (failed raw.0 raw.1 openable).0)
        (λ image finds. finds_wider (IsEither digest_of a b) (MayLeave digest_of a b) image (λ found is. inl is) finds)

  pub unknown_never : ((all : Files) → d.files old ≡ Some all → IsOpenable (d.files old) (d.uncertain old) → ⊥) → ⊥
  unknown_never never = never raw.0 raw.1 openable

-- the disk wasn't opened
pub begins_unopened : {D N S : Type 0} {d : DiskGhosts D} (n : NamerGhosts N S) (new : Journal D d) (a b : Durable) (refusal : OpenRefusal)
    → ((file : FileId) (found : Option (List ℕ)) → refusal ≡ Foreign file found → ⊥) → (refusal ≡ EpochsSpent → ⊥)
    → MayBe n.digest_of new a b → Begins {n = n} a b (Err refusal) new
begins_unopened n new a b (Foreign file found) known spent may = absurd (known file found refl)
begins_unopened n new a b EpochsSpent known spent may = absurd (spent refl)
begins_unopened n new a b DiskFault known spent may = inl may
begins_unopened n new a b Memory known spent may = may

-- only want of memory is a plain refusal of an opening of a journal
pub plain_memory : (refusal : OpenRefusal) → (refusal ≡ EpochsSpent → ⊥) → IsPlain refusal → refusal ≡ Memory
plain_memory (Foreign file found) spent plain = absurd plain
plain_memory EpochsSpent spent plain = absurd (spent refl)
plain_memory DiskFault spent plain = absurd plain
plain_memory Memory spent plain = refl

pub plain_not : (refusal : OpenRefusal) → IsPlain refusal → refusal ≡ DiskFault → ⊥
plain_not refusal plain e = subst IsPlain e plain

-- what a journal leaves of two offices, its disk leaves
may_disk : {D : Type 0} {d : DiskGhosts D} (digest_of : List ℕ → List ℕ) (journal : Journal D d) (a b : Durable)
    → MayBe digest_of journal a b
    → IsOf digest_of (d.files journal.disk) (d.uncertain journal.disk) a b
may_disk {d = d} digest_of journal a b may = record { each = may.each; tells = seen_some (d.files journal.disk) may.tells }

pub left_of : {D N S : Type 0} {d : DiskGhosts D} (n : NamerGhosts N S) (journal : Journal D d) (a b : Durable) (refusal : OpenRefusal)
    → Begins {n = n} a b (Err refusal) journal
    → Left n.digest_of (d.files journal.disk) (d.uncertain journal.disk) a b refusal
left_of n journal a b (Foreign file found) begins = begins
left_of n journal a b EpochsSpent begins =
    (record { office = begins.office; is_one = begins.is_one; last = begins.last }, may_disk n.digest_of journal a b begins.now)
left_of n journal a b DiskFault (inl may) = inl (may_disk n.digest_of journal a b may)
left_of n journal a b DiskFault (inr w) = inr (w.0, w.1, may_disk n.digest_of journal w.0 (raised w.0) w.2)
left_of n journal a b Memory begins = may_disk n.digest_of journal a b begins

-- the journal wasn't opened
pub left_unopened : (digest_of : List ℕ → List ℕ) (told : Option Files) (uncertain : FileSet) (a b : Durable) (refusal : OpenRefusal)
    → ((file : FileId) (found : Option (List ℕ)) → refusal ≡ Foreign file found → ⊥) → (refusal ≡ EpochsSpent → ⊥)
    → IsOf digest_of told uncertain a b → Left digest_of told uncertain a b refusal
left_unopened digest_of told uncertain a b (Foreign file found) known spent is = absurd (known file found refl)
left_unopened digest_of told uncertain a b EpochsSpent known spent is = absurd (spent refl)
left_unopened digest_of told uncertain a b DiskFault known spent is = inl is
left_unopened digest_of told uncertain a b Memory known spent is = is

pub told_files : (files : Option Files) → is_some files ≡ true → (raw : Files) × (files ≡ Some raw)
told_files None e = absurd (false≢true e)
told_files (Some raw) e = (raw, refl)

-- the same of another name of the disk
pub left_at : {D : Type 0} (d : DiskGhosts D) (digest_of : List ℕ → List ℕ) (a b : Durable) (refusal : OpenRefusal) (disk other : D)
    → other ≡ disk → Left digest_of (d.files disk) (d.uncertain disk) a b refusal
    → Left digest_of (d.files other) (d.uncertain other) a b refusal
left_at d digest_of a b refusal disk other same left =
    subst (λ (x : _). Left digest_of (d.files x) (d.uncertain x) a b refusal) (sym same) left

-- what is foreign was not written over
pub still_foreign : {D : Type 0} {d : DiskGhosts D} (old new : Journal D d) (file : FileId) (found : Option (List ℕ))
    (refusal : OpenRefusal)
    → refusal ≡ Foreign file found → ((refusal ≡ DiskFault → ⊥) → Quiet old new) → SaysForeign (told old) refusal
    → IsForeign (told new) file found
still_foreign old new file found refusal e quiet says =
    subst (λ (t : Option Files). IsForeign t file found)
    (sym (quiet (λ fault. let clash : Foreign file found ≡ DiskFault = sym e ∙ fault in cc)).told_same)
    (says file found e)

-- nor behind it, when the disk came back
pub closed_foreign : {D : Type 0} {d : DiskGhosts D} (old new : Journal D d) (disk : D) (file : FileId) (found : Option (List ℕ))
    (refusal : OpenRefusal) → disk ≡ new.disk → refusal ≡ Foreign file found → ((refusal ≡ DiskFault → ⊥) → Quiet old new)
    → SaysForeign (told old) refusal → IsForeign (option_map seen (d.files disk)) file found
closed_foreign {D} {d} old new disk file found refusal same e quiet says =
    subst (λ (k : D). IsForeign (option_map seen (d.files k)) file found) (sym same) (still_foreign old new file found refusal e quiet says)
