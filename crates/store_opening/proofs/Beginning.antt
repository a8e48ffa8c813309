-- How an opening goes, of files that stand for one of two offices.
use Rattle.std.specs.Prelude.{is_some, ◌⊎◌}
use Rattle.std.proofs.Common.{◌≡◌, ℕ, ◌<◌, ◌≤◌, false, List, Option, Some, Err, refl, sym, ap, ◌∙◌, subst, inl, inr}
use Rattle.disk_trait.specs.declared.ids.PoolId.{PoolId}
use Rattle.disk_trait.specs.declared.ids.FileId.{FileId}
use Rattle.disk_trait.specs.declared.ids.FileId.TheVariants as F
use Rattle.disk_trait.specs.declared.disk.Disk.{Ghosts as DiskGhosts}
use Rattle.disk_trait.specs.Files.{Files}
use Rattle.disk_trait.specs.Images.{FileSet}
use Rattle.pool_name.specs.declared.namer.Namer.{Ghosts as NamerGhosts}
use Rattle.intent_journal.specs.declared.journal.Journal.{Journal}
use Rattle.journal_view.specs.Found.{IsAlikeBut}
use Rattle.journal_view.specs.View.{told, uncertain, Quiet, FindsNow, FindsOnly}
use Rattle.journal_view.specs.ViewLaws.{FindsOnly-each, FindsOnly-then, FindsNow-each, working_finds, Quiet-then}
use Rattle.pool_changes.specs.Kept.{slots_of, IsSame}
use Rattle.pool_store.specs.Opened.{IsFresh}
use Rattle.office_model.specs.Office.{Durable, Names, raised, last_sequence}
use Rattle.office_model.specs.Step.{IsPicked}
use Rattle.office_files.specs.Stands.{StandsFor}
use Rattle.office_catalog.specs.Known.{Known}
use Rattle.store_parts.specs.Held.{IsEither, IsStored, MayBe}
use Rattle.store_parts.specs.StoredLaws.{alike_stands}
use Rattle.store_opening.specs.declared.found.Found.{Found}
use Rattle.store_opening.specs.declared.fault.OpenRefusal.{OpenRefusal}
use Rattle.store_opening.specs.declared.fault.OpenRefusal.TheVariants.{Foreign, EpochsSpent, DiskFault, Memory}
use Rattle.store_opening.specs.KeptTables.{HasTablesOf}
use Rattle.store_opening.specs.KeptTablesLaws.{tables_told}
use Rattle.store_opening.specs.Recovers.{Holds, IsHeld, Looks, Recovers}
use Rattle.store_opening.specs.Begins.{MayLeave, IsPlain, IsSpent, Raised, Begins}
use Rattle.store_opening.proofs.OldHosts.{older_raised}

-- what stands for one of two offices, of which one was picked, stands for one of the two
pub either_of : (digest_of : List ℕ → List ℕ) (a b office : Durable) → IsPicked a b office → (found : Files)
    → IsEither digest_of office (raised office) found → MayLeave digest_of a b found
either_of digest_of a b office (inl e) found (inl s) = inl (inl (subst (StandsFor digest_of found) e s))
either_of digest_of a b office (inl e) found (inr s) = inr (inl (subst (λ (o : Durable). StandsFor digest_of found (raised o)) e s))
either_of digest_of a b office (inr e) found (inl s) = inl (inr (subst (StandsFor digest_of found) e s))
either_of digest_of a b office (inr e) found (inr s) = inr (inr (subst (λ (o : Durable). StandsFor digest_of found (raised o)) e s))

module _ {D : Type 0} {d : DiskGhosts D} (digest_of : List ℕ → List ℕ) (old : Journal D d) (a b : Durable)
    (holds : Holds digest_of old a b) where
  -- each content is durable, so what is found stands for one of the two
  alike_either : (out : FileSet) → ((id : PoolId) → out (F.Pool id) ≡ false) → (found : Files) → IsAlikeBut holds.all out found
      → IsEither digest_of a b found
  alike_either out certain found alike = elim holds.either [
    | inl s ↦ inl (alike_stands digest_of s.index s.shown holds.all found a out (λ id listed. certain id) s.stands alike)
    | inr s ↦ inr (alike_stands digest_of s.index s.shown holds.all found b out (λ id listed. certain id) s.stands alike)
  ]

  certain_before : (id : PoolId) → uncertain old (F.Pool id) ≡ false
  certain_before id = holds.certain.each (F.Pool id) refl

  pub may_still : (new : Journal D d) → old.halted ≡ false → Quiet old new → MayBe digest_of new a b
  may_still new ready quiet = record {
    each = FindsNow-each (IsAlikeBut holds.all (uncertain new)) (IsEither digest_of a b) new
        (alike_either (uncertain new) (λ id. quiet.certain.each (F.Pool id) (certain_before id)))
        (working_finds new holds.all (quiet.halted_same ∙ ready) (quiet.told_same ∙ holds.told_is));
    tells = ap is_some (quiet.told_same ∙ holds.told_is);
  }

  pub crash_still : (new : Journal D d) → Quiet old new → FindsOnly old new (MayLeave digest_of a b)
  crash_still new quiet =
      FindsOnly-each (IsAlikeBut holds.all (uncertain old)) (MayLeave digest_of a b) old new
      (λ found alike. inl (alike_either (uncertain old) certain_before found alike))
      (quiet.crash holds.all holds.told_is)

module _ {D N S : Type 0} {d : DiskGhosts D} (n : NamerGhosts N S) (old : Journal D d) (a b : Durable) (holds : Holds n.digest_of old a b)
    (ready : old.halted ≡ false) where
  -- nothing was found
  pub begins_not : (new : Journal D d) (refusal : OpenRefusal)
      → ((file : FileId) (found : Option (List ℕ)) → refusal ≡ Foreign file found → ⊥) → (refusal ≡ EpochsSpent → ⊥) → Quiet old new
      → Begins {n = n} a b (Err refusal) new
  begins_not new (Foreign file found) known spent quiet = absurd (known file found refl)
  begins_not new EpochsSpent known spent quiet = absurd (spent refl)
  begins_not new DiskFault known spent quiet = inl (may_still n.digest_of old a b holds new ready quiet)
  begins_not new Memory known spent quiet = may_still n.digest_of old a b holds new ready quiet

  module _ (mid : Journal D d) (found : Found N S n) (recovers : Recovers mid found a b) (quiet : Quiet old mid) where
    pub epoch_is : found.catalog.epoch ≡ recovers.office.epoch
    epoch_is = ap (λ (k : Known). k.epoch) recovers.stored.catalog_is

    pub begins_spent : (epoch : ℕ) → epoch ≡ found.catalog.epoch → last_sequence ≤ epoch → IsSpent n.digest_of a b mid
    begins_spent epoch read last = record {
      office = recovers.office;
      is_one = recovers.is_one;
      last = subst (λ (e : ℕ). last_sequence ≤ e) (read ∙ epoch_is) last;
      now = may_still n.digest_of old a b holds mid ready quiet;
    }

    unfoldable pub begins_raised : (new : Journal D d) (next : Found N S n) (epoch : ℕ) → epoch ≡ found.catalog.epoch → epoch < last_sequence
        → IsSame (slots_of found.pool.names) (slots_of next.pool.names)
        → ((office : Durable) (names : Names) → IsHeld mid found.pool found.catalog found.counts found.partials office names
        → IsHeld new next.pool next.catalog next.counts next.partials (raised office) names)
        → ((all : Files) → told mid ≡ Some all → FindsNow new (HasTablesOf all)) → Raised new next a b
    begins_raised new next epoch read room same held tables = record {
      office = recovers.office;
      is_one = recovers.is_one;
      room = subst (λ (e : ℕ). e < last_sequence) (read ∙ epoch_is) room;
      sound = recovers.stored.stands.sound;
      names = recovers.names;
      held = held recovers.office recovers.names recovers.held;
      older = older_raised mid new recovers.stored.all recovers.stored.told_is
          (held recovers.office recovers.names recovers.held).stored.journal_ready
          (tables recovers.stored.all recovers.stored.told_is) recovers.names.old_hosts recovers.older;
      fresh = λ id. subst IsFresh (sym (same id)) (recovers.fresh id);
    }

    module _ (new : Journal D d) (looks : (office : Durable) (names : Names) → IsStored mid found.pool found.catalog office names
        → Looks n.digest_of mid new office (raised office)) where
      abbrev ours : Looks n.digest_of mid new recovers.office (raised recovers.office)
      ours = looks recovers.office recovers.names recovers.stored

      pub begins_between : (refusal : OpenRefusal) → (refusal ≡ DiskFault) ⊎ (refusal ≡ Memory) → (refusal ≡ Memory → Quiet mid new)
          → Begins {n = n} a b (Err refusal) new
      begins_between refusal kind memory = elim kind [
        | inl e ↦ subst (λ (r : OpenRefusal). Begins {n = n} a b (Err r) new) (sym e) (inr (recovers.office, recovers.is_one, ours.now))
        | inr e ↦ subst (λ (r : OpenRefusal). Begins {n = n} a b (Err r) new) (sym e)
            (may_still n.digest_of old a b holds new ready (Quiet-then old mid new quiet (memory e)))
      ]

      pub begins_crash : FindsOnly old new (MayLeave n.digest_of a b)
      begins_crash =
          FindsOnly-then (MayLeave n.digest_of a b) old mid new (crash_still n.digest_of old a b holds mid quiet)
          (FindsOnly-each (IsEither n.digest_of recovers.office (raised recovers.office)) (MayLeave n.digest_of a b) mid new
          (either_of n.digest_of a b recovers.office recovers.is_one) ours.crash)

-- nothing was written, and no table
pub tables_still : {D : Type 0} {d : DiskGhosts D} (old new : Journal D d) → old.halted ≡ false → Quiet old new → (all : Files)
    → told old ≡ Some all → FindsNow new (HasTablesOf all)
tables_still old new ready quiet all is = tables_told new all (quiet.halted_same ∙ ready) (quiet.told_same ∙ is)

-- a fault of a commit that isn't plain, or that wrote nothing
pub plain_quiet : {D : Type 0} {d : DiskGhosts D} (old mid new : Journal D d) (refusal : OpenRefusal)
    → (refusal ≡ DiskFault) ⊎ (refusal ≡ Memory)
    → Quiet old mid → (refusal ≡ Memory → Quiet mid new) → IsPlain refusal → Quiet old new
plain_quiet old mid new refusal (inl e) quiet memory plain = absurd (subst IsPlain e plain)
plain_quiet old mid new refusal (inr e) quiet memory plain = Quiet-then old mid new quiet (memory e)
