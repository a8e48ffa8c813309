-- Laws of what a migration says of the files.
--     said_broken, said_damaged, said_unwritten      of a refusal: a broken rule, one of the plan, one of the commit
--     said_nothing, said_migrated      no table is of the first layout; they were written
use Rattle.std.specs.Prelude.{◌≡◌, ℕ, List, [], Some, Ok, Err, option_map}
use Rattle.std.specs.Result.{IsErrAnd}
use Rattle.std.proofs.Common.{sym, ap, ◌∙◌, subst}
use Rattle.disk_trait.specs.declared.disk.Disk.{Ghosts as DiskGhosts}
use Rattle.disk_trait.specs.Files.{Files}
use Rattle.pool_name.specs.declared.namer.Namer.{Ghosts as NamerGhosts}
use Rattle.intent_journal.specs.declared.changes.Change.{Change}
use Rattle.intent_journal.specs.Changes.{applied}
use Rattle.journal_view.specs.View.{told}
use Rattle.backup_index.specs.Index.{Index as HostIndex}
use Rattle.office_model.specs.declared.answer.Answer.{Answer}
use Rattle.office_model.specs.declared.refusal.BrokenRule.{BrokenRule}
use Rattle.office_model.specs.declared.refusal.Refusal.{Refusal}
use Rattle.office_model.specs.declared.refusal.Refusal.TheVariants as R
use Rattle.office_model.specs.Meaning.{Reply}
use Rattle.store_parts.specs.declared.parts.StoreParts.{StoreParts}
use Rattle.store_parts.specs.Writes.{IsWriteFault, Writes}
use Rattle.store_migrations.specs.Migrated.{IsPlanned, IsPlanFault, IsMigrated}
use Rattle.store_migrations.specs.Called.{IsHostHere, IsRead, SaysOfMigration}
use Rattle.store_migrations.specs.WrittenLaws.{migrated, none_of_first}

module _ {D N S : Type 0} {d : DiskGhosts D} {n : NamerGhosts N S} where
  pub said_broken : (old new : StoreParts D N S d n) (name : List ℕ) (reply : Reply) (rule : BrokenRule)
      → IsErrAnd reply (λ refusal. refusal ≡ R.Broken rule) → SaysOfMigration old name reply new
  said_broken old new name (Ok answer) rule is = absurd is
  said_broken old new name (Err refusal) rule is = subst (λ (r : Refusal). SaysOfMigration old name (Err r) new) (sym is) tt

  pub said_unwritten : (old new : StoreParts D N S d n) (name : List ℕ) (refusal : Refusal) → IsWriteFault refusal
      → SaysOfMigration old name (Err refusal) new
  said_unwritten old new name R.DiskFault fault = tt
  said_unwritten old new name R.Memory fault = tt
  said_unwritten old new name (R.Damaged file found) fault = absurd fault
  said_unwritten old new name (R.Broken rule) fault = tt
  said_unwritten old new name R.Halted fault = tt

  module _ (old : StoreParts D N S d n) (name : List ℕ) (place : ℕ) (index : HostIndex) (here : IsHostHere old.catalog name place index) where
    pub said_damaged : (mid : StoreParts D N S d n) (refusal : Refusal) → IsRead old mid
        → IsPlanFault (told old.journal) old.catalog place refusal → SaysOfMigration old name (Err refusal) mid
    said_damaged mid R.DiskFault read fault = tt
    said_damaged mid R.Memory read fault = tt
    said_damaged mid (R.Damaged file found) read fault =
        record { place = place; index = index; host = here; damaged = fault index here.here; read = read }
    said_damaged mid (R.Broken rule) read fault = tt
    said_damaged mid R.Halted read fault = tt

    module _ (changes : List Change) (planned : IsPlanned (told old.journal) place index.lines changes) where
      is_migrated : (all : Files) → told old.journal ≡ Some all → IsMigrated place index.lines all (applied changes all)
      is_migrated all is =
          subst (λ (cs : List Change). IsMigrated place index.lines all (applied cs all)) (sym planned.are)
          (migrated all place index.lines planned.files (planned.there all is))

      pub said_nothing : (answer : Answer) (mid : StoreParts D N S d n) → IsRead old mid → changes ≡ [] → SaysOfMigration old name (Ok answer) mid
      said_nothing answer mid read none = record {
        place = place;
        index = index;
        host = here;
        migrated = λ all is. (
          all,
          read.quiet.told_same ∙ is,
          subst (λ (cs : List Change). IsMigrated place index.lines all (applied cs all)) none (is_migrated all is),
        );
        still = λ all is second. read;
      }

      pub said_migrated : (answer : Answer) (start new : StoreParts D N S d n) (done : Unit {0}) → IsRead old start
          → Writes start changes (Ok done) new → (changes ≡ [] → ⊥) → SaysOfMigration old name (Ok answer) new
      said_migrated answer start new done read w some = record {
        place = place;
        index = index;
        host = here;
        migrated = λ all is. (
          applied changes all,
          w.committed.done ∙ ap (option_map (applied changes)) (read.quiet.told_same ∙ is),
          is_migrated all is,
        );
        still = λ all is second.
            absurd (some (planned.are ∙ none_of_first all place index.lines planned.files (planned.there all is) second));
      }
