-- What a refusal of a plan comes to.
--     part_damaged      a table of the part is one of the host's
--     plan_fault      a fault of reading a table is one of the plan
--     plan_awake      it isn't that the store is halted
use Rattle.std.specs.Prelude.{◌≡◌, ℕ, ◌+◌, List, Option, Some, slice_get}
use Rattle.std.proofs.Common.{refl, sym, ◌∙◌, subst}
use Rattle.disk_trait.specs.Files.{Files}
use Rattle.backup_rules.specs.declared.lines.Line.{Line}
use Rattle.backup_index.specs.Index.{Index as HostIndex}
use Rattle.backup_views.specs.Faults.{IsDamaged, SaysOneDamaged}
use Rattle.backup_views.specs.declared.fault.ViewFault.{ViewFault}
use Rattle.backup_views.specs.declared.fault.ViewFault.TheVariants as V
use Rattle.backup_delete.specs.Windows.{part}
use Rattle.office_catalog.specs.Known.{Known}
use Rattle.office_model.specs.declared.refusal.Refusal.{Refusal}
use Rattle.office_model.specs.declared.refusal.Refusal.TheVariants as R
use Rattle.store_parts.specs.Refusals.{refusal_of_view}
use Rattle.store_deletions.specs.Planned.{IsPlanFault}
use Rattle.store_deletions.specs.PartLaws.{slice_get-part}

some_same : {A : Type 0} (x y : A) → Some x ≡ Some y → x ≡ y
some_same x y e = cc

pub part_damaged : (told : Option Files) (host first end : ℕ) (lines : List Line) (fault : ViewFault)
    → SaysOneDamaged told host (part first end lines) fault → SaysOneDamaged told host lines fault
part_damaged told host first end lines fault says = λ file found is.
    let d = says file found is in
    record {
      index = first + d.index;
      line = d.line;
      is_line = slice_get-part first end lines d.index d.line d.is_line;
      file_is = d.file_is;
      no_table = d.no_table;
    }

pub plan_fault : (told : Option Files) (catalog : Known) (host file : ℕ) (index : HostIndex) (fault : ViewFault)
    → slice_get catalog.hosts host ≡ Some index → file ≡ host
    → SaysOneDamaged told file index.lines fault → IsPlanFault told catalog host (refusal_of_view fault)
plan_fault told catalog host file index V.Disk here same says = tt
plan_fault told catalog host file index V.Memory here same says = tt
plan_fault told catalog host file index (V.Damaged found bytes) here same says = λ other e.
    subst (λ (i : HostIndex). IsDamaged told host i.lines found bytes) (some_same index other (sym here ∙ e))
    (subst (λ (h : ℕ). IsDamaged told h index.lines found bytes) same (says found bytes refl))

-- it isn't that the store is halted
pub plan_awake : (told : Option Files) (catalog : Known) (host : ℕ) (refusal : Refusal) → IsPlanFault told catalog host refusal
    → refusal ≡ R.Halted → ⊥
plan_awake told catalog host (R.Broken rule) fault e = fault
plan_awake told catalog host R.Halted fault e = fault
plan_awake told catalog host R.DiskFault fault e = cc
plan_awake told catalog host (R.Damaged file found) fault e = cc
plan_awake told catalog host R.Memory fault e = cc
