use Rattle.std.proofs.Common.{◌∙◌, refl, sym, subst, arith}
use Rattle.folder_trait.specs.declared.folder.FolderFault.TheVariants as F
use Rattle.folder_restore.specs.declared.refusals.RestoreRefusal.TheVariants as R
use Rattle.folder_restore.specs.Restores.{Stopped}
use Rattle.folder_restore.proofs.RestoreSteps.{uncalled, all_left, made_here, stopped_here, seen_empty, fault_counted, counted_on, fault_uncalled, fault_unseen}
use Rattle.folder_restore.proofs.restoring.restore_folder.Goals as goal

pub returns-in-Err-clause-err : goal.returns-in-Err-clause-err
returns-in-Err-clause-err g c =
    uncalled g.P.Port.moves g.met.P.Port.joined g.met.P.Port.none c.args.port.now c.args.host.now c.args.number R.Memory
    (all_left c.args.host.now c.args.number F.Memory)

pub restore_into-requires : goal.restore_into-requires
restore_into-requires g c = λ all is.
    (rw c.in-Ok-true.field-0-test at c.in-Ok-true.ensures.found) all (sym c.is_empty.ensures.same ∙ is)

pub returns-in-Ok-true-clause-ok : goal.returns-in-Ok-true-clause-ok
returns-in-Ok-true-clause-ok g c =
    made_here g.P.Port.moves c.args.port.now c.restore_into.new.port (g.F.Folder.tree c.is_empty.new.self) (g.F.Folder.tree c.args.folder.now)
    (g.F.Folder.tree c.restore_into.new.folder) c.in-Ok.host c.args.host.now c.args.number c.restore_into.result c.is_empty.ensures.same c.in-Ok.ensures
    c.restore_into.ensures.ok

pub returns-in-Ok-true-clause-err : goal.returns-in-Ok-true-clause-err
returns-in-Ok-true-clause-err g c =
    stopped_here g.P.Port.moves c.args.port.now c.restore_into.new.port c.in-Ok.host c.args.host.now c.args.number c.restore_into.result c.in-Ok.ensures
    c.restore_into.ensures.err

pub returns-in-Ok-true-clause-counted : goal.returns-in-Ok-true-clause-counted
returns-in-Ok-true-clause-counted g c =
    counted_on _ _ _ (c.in-Ok-true.ensures.counted.stays (λ failed. first_of (cc, grind arith))) c.restore_into.ensures.counted

pub returns-in-Ok-true-clause-not_empty : goal.returns-in-Ok-true-clause-not_empty
returns-in-Ok-true-clause-not_empty g c = λ refused. absurd (c.restore_into.ensures.begun refused)

pub returns-in-Ok-true-clause-looked_at : goal.returns-in-Ok-true-clause-looked_at
returns-in-Ok-true-clause-looked_at g c = λ all is filled.
    absurd (seen_empty (g.F.Folder.tree c.args.folder.now) (rw c.in-Ok-true.field-0-test at c.in-Ok-true.ensures.found) all is filled)

pub returns-in-Ok-false-clause-err : goal.returns-in-Ok-false-clause-err
returns-in-Ok-false-clause-err g c =
    uncalled g.P.Port.moves g.met.P.Port.joined g.met.P.Port.none c.args.port.now c.args.host.now c.args.number R.NotEmpty refl

pub returns-in-Ok-false-clause-not_empty : goal.returns-in-Ok-false-clause-not_empty
returns-in-Ok-false-clause-not_empty g c = λ refused.
    (rw c.in-Ok-false.field-0-test at c.in-Ok-false.ensures.found, c.is_empty.ensures.same)

pub returns-in-Err-is_empty-clause-err : goal.returns-in-Err-is_empty-clause-err
returns-in-Err-is_empty-clause-err g c =
    subst (λ refusal. Stopped g.P.Port.moves c.args.port.now c.args.port.now c.args.host.now c.args.number refusal) (sym c.of_fault.ensures)
    (uncalled g.P.Port.moves g.met.P.Port.joined g.met.P.Port.none c.args.port.now c.args.host.now c.args.number _
    (all_left c.args.host.now c.args.number c.in-Err-is_empty.fault))

pub returns-in-Err-is_empty-clause-counted : goal.returns-in-Err-is_empty-clause-counted
returns-in-Err-is_empty-clause-counted g c =
    fault_counted _ _ c.in-Err-is_empty.fault c.of_fault.result c.of_fault.ensures c.in-Err-is_empty.ensures.counted

pub returns-in-Err-is_empty-clause-not_empty : goal.returns-in-Err-is_empty-clause-not_empty
returns-in-Err-is_empty-clause-not_empty g c = λ refused.
    absurd (fault_unseen c.in-Err-is_empty.fault c.of_fault.result c.of_fault.ensures refused)

pub returns-in-Err-is_empty-clause-looked_at : goal.returns-in-Err-is_empty-clause-looked_at
returns-in-Err-is_empty-clause-looked_at g c = λ all is filled.
    (refl, fault_uncalled c.in-Err-is_empty.fault c.of_fault.result c.of_fault.ensures)
