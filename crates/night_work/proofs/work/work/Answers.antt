use Rattle.std.proofs.Common.{◌≡◌, FitsSigned, w64, to_z, of_z}
use Rattle.std.proofs.lemmas.Int.{to_z-of_z}
use Rattle.night_work.proofs.ScriptLaws.{Worked-done, Worked-stopped}
use Rattle.night_work.proofs.work.work.Goals as goal

pub returns-in-Ok-carry_out-clause-worked : goal.returns-in-Ok-carry_out-clause-worked
returns-in-Ok-carry_out-clause-worked g c =
    let fits : FitsSigned w64 c.args.day = c.ranges.day in
    let same : to_z w64 (of_z w64 c.args.day) ≡ c.args.day = simp to_z-of_z in
    Worked-done _ g.met.P.Port.joined _ _ _ _ _ _ _ _ _ _ _ _ c.in-Ok.ensures.ok same c.as_slice.ensures c.in-Ok-events_after.ensures
    c.as_slice-2.ensures.value c.in-Ok-carry_out.ensures.ok

pub returns-clause-worked : goal.returns-clause-worked
returns-clause-worked g c =
    let fits : FitsSigned w64 c.args.day = c.ranges.day in
    let same : to_z w64 (of_z w64 c.args.day) ≡ c.args.day = simp to_z-of_z in
    Worked-stopped _ g.met.P.Port.joined _ _ _ _ _ _ _ _ _ _ _ _ c.in-Ok.ensures.ok same c.as_slice.ensures c.in-Ok-events_after.ensures
    c.as_slice-2.ensures.value c.in-Err-carry_out.ensures.err
