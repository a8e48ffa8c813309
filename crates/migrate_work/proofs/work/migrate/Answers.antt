use Rattle.migrate_work.proofs.WorkLaws.{works-done, works-stopped}
use Rattle.migrate_work.proofs.work.migrate.Goals as goal

pub returns-in-Ok-carry_out : goal.returns-in-Ok-carry_out
returns-in-Ok-carry_out g c =
    works-done _ g.met.P.Port.joined _ _ _ _ _ _ _ _ c.in-Ok.ensures.ok c.as_slice.ensures c.in-Ok-events_after.ensures
    c.as_slice-2.ensures.value c.in-Ok-carry_out.ensures.ok c.count_of.ensures

pub returns : goal.returns
returns g c =
    works-stopped _ g.met.P.Port.joined _ _ _ _ _ _ _ _ c.in-Ok.ensures.ok c.as_slice.ensures c.in-Ok-events_after.ensures
    c.as_slice-2.ensures.value c.in-Err-carry_out.ensures.err
