use Rattle.std.proofs.Common.{refl, ◌∙◌}
use Rattle.disk_trait.specs.ImagesLaws.{leaves_none, leaves_by, leaves_then}
use Rattle.intent_journal.proofs.StepsLaws.{touched_image, underway_start, underway_next, underway_failed, underway_done, next_of}
use Rattle.intent_journal.proofs.steps.make_changes.Goals as goal

pub loop-change-init : goal.loop-change-init
loop-change-init g c = record {
  counted = refl;
  underway = λ all told within. underway_start _ _ all _ told within;
  leaves = λ all told within. leaves_none _ _;
}

pub returns-in-Err-clause-touched : goal.returns-in-Err-clause-touched
returns-in-Err-clause-touched g c = λ all told within.
    let next = next_of _ _ _ c.loop-change-test.true c.change-item.is in
    underway_failed _ _ _ _ all _ _ _ _ next (c.loop-change.invariant.underway all told within) c.in-Err.ensures.failed
    c.make_change.ensures.certain

pub returns-in-Err-clause-any_moment : goal.returns-in-Err-clause-any_moment
returns-in-Err-clause-any_moment g c = λ all told within.
    let next = next_of _ _ _ c.loop-change-test.true c.change-item.is in
    let touched =
    underway_failed _ _ _ _ all _ _ _ _ next (c.loop-change.invariant.underway all told within) c.in-Err.ensures.failed
    c.make_change.ensures.certain in
    leaves_then (c.loop-change.invariant.leaves all told within)
    (leaves_by c.make_change.ensures.time (λ image may. touched_image _ _ all _ image touched may))

pub loop-change-preserved : goal.loop-change-preserved
loop-change-preserved g c =
    let next = next_of _ _ _ c.loop-change-test.true c.change-item.is in
    record {
      counted = c.in-Ok.ensures.counted.stays (λ e. absurd (cc)) ∙ c.loop-change.invariant.counted;
      underway = λ all told within.
          underway_next _ _ _ _ all _ _ _ _ next (c.loop-change.invariant.underway all told within) c.in-Ok.ensures.told
          c.make_change.ensures.certain;
      leaves = λ all told within.
          let under = underway_next _ _ _ _ all _ _ _ _ next (c.loop-change.invariant.underway all told within) c.in-Ok.ensures.told
          c.make_change.ensures.certain in
          leaves_then (c.loop-change.invariant.leaves all told within)
          (leaves_by c.make_change.ensures.time (λ image may. touched_image _ _ all _ image under.touched may));
    }

pub returns-clause-told : goal.returns-clause-told
returns-clause-told g c = λ all told within.
    underway_done _ _ all _ _ c.loop-change-test.false (c.loop-change.invariant.underway all told within)

pub returns-clause-touched : goal.returns-clause-touched
returns-clause-touched g c = λ all told within. (c.loop-change.invariant.underway all told within).touched
