use Rattle.std.proofs.Common.{◌≡◌, ◌+◌, ◌∙◌, ap, arith}
use Rattle.demo_work.specs.Plan.{edit}
use Rattle.demo_work.proofs.PlanLaws.{Planned-begun, Planned-next, Planned-edits}
use Rattle.demo_work.proofs.planning.push_edits.Goals as goal

pub loop-edit-init : goal.loop-edit-init
loop-edit-init c = Planned-begun (λ _ at. edit at) _ _ _ c.below-count.ensures.state

pub loop-edit-preserved : goal.loop-edit-preserved
loop-edit-preserved c = Planned-next (λ _ at. edit at) c.loop-edit._edit _ _ _ _ _ _ c.loop-edit.invariant c.in_ok-push_edit.ensures

pub returns : goal.returns
returns c =
    let end : c.loop-edit._edit ≡ 1 + c.below-count.result = omega arith in
    Planned-edits c.loop-edit._edit _ _ _ _ (end ∙ ap (λ k. 1 + k) c.below-count.ensures.value) c.loop-edit.invariant
