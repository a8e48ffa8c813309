use Rattle.std.proofs.Common.{[], Some}
use Rattle.disk_trait.specs.declared.ids.FileId.TheVariants.{Intent}
use Rattle.disk_trait.specs.ImagesLaws.{leaves_by}
use Rattle.intent_journal.proofs.CallsLaws.{changed_one, one_changed}
use Rattle.intent_journal.proofs.CommitLaws.{rest_still, settled_still, emptied, rest_image}
use Rattle.intent_journal.proofs.steps.forget_intent.Goals as goal

pub returns-in-Ok-clause-emptied : goal.returns-in-Ok-clause-emptied
returns-in-Ok-clause-emptied g c = emptied _ _ c.in-Ok.ensures.told

pub returns-in-Ok-clause-at_rest : goal.returns-in-Ok-clause-at_rest
returns-in-Ok-clause-at_rest g c = λ files rest.
    let one = one_changed c.write.result _ _ _ Intent (changed_one _ Intent (Some [])) c.write.ensures.told c.write.ensures.failed in
    rest_still _ _ _ _ files rest one c.write.ensures.certain

pub returns-in-Err-clause-at_rest : goal.returns-in-Err-clause-at_rest
returns-in-Err-clause-at_rest g c = λ files rest. rest_still _ _ _ _ files rest c.in-Err.ensures.failed c.write.ensures.certain

pub returns-in-Ok-clause-settled : goal.returns-in-Ok-clause-settled
returns-in-Ok-clause-settled g c = λ settled.
    let one = one_changed c.write.result _ _ _ Intent (changed_one _ Intent (Some [])) c.write.ensures.told c.write.ensures.failed in
    settled_still _ _ _ _ settled one c.write.ensures.certain

pub returns-in-Err-clause-settled : goal.returns-in-Err-clause-settled
returns-in-Err-clause-settled g c = λ settled. settled_still _ _ _ _ settled c.in-Err.ensures.failed c.write.ensures.certain

pub returns-in-Ok-clause-any_moment : goal.returns-in-Ok-clause-any_moment
returns-in-Ok-clause-any_moment g c = λ files rest.
    let one = one_changed c.write.result _ _ _ Intent (changed_one _ Intent (Some [])) c.write.ensures.told c.write.ensures.failed in
    leaves_by c.write.ensures.time
    (λ image may. rest_image _ _ files image (rest_still _ _ _ _ files rest one c.write.ensures.certain) may)

pub returns-in-Err-clause-any_moment : goal.returns-in-Err-clause-any_moment
returns-in-Err-clause-any_moment g c = λ files rest.
    leaves_by c.write.ensures.time
    (λ image may. rest_image _ _ files image (rest_still _ _ _ _ files rest c.in-Err.ensures.failed c.write.ensures.certain) may)
