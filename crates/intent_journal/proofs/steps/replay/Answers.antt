use Rattle.std.proofs.Common.{[], ◌∷◌, Option, Some, refl, ap, ◌∙◌}
use Rattle.disk_trait.specs.declared.ids.FileId.TheVariants.{Gate}
use Rattle.disk_trait.specs.Files.{Files, changed}
use Rattle.disk_trait.specs.ImagesLaws.{leaves_wider, leaves_then}
use Rattle.intent_journal.proofs.CommitLaws.{replaying_image, closing_image, image_of_one, at_rest, alike_itself, settled_gate}
use Rattle.intent_journal.proofs.steps.replay.Goals as goal

pub returns-in-Err-clause-any_moment : goal.returns-in-Err-clause-any_moment
returns-in-Err-clause-any_moment g c = λ all told within over.
    leaves_wider (c.replace_files.ensures.any_moment all told within) (λ image is. replaying_image all _ image over is)

pub returns-in-Ok-forget_intent-clause-at_rest : goal.returns-in-Ok-forget_intent-clause-at_rest
returns-in-Ok-forget_intent-clause-at_rest g c = λ all told within.
    c.forget_intent.ensures.at_rest _
    (at_rest _ _ _ _ (67 ∷ [])
    (c.in-Ok-replace_file.ensures.told ∙ ap (λ (t : Option Files). changed t Gate (Some (67 ∷ []))) (c.in-Ok.ensures.told all told within))
    refl (alike_itself _) c.in-Ok-replace_file.ensures.durable)

pub returns-in-Ok-forget_intent-clause-settled : goal.returns-in-Ok-forget_intent-clause-settled
returns-in-Ok-forget_intent-clause-settled g c =
    c.forget_intent.ensures.settled
    (settled_gate _ _ _ (67 ∷ []) c.in-Ok-replace_file.ensures.told refl c.in-Ok-replace_file.ensures.durable)

pub returns-in-Ok-forget_intent-clause-any_moment : goal.returns-in-Ok-forget_intent-clause-any_moment
returns-in-Ok-forget_intent-clause-any_moment g c = λ all told within over.
    leaves_then
    (leaves_then
    (leaves_wider (c.replace_files.ensures.any_moment all told within) (λ image is. replaying_image all _ image over is))
    (leaves_wider (c.replace_file.ensures.any_moment _ (c.in-Ok.ensures.told all told within))
    (λ image is. closing_image all _ image over (image_of_one _ _ _ image c.in-Ok.ensures.durable is))))
    (c.forget_intent.ensures.any_moment _
    (at_rest _ _ _ _ (67 ∷ [])
    (c.in-Ok-replace_file.ensures.told ∙ ap (λ (t : Option Files). changed t Gate (Some (67 ∷ []))) (c.in-Ok.ensures.told all told within))
    refl (alike_itself _) c.in-Ok-replace_file.ensures.durable))

pub returns-in-Err-forget_intent-clause-any_moment : goal.returns-in-Err-forget_intent-clause-any_moment
returns-in-Err-forget_intent-clause-any_moment g c = λ all told within over.
    leaves_then
    (leaves_then
    (leaves_wider (c.replace_files.ensures.any_moment all told within) (λ image is. replaying_image all _ image over is))
    (leaves_wider (c.replace_file.ensures.any_moment _ (c.in-Ok.ensures.told all told within))
    (λ image is. closing_image all _ image over (image_of_one _ _ _ image c.in-Ok.ensures.durable is))))
    (c.forget_intent.ensures.any_moment _
    (at_rest _ _ _ _ (67 ∷ [])
    (c.in-Ok-replace_file.ensures.told ∙ ap (λ (t : Option Files). changed t Gate (Some (67 ∷ []))) (c.in-Ok.ensures.told all told within))
    refl (alike_itself _) c.in-Ok-replace_file.ensures.durable))

pub returns-in-Err-replace_file-clause-any_moment : goal.returns-in-Err-replace_file-clause-any_moment
returns-in-Err-replace_file-clause-any_moment g c = λ all told within over.
    leaves_then
    (leaves_wider (c.replace_files.ensures.any_moment all told within) (λ image is. replaying_image all _ image over is))
    (leaves_wider (c.replace_file.ensures.any_moment _ (c.in-Ok.ensures.told all told within))
    (λ image is. closing_image all _ image over (image_of_one _ _ _ image c.in-Ok.ensures.durable is)))
