use Rattle.std.proofs.Common.{◌≡◌, ℕ, List, Option, Some, inl, inr, refl, ap, ◌∙◌}
use Rattle.disk_trait.specs.declared.ids.FileId.TheVariants.{Intent}
use Rattle.disk_trait.specs.Files.{Files, with_bytes, changed}
use Rattle.disk_trait.specs.Images.{nothing}
use Rattle.disk_trait.specs.ImagesLaws.{leaves_wider, leaves_then, leaves_only}
use Rattle.intent_journal.specs.Layout.{intent_file}
use Rattle.intent_journal.proofs.CommitLaws.{intent_image, gate_image, synced_image, image_of_one}
use Rattle.intent_journal.specs.OverlayLaws.{settled_of, start_image}
use Rattle.intent_journal.proofs.steps.open_gate.Goals as goal

pub returns-in-Err-clause-any_moment : goal.returns-in-Err-clause-any_moment
returns-in-Err-clause-any_moment g c = λ all changes told settled bytes are.
    leaves_wider (c.replace_file.ensures.any_moment all told)
    (λ image is. inl (intent_image all _ image (settled_of _ all _ told settled) is))

pub returns-in-Ok-replace_file-clause-any_moment : goal.returns-in-Ok-replace_file-clause-any_moment
returns-in-Ok-replace_file-clause-any_moment g c = λ all changes told settled bytes are.
    let rest = settled_of _ all _ told settled in
    let staged : g.D.Disk.files c.replace_file.new.disk ≡ Some (with_bytes all Intent (Some (intent_file changes))) =
    c.in-Ok.ensures.told
    ∙ ap (λ (t : Option Files). changed t Intent (Some c.args.intent.now)) told
    ∙ ap (λ (i : List ℕ). Some (with_bytes all Intent (Some i))) bytes in
    leaves_then
    (leaves_wider (c.replace_file.ensures.any_moment all told) (λ image is. inl (intent_image all _ image rest is)))
    (leaves_wider (c.replace_file-2.ensures.any_moment _ staged)
    (λ image is. gate_image all _ changes image (rest.closed all refl) are (image_of_one _ _ _ image c.in-Ok.ensures.durable is)))

pub returns-in-Err-replace_file-clause-any_moment : goal.returns-in-Err-replace_file-clause-any_moment
returns-in-Err-replace_file-clause-any_moment g c = λ all changes told settled bytes are.
    let rest = settled_of _ all _ told settled in
    let staged : g.D.Disk.files c.replace_file.new.disk ≡ Some (with_bytes all Intent (Some (intent_file changes))) =
    c.in-Ok.ensures.told
    ∙ ap (λ (t : Option Files). changed t Intent (Some c.args.intent.now)) told
    ∙ ap (λ (i : List ℕ). Some (with_bytes all Intent (Some i))) bytes in
    leaves_then
    (leaves_wider (c.replace_file.ensures.any_moment all told) (λ image is. inl (intent_image all _ image rest is)))
    (leaves_wider (c.replace_file-2.ensures.any_moment _ staged)
    (λ image is. gate_image all _ changes image (rest.closed all refl) are (image_of_one _ _ _ image c.in-Ok.ensures.durable is)))

pub returns-in-Err-clause-stages : goal.returns-in-Err-clause-stages
returns-in-Err-clause-stages g c = λ all changes told settled bytes are.
    inl (leaves_only
    (leaves_wider (c.replace_file.ensures.any_moment all told) (λ image is. intent_image all _ image (settled_of _ all _ told settled) is))
    (λ image left. start_image _ _ all image told settled (g.met.D.Disk.only_now _ image left)))

pub returns-in-Ok-replace_file-clause-synced : goal.returns-in-Ok-replace_file-clause-synced
returns-in-Ok-replace_file-clause-synced g c = λ all changes told settled bytes are.
    let rest = settled_of _ all _ told settled in
    let staged : g.D.Disk.files c.replace_file.new.disk ≡ Some (with_bytes all Intent (Some (intent_file changes))) =
    c.in-Ok.ensures.told
    ∙ ap (λ (t : Option Files). changed t Intent (Some c.args.intent.now)) told
    ∙ ap (λ (i : List ℕ). Some (with_bytes all Intent (Some i))) bytes in
    record {
      synced = c.replace_file.new.disk;
      up_to = leaves_only
          (leaves_wider (c.replace_file.ensures.any_moment all told) (λ image is. intent_image all _ image rest is))
          (λ image left. start_image _ _ all image told settled (g.met.D.Disk.only_now _ image left));
      from_then = leaves_only
          (leaves_wider (c.replace_file-2.ensures.any_moment _ staged)
          (λ image is. gate_image all nothing changes image (rest.closed all refl) are
          (image_of_one _ _ _ image c.in-Ok.ensures.durable is)))
          (λ image left. inl
          (synced_image _ _ all _ image (rest.closed all refl) staged c.in-Ok.ensures.durable (g.met.D.Disk.only_now _ image left)));
    }

pub returns-in-Ok-replace_file-clause-stages : goal.returns-in-Ok-replace_file-clause-stages
returns-in-Ok-replace_file-clause-stages g c = λ all changes told settled bytes are.
    let rest = settled_of _ all _ told settled in
    let staged : g.D.Disk.files c.replace_file.new.disk ≡ Some (with_bytes all Intent (Some (intent_file changes))) =
    c.in-Ok.ensures.told
    ∙ ap (λ (t : Option Files). changed t Intent (Some c.args.intent.now)) told
    ∙ ap (λ (i : List ℕ). Some (with_bytes all Intent (Some i))) bytes in
    inr (record {
      synced = c.replace_file.new.disk;
      up_to = leaves_only
          (leaves_wider (c.replace_file.ensures.any_moment all told) (λ image is. intent_image all _ image rest is))
          (λ image left. start_image _ _ all image told settled (g.met.D.Disk.only_now _ image left));
      from_then = leaves_only
          (leaves_wider (c.replace_file-2.ensures.any_moment _ staged)
          (λ image is. gate_image all nothing changes image (rest.closed all refl) are
          (image_of_one _ _ _ image c.in-Ok.ensures.durable is)))
          (λ image left. inl
          (synced_image _ _ all _ image (rest.closed all refl) staged c.in-Ok.ensures.durable (g.met.D.Disk.only_now _ image left)));
    })

pub returns-in-Err-replace_file-clause-stages : goal.returns-in-Err-replace_file-clause-stages
returns-in-Err-replace_file-clause-stages g c = λ all changes told settled bytes are.
    let rest = settled_of _ all _ told settled in
    let staged : g.D.Disk.files c.replace_file.new.disk ≡ Some (with_bytes all Intent (Some (intent_file changes))) =
    c.in-Ok.ensures.told
    ∙ ap (λ (t : Option Files). changed t Intent (Some c.args.intent.now)) told
    ∙ ap (λ (i : List ℕ). Some (with_bytes all Intent (Some i))) bytes in
    inr (record {
      synced = c.replace_file.new.disk;
      up_to = leaves_only
          (leaves_wider (c.replace_file.ensures.any_moment all told) (λ image is. intent_image all _ image rest is))
          (λ image left. start_image _ _ all image told settled (g.met.D.Disk.only_now _ image left));
      from_then = leaves_only
          (leaves_wider (c.replace_file-2.ensures.any_moment _ staged)
          (λ image is. gate_image all nothing changes image (rest.closed all refl) are
          (image_of_one _ _ _ image c.in-Ok.ensures.durable is)))
          (λ image left. inl
          (synced_image _ _ all _ image (rest.closed all refl) staged c.in-Ok.ensures.durable (g.met.D.Disk.only_now _ image left)));
    })
