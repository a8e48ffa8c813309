use Rattle.disk_trait.specs.ImagesLaws.{leaves_by, leaves_then}
use Rattle.intent_journal.proofs.StepsLaws.{touched_image, touched_look}
use Rattle.intent_journal.proofs.steps.replace_files.Goals as goal

pub returns-in-Ok-sync-clause-any_moment : goal.returns-in-Ok-sync-clause-any_moment
returns-in-Ok-sync-clause-any_moment g c = λ all told within.
    let touched = touched_look _ _ _ _ all _ (c.make_changes.ensures.touched all told within) c.sync.ensures.same c.sync.ensures.certain in
    leaves_then (c.make_changes.ensures.any_moment all told within)
    (leaves_by c.sync.ensures.time (λ image may. touched_image _ _ all _ image touched may))

pub returns-in-Err-sync-clause-any_moment : goal.returns-in-Err-sync-clause-any_moment
returns-in-Err-sync-clause-any_moment g c = λ all told within.
    let touched = touched_look _ _ _ _ all _ (c.make_changes.ensures.touched all told within) c.sync.ensures.same c.sync.ensures.certain in
    leaves_then (c.make_changes.ensures.any_moment all told within)
    (leaves_by c.sync.ensures.time (λ image may. touched_image _ _ all _ image touched may))
