use Rattle.pool_changes.specs.StepLaws.{first_of}
use Rattle.store_opening.proofs.MissingTables.{noted_next}
use Rattle.store_opening.proofs.tables.note_all.Goals as goal

pub loop-file-preserved : goal.loop-file-preserved
loop-file-preserved c = λ host number.
    noted_next c.args.files.now _ _ _ _ _ _ _ (first_of c.args.files.now c.loop-file.file-index _ c.loop-file-test.true)
    (c.loop-file.invariant host number) (c.in-Ok.ensures host number)
