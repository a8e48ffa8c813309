use Rattle.std.proofs.Common.{refl, ◌∙◌}
use Rattle.store_cleaning.specs.StageFiles.{is_left}
use Rattle.store_cleaning.proofs.StageFiles.{drops_none, drops_then, dropped_more}
use Rattle.store_cleaning.proofs.stage_files.drop_left.Goals as goal

pub loop-file-init : goal.loop-file-init
loop-file-init g c = record {
  halted = refl;
  still = refl;
  drops = λ all is. drops_none c.args.sessions.now.stages.items.items c.args.journal.now all is;
  dropped = refl;
}

pub loop-file-preserved : goal.loop-file-preserved
loop-file-preserved g c =
    let before = c.loop-file.invariant in
    record {
      halted = c.in-Ok.ensures.halted ∙ before.halted;
      still = c.in-Ok.ensures.counted.stays (λ e. absurd cc) ∙ before.still;
      drops = λ all is.
          drops_then c.args.sessions.now.stages.items.items c.args.journal.now c.loop-file.journal c.drop_if_left.new.journal all
          (before.drops all is) c.in-Ok.ensures.drops;
      dropped = dropped_more (is_left c.args.sessions.now.stages.items.items) c.args.files.now c.loop-file.file-index _ _ _ _
          c.loop-file-test.true c.in-Ok.ensures.done before.dropped;
    }

pub returns-in-Err-clause-drops : goal.returns-in-Err-clause-drops
returns-in-Err-clause-drops g c = λ all is.
    drops_then c.args.sessions.now.stages.items.items c.args.journal.now c.loop-file.journal c.drop_if_left.new.journal all
    (c.loop-file.invariant.drops all is) c.in-Err.ensures.drops
