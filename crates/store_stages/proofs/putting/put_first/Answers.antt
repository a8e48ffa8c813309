use Rattle.std.proofs.Common.{refl, ap, ◌∙◌}
use Rattle.pool_changes.specs.Kept.{slots_of}
use Rattle.store_parts.specs.RefusedLaws.{runs_broken}
use Rattle.store_dumps.specs.Putting.{content_found}
use Rattle.store_dumps.specs.PutLaws.{runs_same, go_content}
use Rattle.store_dumps.specs.TokenLaws.{fresh_for}
use Rattle.store_stages.proofs.StageFiles.{says_lost}
use Rattle.store_stages.proofs.Puts.{no_stage_put, put_broken, runs_staged, runs_staged_back, runs_staged_missed}
use Rattle.store_stages.proofs.putting.put_first.Goals as goal

pub put_file-requires-clause-fresh : goal.put_file-requires-clause-fresh
put_file-requires-clause-fresh g c = λ dump there. fresh_for dump.kept c.args.token (c.requires.first dump there)

pub returns-in-None-clause-runs : goal.returns-in-None-clause-runs
returns-in-None-clause-runs g c = runs_broken _ _ _
    (no_stage_put c.args.parts.now c.args.session c.args.path.now c.args.file.now c.args.token c.args.at c.requires.found c.requires.first
    c.in-None.ensures.none)

pub returns-in-Err-clause-runs : goal.returns-in-Err-clause-runs
returns-in-Err-clause-runs g c = runs_broken _ _ _
    (put_broken c.args.parts.now c.args.session c.args.path.now c.args.file.now c.args.token c.in-Some.stage c.in-Some.ensures.found
    c.in-Some.ensures.of_dump c.args.at c.dump-dump.result.now c.requires.found
    c.dump-dump.ensures
    (c.requires.first c.dump-dump.result.now c.dump-dump.ensures) c.in-Err.rule c.in-Err.ensures.rule)

pub returns-in-Err-take_stage-clause-runs : goal.returns-in-Err-take_stage-clause-runs
returns-in-Err-take_stage-clause-runs g c = runs_same _ _ _ _ _ c.refusal_of_pool.ensures.value
    (runs_staged_missed c.args.parts.now c.args.session c.args.path.now c.args.file.now c.args.token c.in-Some.stage c.stage_at-held.result.now
    c.in-Some.ensures.found c.stage_at-held.ensures (c.in-Some.ensures.of_dump c.stage_at-held.result.now c.stage_at-held.ensures)
    c.args.at c.dump-dump.result.now c.requires.found c.dump-dump.ensures
    (c.requires.first c.dump-dump.result.now c.dump-dump.ensures) c.take_stage.new.journal c.take_stage.new.pool c.in-Ok.ensures.ok c.in-Err-take_stage.ensures.form c.in-Err-take_stage.ensures.stays
    c.in-Err-take_stage.ensures.certain c.in-Err-take_stage.ensures.crash c.in-Err-take_stage.fault c.in-Err-take_stage.ensures.some
    c.in-Err-take_stage.ensures.misses c.in-Err-take_stage.ensures.lost c.in-Err-take_stage.ensures.undamaged
    c.in-Err-take_stage.ensures.counted)

pub returns-in-Err-take_stage-clause-lost : goal.returns-in-Err-take_stage-clause-lost
returns-in-Err-take_stage-clause-lost g c =
    says_lost c.args.parts.now c.args.file.now.stage c.in-Some.stage c.stage_at-held.result.now c.in-Some.ensures.found
    c.stage_at-held.ensures c.refusal_of_pool.result c.in-Err-take_stage.fault c.refusal_of_pool.ensures.value
    c.in-Err-take_stage.ensures.lost c.in-Err-take_stage.ensures.undamaged

pub returns-in-Ok-put_file-clause-runs : goal.returns-in-Ok-put_file-clause-runs
returns-in-Ok-put_file-clause-runs g c =
    let there = c.dump-dump.ensures in
    runs_staged c.args.parts.now c.args.session c.args.path.now c.args.file.now c.args.token c.in-Some.stage c.stage_at-held.result.now
    c.in-Some.ensures.found c.stage_at-held.ensures (c.in-Some.ensures.of_dump c.stage_at-held.result.now c.stage_at-held.ensures)
    c.args.at c.dump-dump.result.now c.requires.found there
    (c.requires.first c.dump-dump.result.now there) c.take_stage.new.journal c.take_stage.new.pool c.in-Ok.ensures.ok c.in-Ok-take_stage.ensures.form c.in-Ok-take_stage.ensures.stays
    c.in-Ok-take_stage.ensures.certain c.in-Ok-take_stage.ensures.crash c.in-Ok-take_stage.content c.in-Ok-take_stage.ensures.shape
    c.in-Ok-take_stage.ensures.takes _ c.put_file.new.sessions refl refl refl refl refl refl
    (go_content (slots_of c.take_stage.new.pool.names) (slots_of c.release.new.pool.names) _ _
    (c.content_of-before.ensures ∙ ap content_found (c.find.ensures c.dump-dump.result.now there)) c.release.ensures.go)
    c.release.ensures.form (c.in-Ok-put_file.ensures.put c.dump-dump.result.now there) c.in-Ok-put_file.ensures.only
    (record { dumps = refl; restores = refl; readers = refl; sequence = refl }) c.take-stage.ensures.others c.take-stage.ensures.next
    c.in-Ok-take_stage.ensures.counted (λ e. absurd cc)

pub returns-in-Err-put_file-clause-runs : goal.returns-in-Err-put_file-clause-runs
returns-in-Err-put_file-clause-runs g c =
    let there = c.dump-dump.ensures in
    runs_same _ _ _ _ _ c.refused_put.ensures
    (runs_staged_back c.args.parts.now c.args.session c.args.path.now c.args.file.now c.args.token c.in-Some.stage c.stage_at-held.result.now
    c.in-Some.ensures.found c.stage_at-held.ensures (c.in-Some.ensures.of_dump c.stage_at-held.result.now c.stage_at-held.ensures)
    c.args.at c.dump-dump.result.now c.requires.found there
    (c.requires.first c.dump-dump.result.now there) c.take_stage.new.journal c.take_stage.new.pool c.in-Ok.ensures.ok c.in-Ok-take_stage.ensures.form c.in-Ok-take_stage.ensures.stays
    c.in-Ok-take_stage.ensures.certain c.in-Ok-take_stage.ensures.crash c.in-Ok-take_stage.content c.in-Ok-take_stage.ensures.shape
    c.in-Ok-take_stage.ensures.takes _ c.in-Err-put_file.fault
    (λ broken is tree. c.in-Err-put_file.ensures.rule broken c.dump-dump.result.now is there tree) refl refl refl refl refl refl
    c.release-in-Err-put_file.ensures.go c.release-in-Err-put_file.ensures.form c.in-Err-put_file.ensures.err
    c.in-Ok-take_stage.ensures.counted (λ e. absurd cc))
