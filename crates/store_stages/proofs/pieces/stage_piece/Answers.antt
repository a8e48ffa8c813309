use Rattle.std.specs.Prelude.{Err}
use Rattle.std.proofs.Common.{◌≡◌, ◌+◌, ◌<◌, ◌^◌, length, refl, sym, ap, ◌∙◌, subst}
use Rattle.std.proofs.lemmas.Option.{slice_get_read}
use Rattle.open_sessions.specs.declared.stages.OpenStage.{OpenStage}
use Rattle.store_parts.specs.RefusedLaws.{runs_no_stage}
use Rattle.store_parts.specs.StageLaws.{runs_piece_bad, runs_piece_over, runs_piece_taken, runs_piece_lost}
use Rattle.store_stages.proofs.Opens.{no_stage_piece}
use Rattle.store_stages.proofs.pieces.stage_piece.Goals as goal

pub returns-in-None-clause-runs : goal.returns-in-None-clause-runs
returns-in-None-clause-runs g c =
    runs_no_stage _ _ c.args.number c.in-None.ensures.index (no_stage_piece c.args.number c.args.bytes.now)

pub returns-then-is_bad_piece-clause-runs : goal.returns-then-is_bad_piece-clause-runs
returns-then-is_bad_piece-clause-runs g c =
    runs_piece_bad c.args.parts.now c.args.number c.in-Some.at c.index.result.now c.in-Some.ensures.index
    (slice_get_read _ _ _ _ refl c.in-Some.ensures.within c.index.ensures) c.args.bytes.now
    (sym c.is_bad_piece.ensures ∙ c.if-is_bad_piece.true)

pub returns-then-is_too_large-clause-runs : goal.returns-then-is_too_large-clause-runs
returns-then-is_too_large-clause-runs g c =
    runs_piece_over c.args.parts.now c.args.number c.in-Some.at c.index.result.now c.in-Some.ensures.index
    (slice_get_read _ _ _ _ refl c.in-Some.ensures.within c.index.ensures) c.args.bytes.now
    (sym c.is_bad_piece.ensures ∙ c.if-is_bad_piece.false) (sym c.is_too_large.ensures.is ∙ c.if-is_too_large.true)

pub extend_stage-requires-clause-room : goal.extend_stage-requires-clause-room
extend_stage-requires-clause-room g c = λ stage at.
    let there = slice_get_read _ _ _ _ refl c.in-Some.ensures.within c.index.ensures in
    let same : c.index.result.now ≡ stage = cc (there, at) in
    subst (λ (held : OpenStage _). held.size + length c.args.bytes.now < 2 ^ 64) same (c.is_too_large.ensures.room c.if-is_too_large.false)

pub returns-in-Ok-clause-runs : goal.returns-in-Ok-clause-runs
returns-in-Ok-clause-runs g c =
    let there = slice_get_read _ _ _ _ refl c.in-Some.ensures.within c.index.ensures in
    runs_piece_taken c.args.parts.now c.args.number c.in-Some.at c.index.result.now c.in-Some.ensures.index there c.args.bytes.now
    _ refl (record { dumps = refl; restores = refl; readers = refl; sequence = refl }) c.in-Ok.ensures.staged c.extend_stage.ensures.next
    c.in-Ok.ensures.counted (λ e. absurd cc) c.in-Ok.ensures.ready (sym c.is_bad_piece.ensures ∙ c.if-is_bad_piece.false)
    (sym c.is_too_large.ensures.is ∙ c.if-is_too_large.false) c.in-Ok.ensures.bytes
    (c.extend_stage.ensures.extended c.index.result.now there)

pub returns-in-Err-Disk-clause-runs : goal.returns-in-Err-Disk-clause-runs
returns-in-Err-Disk-clause-runs g c =
    let there = slice_get_read _ _ _ _ refl c.in-Some.ensures.within c.index.ensures in
    runs_piece_lost c.args.parts.now c.args.number c.in-Some.at c.index.result.now c.in-Some.ensures.index there c.args.bytes.now
    _ refl (record { dumps = refl; restores = refl; readers = refl; sequence = refl }) c.write_piece.ensures.staged
    c.take-stage.ensures.next c.write_piece.ensures.counted (c.in-Err-Disk.is ∙ ap Err c.in-Err-Disk.field-0-is) c.take-stage.ensures.others
