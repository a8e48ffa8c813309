-- Each table is read by a journal that is as it was, and its change goes on behind those before it.
use Rattle.std.proofs.Common.{◌≡◌, length, sym, ◌∙◌, arith}
use Rattle.std.proofs.lemmas.Result.{err_from_is_err_and}
use Rattle.journal_view.specs.View.{told}
use Rattle.journal_view.specs.ViewLaws.{Quiet-then}
use Rattle.backup_views.specs.FaultLaws.{one_damaged}
use Rattle.store_migrations.specs.PlanLaws.{planned_more, planned_all}
use Rattle.store_migrations.proofs.gather.gather.Goals as goal

pub returns-in_err-read-clause-damaged : goal.returns-in_err-read-clause-damaged
returns-in_err-read-clause-damaged g c =
    let p = err_from_is_err_and c.from_residual.result c.from_residual.ensures.1 in
    rw p.1 (λ file found is.
    one_damaged (told c.args.journal.now) (told c.loop-line.journal) c.args.host c.args.lines.now c.loop-line.line-index _ c.in_err-read.field-0.0
    c.loop-line.invariant.quiet.told_same c.loop-line-test.true c.in_err-read.ensures.damaged file found (sym p.2 ∙ is))

pub returns-in_err-read-clause-quiet : goal.returns-in_err-read-clause-quiet
returns-in_err-read-clause-quiet g c = Quiet-then _ _ _ c.loop-line.invariant.quiet c.read_stored.ensures.quiet

pub returns-in_err-push_rewritten-clause-quiet : goal.returns-in_err-push_rewritten-clause-quiet
returns-in_err-push_rewritten-clause-quiet g c = Quiet-then _ _ _ c.loop-line.invariant.quiet c.read_stored.ensures.quiet

pub loop-line-preserved : goal.loop-line-preserved
loop-line-preserved g c = record {
  ready = c.read_stored.ensures.quiet.halted_same ∙ c.loop-line.invariant.ready;
  still = c.in_ok-read.ensures.counted.stays (λ e. absurd (cc)) ∙ c.loop-line.invariant.still;
  quiet = Quiet-then _ _ _ c.loop-line.invariant.quiet c.read_stored.ensures.quiet;
  planned = planned_more (told c.args.journal.now) c.args.host c.loop-line.line-index c.args.lines.now _ c.in_ok-read.read
      c.loop-line.changes c.push_rewritten.new.changes c.loop-line-test.true
      (λ all is_told. c.in_ok-read.ensures.is all (c.loop-line.invariant.quiet.told_same ∙ is_told))
      c.in_ok-push_rewritten.ensures c.loop-line.invariant.planned;
}

pub returns-clause-planned : goal.returns-clause-planned
returns-clause-planned g c =
    let end : c.loop-line.line-index ≡ length c.args.lines.now = omega (arith, c.loop-line-test.false, c.loop-line.auto.line-index-end) in
    planned_all (told c.args.journal.now) c.args.host c.loop-line.line-index c.args.lines.now c.loop-line.changes end c.loop-line.invariant.planned
