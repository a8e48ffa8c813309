use Rattle.std.proofs.Common.{◌≡◌, ℕ, ◌+◌, List, ◌∷◌, [], length, take, sym, ap, ◌∙◌, subst, arith}
use Rattle.std.proofs.lemmas.List.{length-append, take_all}
use Rattle.std.proofs.lemmas.Result.{err_from_is_err_and}
use Rattle.backup_rules.specs.declared.lines.Line.{Line}
use Rattle.journal_view.specs.View.{told}
use Rattle.journal_view.specs.ViewLaws.{Quiet-then}
use Rattle.backup_views.specs.Stored.{AreTableFiles}
use Rattle.backup_views.specs.StoredLaws.{tables_more, files_more, AreTableFiles-all}
use Rattle.backup_views.specs.FaultLaws.{one_damaged}
use Rattle.backup_views.proofs.tables.read_tables.Goals as goal

pub returns-in_err-table-clause-damaged : goal.returns-in_err-table-clause-damaged
returns-in_err-table-clause-damaged g c =
    let p = err_from_is_err_and c.from_residual.result c.from_residual.ensures.1 in
    rw p.1 (λ file found is.
    one_damaged (told c.args.journal.now) (told c.loop-line.journal) c.args.host c.args.lines.now c.loop-line.line-index _ c.in_err-table.field-0.0
    c.loop-line.invariant.quiet.told_same c.loop-line-test.true c.in_err-table.ensures.damaged file found (sym p.2 ∙ is))

pub returns-in_err-table-clause-quiet : goal.returns-in_err-table-clause-quiet
returns-in_err-table-clause-quiet g c = Quiet-then _ _ _ c.loop-line.invariant.quiet c.read_entries.ensures.quiet

pub returns-in_err-push-clause-quiet : goal.returns-in_err-push-clause-quiet
returns-in_err-push-clause-quiet g c = Quiet-then _ _ _ c.loop-line.invariant.quiet c.read_entries.ensures.quiet

pub loop-line-preserved : goal.loop-line-preserved
loop-line-preserved g c = record {
  ready = c.read_entries.ensures.quiet.halted_same ∙ c.loop-line.invariant.ready;
  still = c.in_ok-table.ensures.counted.stays (λ e. absurd (cc)) ∙ c.loop-line.invariant.still;
  quiet = Quiet-then _ _ _ c.loop-line.invariant.quiet c.read_entries.ensures.quiet;
  each = ap length c.in_ok-push.ensures.items
      ∙ length-append c.loop-line.tables.items (c.in_ok-table.table ∷ [])
      ∙ ap (λ (n : ℕ). n + 1) c.loop-line.invariant.each;
  there = λ all is_told.
      subst (AreTableFiles all c.args.host (take (c.loop-line.line-index + 1) c.args.lines.now)) (sym c.in_ok-push.ensures.items)
      (files_more all c.args.host c.loop-line.line-index c.args.lines.now _ c.loop-line.tables.items c.in_ok-table.table
      (c.loop-line.invariant.there all is_told) c.loop-line-test.true
      (c.in_ok-table.ensures.is all (c.loop-line.invariant.quiet.told_same ∙ is_told)));
  one = λ all stored is_told are.
      c.in_ok-push.ensures.items
      ∙ tables_more all c.args.host c.loop-line.line-index c.args.lines.now stored _ c.loop-line.tables.items c.in_ok-table.table are c.loop-line-test.true
      (λ rows is. c.in_ok-table.ensures.one all rows (c.loop-line.invariant.quiet.told_same ∙ is_told) is)
      (c.loop-line.invariant.one all stored is_told are);
}

pub returns-clause-each : goal.returns-clause-each
returns-clause-each g c =
    let end : c.loop-line.line-index ≡ length c.args.lines.now = omega (arith, c.loop-line-test.false, c.loop-line.auto.line-index-end) in
    c.loop-line.invariant.each ∙ end

pub returns-clause-there : goal.returns-clause-there
returns-clause-there g c = λ all is_told.
    let end : c.loop-line.line-index ≡ length c.args.lines.now = omega (arith, c.loop-line-test.false, c.loop-line.auto.line-index-end) in
    subst (λ (lines : List Line). AreTableFiles all c.args.host lines c.loop-line.tables.items)
    (ap (λ (n : ℕ). take n c.args.lines.now) end ∙ take_all (length c.args.lines.now) c.args.lines.now (omega arith))
    (c.loop-line.invariant.there all is_told)

pub returns-clause-one : goal.returns-clause-one
returns-clause-one g c = λ all stored is_told are.
    let end : c.loop-line.line-index ≡ length c.args.lines.now = omega (arith, c.loop-line-test.false, c.loop-line.auto.line-index-end) in
    c.loop-line.invariant.one all stored is_told are
    ∙ ap (λ (n : ℕ). take n stored) end
    ∙ AreTableFiles-all all c.args.host c.args.lines.now stored are
