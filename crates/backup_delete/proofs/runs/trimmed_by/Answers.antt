-- What one block more decides of the entries.
use Rattle.std.proofs.Common.{sym, ap, ◌∙◌, subst, arith}
use Rattle.ordered_lists.specs.Order.{IsInOrder}
use Rattle.attr_records.specs.Paths.{path_cmp}
use Rattle.merge_view.specs.Views.{Rows, stacked}
use Rattle.merge_view.specs.ViewLaws.{IsInOrder-stacked}
use Rattle.backup_delete.specs.RunFoldsLaws.{resolved_in_order, remaining_in_order}
use Rattle.backup_delete.proofs.RunSteps.{going, moves, fold_begun, fold_step}
use Rattle.backup_delete.proofs.runs.trimmed_by.Goals as goal

pub up-init : goal.up-init
up-init c = record {
  within = c.requires.within;
  after = omega arith;
  done = subst (λ (rows : Rows). IsInOrder path_cmp rows) (sym c.new-done.ensures) tt;
  rest = subst (λ (rows : Rows). IsInOrder path_cmp rows) (sym c.in_ok-rest.ensures) c.rows-rows.ensures.in_order;
  told = fold_begun c.args.lines.now c.args.tables.now c.args.index c.args.entries.now _ _ c.requires.order c.rows-rows.ensures.in_order
      c.new-done.ensures c.in_ok-rest.ensures;
}

pub up-preserved : goal.up-preserved
up-preserved c =
    let block = c.rows-block_rows.ensures.in_order in
    record {
      within = omega (arith, c.first_filled-end.ensures.before, c.block_end.ensures.end);
      after = omega (arith, c.up.invariant.after, c.first_filled-end.ensures.after);
      done = subst (λ (rows : Rows). IsInOrder path_cmp rows) (sym c.in_ok-done.ensures.value)
          (IsInOrder-stacked c.up.done c.in_ok-here.here c.up.invariant.done
          (subst (λ (rows : Rows). IsInOrder path_cmp rows) (sym c.in_ok-here.ensures)
          (resolved_in_order c.up.rest c.in_ok-block.block c.up.invariant.rest block)));
      rest = subst (λ (rows : Rows). IsInOrder path_cmp rows) (sym c.in_ok-later.ensures)
          (remaining_in_order c.up.rest c.in_ok-block.block c.up.invariant.rest block);
      told = fold_step c.args.lines.now c.args.tables.now c.up.i c.first_filled-end.result _ c.in_ok-block.block c.up.done c.up.rest
          c.in_ok-here.here c.in_ok-later.later c.in_ok-done.done c.requires.order block c.up.invariant.done c.up.invariant.rest
          c.in_ok-block.ensures c.up.invariant.told c.in_ok-here.ensures c.in_ok-later.ensures c.in_ok-done.ensures.value;
    }

pub up-smaller : goal.up-smaller
up-smaller c =
    let goes = going c.up.rest c.args.lines.now c.up.i c.up.invariant.within (sym c.goes_on.ensures ∙ c.up-test.true) in
    let more = moves c.args.lines.now c.up.i c.block_end.result c.first_filled-end.result c.first_filled-end.ensures.after
    (c.block_end.ensures.more goes.1) goes.0 c.first_filled-end.ensures.filled in
    omega (arith, more, goes.1)

pub returns : goal.returns
returns c = c.in_ok-stacked.ensures.value ∙ ap (stacked c.up.done) c.in_ok-last.ensures ∙ sym c.up.invariant.told
