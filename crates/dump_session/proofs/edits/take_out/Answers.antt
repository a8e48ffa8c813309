-- What is taken out of the base and of the puts, together.
use Rattle.std.proofs.Common.{◌≡◌, ◌+◌, length, ap, ◌∙◌, arith}
use Rattle.merge_view.specs.Runs.{within_rows}
use Rattle.dump_session.specs.Edits.{edited}
use Rattle.dump_session.proofs.EditLaws.{edited-remove}
use Rattle.dump_session.proofs.Maps.{forgotten}
use Rattle.dump_session.proofs.Sessions.{taken-count, taken-le}
use Rattle.dump_session.proofs.edits.take_out.Goals as goal

pub returns-clause-count : goal.returns-clause-count
returns-clause-count c =
    (λ i. c.in_ok-taken.ensures.count i + c.count_fresh-fresh.ensures i)
    ∙ taken-count c.args.base.now c.args.removed.now.entries c.args.puts.now.entries c.args.path.now c.as_slice.result.now c.requires.base_order c.requires.puts_order c.requires.no_marks (c.as_slice.ensures.value ∙ c.in_ok-paths.ensures)

pub overflow_add-result : goal.overflow_add-result
overflow_add-result c =
    let e : c.in_ok-taken.taken + c.count_fresh-fresh.result ≡ length (within_rows c.args.path.now (edited c.args.base.now c.args.removed.now.entries c.args.puts.now.entries)) =
    (λ i. c.in_ok-taken.ensures.count i + c.count_fresh-fresh.ensures i)
    ∙ taken-count c.args.base.now c.args.removed.now.entries c.args.puts.now.entries c.args.path.now c.as_slice.result.now c.requires.base_order c.requires.puts_order c.requires.no_marks (c.as_slice.ensures.value ∙ c.in_ok-paths.ensures) in
    omega (arith, e, c.requires.few, taken-le c.args.base.now c.args.removed.now.entries c.args.puts.now.entries c.args.path.now)

pub returns-clause-puts : goal.returns-clause-puts
returns-clause-puts c =
    forgotten c.args.puts.now.entries c.forget.new.map.entries c.args.path.now c.as_slice-2.result.now c.requires.puts_order c.forget.ensures.in_order (c.as_slice-2.ensures.value ∙ c.in_ok-paths.ensures) c.forget.ensures.each

pub returns-clause-tree : goal.returns-clause-tree
returns-clause-tree c =
    ap (edited c.args.base.now c.take_away.new.removed.entries) (returns-clause-puts c)
    ∙ edited-remove c.args.base.now c.args.removed.now.entries c.args.puts.now.entries c.requires.base_order c.requires.puts_order c.take_away.new.removed.entries c.args.path.now c.in_ok-taken.ensures.gone
