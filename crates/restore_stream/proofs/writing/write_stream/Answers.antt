-- The magic, and frame by frame the rest.
use Rattle.std.proofs.Common.{rules, ◌∙◌}
use Rattle.std.proofs.lemmas.Result.{err_from_is_err_and}
use Rattle.restore_stream.proofs.WritingLaws.{written_first, written_more, written_all, front_of_all, front_of_magic}
use Rattle.restore_stream.proofs.writing.write_stream.Goals as goal

pub returns-in_err-write_all-clause-front : goal.returns-in_err-write_all-clause-front
returns-in_err-write_all-clause-front g c =
    let p = err_from_is_err_and c.from_residual.result c.from_residual.ensures.1 in
    rw p.1 (front_of_magic _ _ c.args.tree.now c.in_err-write_all.ensures.front)

pub loop-init : goal.loop-init
loop-init g c = record {
  wrote = written_first _ _ c.args.tree.now _ _ c.in_ok-write_all.ensures.all c.new-cursor.ensures c.rows.ensures.rows;
  left = c.write_all.ensures.left;
  sent = c.write_all.ensures.sent;
  same = search rules;
}

pub returns-in_err-write_next-clause-front : goal.returns-in_err-write_next-clause-front
returns-in_err-write_next-clause-front g c =
    let p = err_from_is_err_and c.from_residual-in_err-write_next.result c.from_residual-in_err-write_next.ensures.1 in
    rw p.1 (front_of_all _ _ _ _ _ c.loop.invariant.wrote c.in_err-write_next.ensures.front)

pub loop-preserved : goal.loop-preserved
loop-preserved g c = record {
  wrote = written_more _ _ _ _ _ _ c.loop.invariant.wrote c.in_ok-write_next.ensures.wrote;
  left = c.write_next.ensures.left ∙ c.loop.invariant.left;
  sent = c.write_next.ensures.sent ∙ c.loop.invariant.sent;
  same = search rules;
}

pub returns-clause-all : goal.returns-clause-all
returns-clause-all g c =
    written_all _ _ _ _ _ _ c.loop.invariant.wrote c.in_ok-write_next.ensures.wrote (c.in_ok-write_next.ensures.end c.if-branch.false)
