use Rattle.std.proofs.Common.{◌∙◌, arith}
use Rattle.pool_changes.specs.Kept.{slots_of}
use Rattle.store_dumps.specs.ClaimLaws.{gains_row}
use Rattle.store_dumps.proofs.claims.claim_rows.Goals as goal

pub loop-row-preserved : goal.loop-row-preserved
loop-row-preserved g c = record {
  gains = λ given. gains_row (slots_of c.args.pool.now.names) (slots_of c.loop-row.pool.names) (slots_of c.claim_node.new.pool.names)
      c.args.rows.now c.loop-row.row-index c.row-item.result _ c.loop-row-test.true c.row-item.is c.node.ensures.value given
      (c.loop-row.invariant.gains given) c.claim_node.ensures.gains;
  spare = omega (arith, c.claim_node.ensures.spare, c.loop-row.invariant.spare);
  form = c.claim_node.ensures.form ∙ c.loop-row.invariant.form;
}
