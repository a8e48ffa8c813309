use Rattle.std.proofs.Common.{◌∙◌}
use Rattle.pool_changes.specs.Kept.{slots_of}
use Rattle.store_dumps.specs.ClaimLaws.{lets_go_row}
use Rattle.store_dumps.proofs.claims.release_rows.Goals as goal

pub loop-row-preserved : goal.loop-row-preserved
loop-row-preserved g c = record {
  go = λ enough. lets_go_row (slots_of c.args.pool.now.names) (slots_of c.loop-row.pool.names) (slots_of c.release_node.new.pool.names)
      c.args.rows.now c.loop-row.row-index c.row-item.result _ c.loop-row-test.true c.row-item.is c.node.ensures.value enough
      (c.loop-row.invariant.go enough) c.release_node.ensures.go;
  form = c.release_node.ensures.form ∙ c.loop-row.invariant.form;
}
