-- A deletion mark was found, or none.
use Rattle.store_partials.specs.RowLaws.{rows_unmarked, rows_marked}
use Rattle.store_partials.proofs.files.partial_bytes.Goals as goal

pub returns-then-has_mark-clause-kind : goal.returns-then-has_mark-clause-kind
returns-then-has_mark-clause-kind c =
    rows_marked c.args.partial.now.rows c.rows.result.now c.has_mark.result c.rows.ensures.rows c.has_mark.ensures c.if-has_mark.true

pub write_partial-requires : goal.write_partial-requires
write_partial-requires c =
    rows_unmarked c.args.partial.now.rows c.rows.result.now c.has_mark.result c.rows.ensures.rows c.has_mark.ensures c.if-has_mark.false
