use Rattle.std.proofs.Common.{◌≡◌, false, arith}
use Rattle.folder_walk.specs.Rows.{is_dir_node}
use Rattle.folder_walk.proofs.WalkSteps.{list_unrefused}
use Rattle.folder_walk.proofs.RowSteps.{row_leaf, row_unlisted}
use Rattle.folder_walk.proofs.putting.put_row.Goals as goal

pub returns-then-not-is_dir-clause-puts : goal.returns-then-not-is_dir-clause-puts
returns-then-not-is_dir-clause-puts g c =
    let leaf : is_dir_node c.args.row.node ≡ false = grind (arith, c.is_dir_node-is_dir.ensures, c.if-not-is_dir.true, c.if-not-is_dir.ensures) in
    row_leaf _ _ _ _ _ c.args.row c.args.pending.now.items c.in-Ok.ensures.puts leaf

pub returns-clause-puts : goal.returns-clause-puts
returns-clause-puts g c =
    row_unlisted _ _ _ _ _ c.args.row c.args.pending.now.items c.push_children.new.pending.items c.in-Err-push_children.fault c.in-Ok.ensures.puts
    (list_unrefused _ _ c.in-Err-push_children.ensures.cause)
