-- What the nearest block says of the path, or else what the others do.
use Rattle.std.proofs.Common.{◌-◌, length, take, drop, Option, ap, ◌∙◌, arith}
use Rattle.attr_records.specs.Trees.{node_at}
use Rattle.attr_tables.specs.declared.records.Record.{Record}
use Rattle.merge_view.specs.Views.{laid}
use Rattle.backup_delete.specs.Trees.{tree_of}
use Rattle.backup_delete.proofs.TowerSteps.{front_and_last, split_of, node_over}
use Rattle.backup_delete.proofs.tower.+node_in.Goals as goal

pub returns-in-None : goal.returns-in-None
returns-in-None t c = λ start stack.
    let lines = c.args.lines.now in
    let tables = c.args.tables.now in
    let block = c.block-item.result in
    let front = take (length c.args.blocks.now - 1) c.args.blocks.now in
    let split = split_of lines tables c.args.base start c.args.blocks.now front block
    (front_and_last c.args.blocks.now block (omega (arith, c.in-len1-up.len_at_least)) c.block-item.is) stack in
    c.node_in.ensures block.end split.front
    ∙ ap (λ (o : Option Record). laid o (node_at (tree_of (drop block.end lines) (drop block.end tables)) c.args.path.now)) c.in-None.ensures
    ∙ node_over lines tables c.args.base start front block c.args.path.now c.requires.order c.rows-rows.ensures.in_order split

pub returns-in-Some : goal.returns-in-Some
returns-in-Some t c = λ start stack.
    let lines = c.args.lines.now in
    let tables = c.args.tables.now in
    let block = c.block-item.result in
    let front = take (length c.args.blocks.now - 1) c.args.blocks.now in
    let split = split_of lines tables c.args.base start c.args.blocks.now front block
    (front_and_last c.args.blocks.now block (omega (arith, c.in-len1-up.len_at_least)) c.block-item.is) stack in
    c.unmarked.ensures (node_at (tree_of (drop block.end lines) (drop block.end tables)) c.args.path.now)
    ∙ ap (λ (o : Option Record). laid o (node_at (tree_of (drop block.end lines) (drop block.end tables)) c.args.path.now)) c.in-Some.ensures
    ∙ node_over lines tables c.args.base start front block c.args.path.now c.requires.order c.rows-rows.ensures.in_order split
