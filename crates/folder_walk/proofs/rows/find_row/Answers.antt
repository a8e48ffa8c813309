-- A search by a closure that compares paths.
use Rattle.std.proofs.Common.{rules}
use Rattle.std.proofs.lemmas.Fn.{always_returns_same}
use Rattle.attr_records.specs.Paths.{path_cmp}
use Rattle.folder_walk.proofs.FindSteps.{row_here, row_nowhere}
use Rattle.folder_walk.proofs.rows.find_row.Goals as goal

pub returns-in-Ok : goal.returns-in-Ok
returns-in-Ok c = λ tree directory is_tree are.
    row_here tree directory is_tree c.args.path.now c.args.rows.now are _ _ c.in-Ok.ensures.bound
    (c.in-Ok.ensures.position (λ row. path_cmp row.path c.args.path.now) (always_returns_same _ _ _ (λ a r f' t. search rules))) c.index-rows-index.is

pub returns-in-Err : goal.returns-in-Err
returns-in-Err c = λ tree directory is_tree are.
    row_nowhere tree directory is_tree c.args.path.now c.args.rows.now are c.in-Err.field-0
    (c.in-Err.ensures.position (λ row. path_cmp row.path c.args.path.now) (always_returns_same _ _ _ (λ a r f' t. search rules)))
