use Rattle.std.proofs.Common.{◌≡◌, ◌++◌, ℕ, List, Option, take}
use Rattle.attr_records.specs.Items.{Tree, is_dir}
use Rattle.attr_records.specs.Trees.{IsTree}
use Rattle.folder_walk.specs.Rows.{rows_found}
use Rattle.folder_walk.proofs.CompareSteps.{gone_list}
use Rattle.folder_walk.proofs.comparing.push_gone.Given as goal

-- of the entries that were looked at, those that leave were added
abbrev pub invariant-loop-entry : goal.invariant-loop-entry
invariant-loop-entry l =
    (tree : Tree) (directory : Option (List ℕ)) → IsTree is_dir tree → l.rows ≡ rows_found tree directory
    → l.gone.items ≡ l.fn.gone.items ++ gone_list tree directory (take l.entry-index l.entries)
