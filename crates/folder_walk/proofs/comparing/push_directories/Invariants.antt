use Rattle.std.proofs.Common.{◌≡◌, ◌++◌, ℕ, List, Option, true, reverse, vec_len}
use Rattle.attr_records.specs.Items.{Tree, is_dir}
use Rattle.attr_records.specs.Trees.{IsTree}
use Rattle.folder_walk.specs.Rows.{rows_found}
use Rattle.folder_walk.specs.Bases.{knowns_of}
use Rattle.folder_walk.proofs.comparing.push_directories.Given as goal

-- what was pushed, and what is still to be
abbrev pub invariant-loop-entry : goal.invariant-loop-entry
invariant-loop-entry l =
    (tree : Tree) (directory : Option (List ℕ)) → IsTree is_dir tree → (l.there ≡ true → l.rows ≡ rows_found tree directory)
    → l.pending.items ++ reverse (knowns_of tree directory l.there l.entries.items)
    ≡ l.fn.pending.items ++ reverse (knowns_of tree directory l.there l.initial.entries.items)

abbrev pub decreases-loop-entry : goal.decreases-loop-entry
decreases-loop-entry l = vec_len l.entries
