use Rattle.std.proofs.Common.{◌≡◌, [], ◌∷◌, refl, sym, ap, ◌∙◌, subst}
use Rattle.disk_trait.specs.declared.ids.FileId.TheVariants.{Head, Table, Counts}
use Rattle.disk_trait.specs.Names.{is_same_file, is_metadata}
use Rattle.intent_journal.specs.declared.changes.Change.{Change}
use Rattle.intent_journal.specs.Changes.{AreChanges}
use Rattle.ground_acceptance.proofs.journal_view_tests.changes_to.Goals as goal

-- changes of three files that differ
are_three : (head table counts : Change) → head.file ≡ Head → table.file ≡ Table 3 4000000000 → counts.file ≡ Counts 1
    → AreChanges (head ∷ table ∷ counts ∷ [])
unfolding is_same_file
are_three head table counts e f g =
    (ap is_metadata e, rw (e, f, g) refl, (ap is_metadata f, rw (f, g) refl, (ap is_metadata g, refl, tt)))

pub returns : goal.returns
returns c = subst AreChanges (sym (c.from_vec.ensures ∙ c.in_ok-from_array.ensures.items))
    (are_three c.in_ok-head.head c.in_ok-table.table c.in_ok-counts.counts c.in_ok-head.ensures c.in_ok-table.ensures c.in_ok-counts.ensures)
