-- What is noted of all files is what is noted so far and of those that are left.
use Rattle.std.specs.BTreeSet.{contains}
use Rattle.std.proofs.Common.{◌≡◌, ℕ, drop}
use Rattle.disk_trait.specs.declared.ids.FileId.TheVariants.{Table}
use Rattle.disk_trait.specs.Order.{file_cmp}
use Rattle.store_opening.specs.Tables.{noted}
use Rattle.store_opening.proofs.tables.note_all.Given as goal

abbrev pub invariant-loop-file : goal.invariant-loop-file
invariant-loop-file l =
    (host number : ℕ) → noted l.files (contains file_cmp l.fn.tables (Table host number)) (Table host number)
    ≡ noted (drop l.file-index l.files) (contains file_cmp l.tables (Table host number)) (Table host number)
