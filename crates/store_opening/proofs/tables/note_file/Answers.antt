use Rattle.std.specs.BTreeSet.{contains}
use Rattle.std.proofs.Common.{sym, ◌∙◌}
use Rattle.disk_trait.specs.declared.ids.FileId.TheVariants.{Table}
use Rattle.disk_trait.specs.Order.{file_cmp}
use Rattle.store_opening.proofs.MissingTables.{none_noted, noted_table}
use Rattle.store_opening.proofs.tables.note_file.Goals as goal

pub returns-then-not-is_table : goal.returns-then-not-is_table
returns-then-not-is_table c = λ host number.
    none_noted host number c.args.file (contains file_cmp c.args.tables.now (Table host number))
    (sym c.is_table.ensures ∙ c.if-not-is_table.true)

pub returns-in-Ok : goal.returns-in-Ok
returns-in-Ok c = λ host number.
    noted_table c.args.tables.now c.insert.new.self c.args.file (Table host number) c.in-Ok.ensures.updates
