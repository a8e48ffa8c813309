use Rattle.std.proofs.Common.{Bool, sym, ap, ◌∙◌}
use Rattle.disk_trait.specs.declared.ids.FileId.TheVariants.{Table}
use Rattle.store_opening.specs.Tables.{noted}
use Rattle.store_opening.proofs.MissingTables.{none_in, noted_lists}
use Rattle.store_opening.proofs.tables.tables_of.Goals as goal

pub returns-in-Ok : goal.returns-in-Ok
returns-in-Ok c = λ host number.
    sym (c.in-Ok.ensures host number)
    ∙ ap (λ (b : Bool). noted c.args.files.now b (Table host number)) (none_in c.new-tables.result (Table host number) c.new-tables.ensures.empty)
    ∙ noted_lists c.args.files.now (Table host number)
