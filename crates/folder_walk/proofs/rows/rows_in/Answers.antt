use Rattle.std.specs.Option.{option_copied}
use Rattle.folder_walk.proofs.RowLaws.{rows_told, listed_cause}
use Rattle.folder_walk.proofs.rows.rows_in.Goals as goal

pub returns-in-Ok-rows_of-clause-rows : goal.returns-in-Ok-rows_of-clause-rows
returns-in-Ok-rows_of-clause-rows g c =
    λ tree told. rows_told tree (option_copied c.args.directory) c.in-Ok.list.items c.in-Ok-rows_of.rows.items c.in-Ok-rows_of.ensures.rows (c.in-Ok.ensures.found tree told)

pub returns-in-Err-clause-cause : goal.returns-in-Err-clause-cause
returns-in-Err-clause-cause g c =
    listed_cause (g.F.Folder.tree c.args.folder.now) (option_copied c.args.directory) c.in-Ok.list.items c.in-Err.fault c.in-Ok.ensures.found
    c.in-Err.ensures.cause
