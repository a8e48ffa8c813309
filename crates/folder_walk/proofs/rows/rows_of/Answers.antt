use Rattle.std.proofs.Common.{◌∙◌, ◌++◌, sym, ap}
use Rattle.std.specs.Option.{option_copied}
use Rattle.std.specs.Vec.Iter.{into_iter_items}
use Rattle.folder_walk.proofs.RowLaws.{named_cause}
use Rattle.folder_walk.proofs.rows.rows_of.Goals as goal

pub returns-in-Err-clause-cause : goal.returns-in-Err-clause-cause
returns-in-Err-clause-cause c =
    named_cause (option_copied c.args.directory) c.loop-found.yielded (into_iter_items c.next.new.self) c.args.list.items c.in-Some.found c.in-Err.fault
    (ap (λ xs. c.loop-found.yielded ++ xs) (sym c.in-Some.ensures.steps.0) ∙ c.loop-found.invariant.left ∙ c.into_iter-found-iterator.ensures.into_iter_gives.0) c.in-Err.ensures.cause
