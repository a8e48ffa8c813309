use Rattle.std.specs.Option.{option_copied}
use Rattle.folder_walk.proofs.WalkSteps.{list_cause}
use Rattle.folder_walk.proofs.CompareSteps.{list_failed, list_broken, list_compared}
use Rattle.folder_walk.proofs.comparing.compare_directory.Goals as goal

pub returns-in-Err-clause-compared : goal.returns-in-Err-clause-compared
returns-in-Err-clause-compared g c =
    list_failed g.P.Port.moves c.args.port.now c.ask_list.new.port (g.F.Folder.tree c.args.folder.now) c.args.host.now c.args.number c.args.known
    c.args.pending.now.items c.args.gone.now.items c.args.pending.now.items c.args.gone.now.items (option_copied c.as_ref.result) c.in-Err.fault
    c.as_ref.ensures.value c.in-Err.ensures.err

pub returns-in-Err-clause-cause : goal.returns-in-Err-clause-cause
returns-in-Err-clause-cause g c = c.in-Err.ensures.cause (g.F.Folder.tree c.args.folder.now)

pub returns-in-Ok-compare_listing-clause-compared : goal.returns-in-Ok-compare_listing-clause-compared
returns-in-Ok-compare_listing-clause-compared g c =
    list_compared g.P.Port.moves c.args.port.now c.ask_list.new.port (g.F.Folder.tree c.args.folder.now) c.args.host.now c.args.number c.args.known
    c.args.pending.now.items c.args.gone.now.items c.compare_listing.new.pending.items c.compare_listing.new.gone.items (option_copied c.as_ref.result)
    (option_copied c.as_ref-2.result) c.in-Ok.list c.as_ref.ensures.value c.as_ref-2.ensures.value c.in-Ok.ensures.ok
    c.in-Ok-compare_listing.ensures.compared

pub returns-clause-compared : goal.returns-clause-compared
returns-clause-compared g c =
    list_broken g.P.Port.moves c.args.port.now c.ask_list.new.port (g.F.Folder.tree c.args.folder.now) c.args.host.now c.args.number c.args.known
    c.args.pending.now.items c.args.gone.now.items c.compare_listing.new.pending.items c.compare_listing.new.gone.items (option_copied c.as_ref.result)
    c.in-Ok.list c.in-Err-compare_listing.fault c.as_ref.ensures.value c.in-Ok.ensures.ok c.in-Err-compare_listing.ensures.cause

pub returns-clause-cause : goal.returns-clause-cause
returns-clause-cause g c = list_cause (g.F.Folder.tree c.args.folder.now) c.in-Err-compare_listing.fault c.in-Err-compare_listing.ensures.cause
