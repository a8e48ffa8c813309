use Rattle.std.proofs.Common.{subst}
use Rattle.folder_walk.specs.Bases.{LastAsked}
use Rattle.folder_walk.proofs.DumpSteps.{base_unasked, base_bare, base_unlisted, base_unremoved, base_removed}
use Rattle.folder_walk.proofs.dumping.remove_gone.Goals as goal

pub returns-in-Err-clause-base : goal.returns-in-Err-clause-base
returns-in-Err-clause-base g c =
    base_unasked g.P.Port.moves g.met.P.Port.joined g.met.P.Port.none (g.F.Folder.tree c.args.folder.now) c.args.host.now c.args.dump
    c.args.port.now c.last_number.new.port c.in-Err.fault c.in-Err.ensures.err

pub returns-in-None-clause-base : goal.returns-in-None-clause-base
returns-in-None-clause-base g c =
    base_bare g.P.Port.moves g.met.P.Port.joined g.met.P.Port.none (g.F.Folder.tree c.args.folder.now) c.args.host.now c.args.dump
    c.args.port.now c.last_number.new.port
    (subst (λ last. LastAsked g.P.Port.moves c.args.port.now c.last_number.new.port c.args.host.now last) c.in-None.is c.in-Ok.ensures.ok)

pub returns-in-Err-gone_paths-clause-base : goal.returns-in-Err-gone_paths-clause-base
returns-in-Err-gone_paths-clause-base g c =
    base_unlisted g.P.Port.moves g.met.P.Port.joined g.met.P.Port.none (g.F.Folder.tree c.args.folder.now) c.args.host.now c.args.dump
    c.args.port.now c.last_number.new.port c.gone_paths.new.port c.in-Some.number c.in-Err-gone_paths.fault
    (subst (λ last. LastAsked g.P.Port.moves c.args.port.now c.last_number.new.port c.args.host.now last) c.in-Some.is c.in-Ok.ensures.ok)
    c.in-Err-gone_paths.ensures.err

pub returns-in-Ok-remove_all-clause-base : goal.returns-in-Ok-remove_all-clause-base
returns-in-Ok-remove_all-clause-base g c =
    base_removed g.P.Port.moves g.met.P.Port.joined g.met.P.Port.none (g.F.Folder.tree c.args.folder.now) c.args.host.now c.args.dump
    c.args.port.now c.last_number.new.port c.gone_paths.new.port c.remove_all.new.port c.in-Some.number c.in-Ok-gone_paths.gone.items
    (subst (λ last. LastAsked g.P.Port.moves c.args.port.now c.last_number.new.port c.args.host.now last) c.in-Some.is c.in-Ok.ensures.ok)
    c.in-Ok-gone_paths.ensures.ok c.in-Ok-remove_all.ensures.removes

pub returns-in-Err-remove_all-clause-base : goal.returns-in-Err-remove_all-clause-base
returns-in-Err-remove_all-clause-base g c =
    base_unremoved g.P.Port.moves g.met.P.Port.joined g.met.P.Port.none (g.F.Folder.tree c.args.folder.now) c.args.host.now c.args.dump
    c.args.port.now c.last_number.new.port c.gone_paths.new.port c.remove_all.new.port c.in-Some.number c.in-Ok-gone_paths.gone.items
    c.in-Err-remove_all.fault
    (subst (λ last. LastAsked g.P.Port.moves c.args.port.now c.last_number.new.port c.args.host.now last) c.in-Some.is c.in-Ok.ensures.ok)
    c.in-Ok-gone_paths.ensures.ok c.in-Err-remove_all.ensures.removes

pub returns-in-Err-clause-cause : goal.returns-in-Err-clause-cause
returns-in-Err-clause-cause g c = c.in-Err.ensures.cause (g.F.Folder.tree c.args.folder.now)
