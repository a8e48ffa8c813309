use Rattle.std.proofs.Common.{subst, Ok, Err}
use Rattle.folder_walk.specs.Puts.{PutsAll}
use Rattle.folder_walk.proofs.DumpSteps.{unbased, unput, uncommitted, filled_up}
use Rattle.folder_walk.proofs.dumping.fill.Goals as goal

pub returns-in-Err-clause-filled : goal.returns-in-Err-clause-filled
returns-in-Err-clause-filled g c =
    unbased g.P.Port.moves g.met.P.Port.joined g.met.P.Port.none (g.F.Folder.tree c.args.folder.now) c.args.host.now c.args.dump c.args.kind
    (g.C.Clock.moments c.args.clock.now) c.args.port.now c.make_base.new.port c.in-Err.fault c.in-Err.ensures.base

pub returns-in-Err-put_all-clause-filled : goal.returns-in-Err-put_all-clause-filled
returns-in-Err-put_all-clause-filled g c =
    unput g.P.Port.moves g.met.P.Port.joined g.met.P.Port.none (g.F.Folder.tree c.args.folder.now) c.args.host.now c.args.dump c.args.kind
    (g.C.Clock.moments c.args.clock.now) c.args.port.now c.make_base.new.port c.put_all.new.port c.in-Err-put_all.fault c.in-Ok.ensures.base
    (subst (λ told. PutsAll g.P.Port.moves c.make_base.new.port c.put_all.new.port told c.args.dump (Err c.in-Err-put_all.fault)) c.in-Ok.ensures.same
    c.in-Err-put_all.ensures.puts)

pub returns-in-Ok-commit-clause-filled : goal.returns-in-Ok-commit-clause-filled
returns-in-Ok-commit-clause-filled g c =
    filled_up g.P.Port.moves g.met.P.Port.joined g.met.P.Port.none (g.F.Folder.tree c.args.folder.now) c.args.host.now c.args.dump c.args.kind
    (g.C.Clock.moments c.args.clock.now) c.args.port.now c.make_base.new.port c.put_all.new.port c.commit.new.port c.now.result c.in-Ok-commit.number
    (g.C.Clock.moments c.now.new.self) c.in-Ok.ensures.base
    (subst (λ told. PutsAll g.P.Port.moves c.make_base.new.port c.put_all.new.port told c.args.dump (Ok tt)) c.in-Ok.ensures.same
    c.in-Ok-put_all.ensures.puts)
    (c.now.ensures.first, c.now.ensures.later) c.in-Ok-commit.ensures.ok

pub returns-in-Err-commit-clause-filled : goal.returns-in-Err-commit-clause-filled
returns-in-Err-commit-clause-filled g c =
    uncommitted g.P.Port.moves g.met.P.Port.joined g.met.P.Port.none (g.F.Folder.tree c.args.folder.now) c.args.host.now c.args.dump c.args.kind
    (g.C.Clock.moments c.args.clock.now) c.args.port.now c.make_base.new.port c.put_all.new.port c.commit.new.port c.now.result
    (g.C.Clock.moments c.now.new.self) c.in-Err-commit.fault c.in-Ok.ensures.base
    (subst (λ told. PutsAll g.P.Port.moves c.make_base.new.port c.put_all.new.port told c.args.dump (Ok tt)) c.in-Ok.ensures.same
    c.in-Ok-put_all.ensures.puts)
    (c.now.ensures.first, c.now.ensures.later) c.in-Err-commit.ensures.err
