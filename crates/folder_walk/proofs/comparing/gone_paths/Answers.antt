use Rattle.std.proofs.Common.{◌∙◌, arith, refl}
use Rattle.folder_walk.proofs.CompareSteps.{lists_begun, lists_next, lists_done, lists_broken, lists_memory, lists_nothing}
use Rattle.folder_walk.proofs.comparing.gone_paths.Goals as goal

pub returns-in-Err-clause-err : goal.returns-in-Err-clause-err
returns-in-Err-clause-err g c =
    lists_nothing g.P.Port.moves g.met.P.Port.joined g.met.P.Port.none (g.F.Folder.tree c.args.folder.now) c.args.host.now c.args.number c.args.port.now

pub loop-turn-init : goal.loop-turn-init
loop-turn-init g c = record {
  lists = lists_begun g.P.Port.moves g.met.P.Port.joined g.met.P.Port.none (g.F.Folder.tree c.args.folder.now) c.args.host.now c.args.number
      c.args.port.now c.new-pending.result.items c.push.new.self.items c.new-gone.result.items c.new-pending.ensures.items c.in-Ok.ensures.items
      c.new-gone.ensures.items;
  same = refl;
  faultless = refl;
}

pub returns-in-None-clause-ok : goal.returns-in-None-clause-ok
returns-in-None-clause-ok g c =
    lists_done g.P.Port.moves g.met.P.Port.joined g.met.P.Port.none (g.F.Folder.tree c.args.folder.now) c.args.host.now c.args.number
    c.args.port.now c.loop-turn.port c.loop-turn.pending.items c.pop.new.self.items c.loop-turn.gone.items c.loop-turn.pending.len
    c.in-None.ensures.cases.0 c.in-None.ensures.rest c.in-None.ensures.items c.loop-turn.invariant.lists

pub returns-in-Err-compare_directory-clause-err : goal.returns-in-Err-compare_directory-clause-err
returns-in-Err-compare_directory-clause-err g c =
    lists_broken g.P.Port.moves g.met.P.Port.joined g.met.P.Port.none (g.F.Folder.tree c.args.folder.now) c.args.host.now c.args.number
    (g.F.Folder.tree c.loop-turn.folder) c.args.port.now c.loop-turn.port c.compare_directory.new.port c.loop-turn.pending.items c.pop.new.self.items
    c.compare_directory.new.pending.items c.loop-turn.gone.items c.compare_directory.new.gone.items c.in-Some.known c.in-Err-compare_directory.fault
    c.loop-turn.invariant.same c.in-Some.ensures.items c.loop-turn.invariant.lists c.in-Err-compare_directory.ensures.compared

pub returns-in-Err-compare_directory-clause-cause : goal.returns-in-Err-compare_directory-clause-cause
returns-in-Err-compare_directory-clause-cause g c =
    λ tree is. c.in-Err-compare_directory.ensures.cause tree (c.loop-turn.invariant.same ∙ is)

pub loop-turn-preserved : goal.loop-turn-preserved
loop-turn-preserved g c = record {
  lists = lists_next g.P.Port.moves g.met.P.Port.joined g.met.P.Port.none (g.F.Folder.tree c.args.folder.now) c.args.host.now c.args.number
      (g.F.Folder.tree c.loop-turn.folder) c.args.port.now c.loop-turn.port c.compare_directory.new.port c.loop-turn.pending.items c.pop.new.self.items
      c.compare_directory.new.pending.items c.loop-turn.gone.items c.compare_directory.new.gone.items c.in-Some.known
      c.loop-turn.invariant.same c.in-Some.ensures.items c.loop-turn.invariant.lists c.in-Ok-compare_directory.ensures.compared;
  same = c.in-Ok-compare_directory.ensures.same ∙ c.loop-turn.invariant.same;
  faultless = c.in-Ok-compare_directory.ensures.counted.stays (λ failed. first_of (cc, grind arith)) ∙ c.loop-turn.invariant.faultless;
}

pub returns-clause-err : goal.returns-clause-err
returns-clause-err g c =
    lists_memory g.P.Port.moves g.met.P.Port.joined g.met.P.Port.none (g.F.Folder.tree c.args.folder.now) c.args.host.now c.args.number
    c.args.port.now c.loop-turn.port c.loop-turn.pending.items c.loop-turn.gone.items c.loop-turn.invariant.lists
