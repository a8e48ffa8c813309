use Rattle.std.proofs.Common.{refl, ◌∙◌, arith}
use Rattle.folder_walk.specs.declared.refusals.DumpRefusal.TheVariants as D
use Rattle.folder_walk.proofs.WalkSteps.{list_unrefused, puts_next, puts_broken, puts_done, puts_begun, puts_nothing, puts_memory, cause_of_turn}
use Rattle.folder_walk.proofs.putting.put_all.Goals as goal

pub loop-turn-init : goal.loop-turn-init
loop-turn-init g c = record {
  puts = puts_begun g.P.Port.moves g.met.P.Port.joined g.met.P.Port.none (g.F.Folder.tree c.args.folder.now) c.args.dump c.args.port.now
      c.new-pending.result.items c.push_rows.new.pending.items c.in-Ok.rows.items c.new-pending.ensures.items c.in-Ok-push_rows.ensures c.in-Ok.ensures.rows;
  same = c.in-Ok.ensures.same;
  faultless = c.in-Ok.ensures.counted.stays (λ failed. first_of (cc, grind arith));
}

pub returns-in-None-clause-puts : goal.returns-in-None-clause-puts
returns-in-None-clause-puts g c =
    puts_done g.P.Port.moves g.met.P.Port.joined g.met.P.Port.none (g.F.Folder.tree c.args.folder.now) c.args.dump c.args.port.now c.loop-turn.port
    c.loop-turn.pending.items c.pop.new.self.items c.loop-turn.pending.len c.in-None.ensures.cases.0 c.in-None.ensures.rest c.in-None.ensures.items
    c.loop-turn.invariant.puts

pub returns-in-Err-put_row-clause-puts : goal.returns-in-Err-put_row-clause-puts
returns-in-Err-put_row-clause-puts g c =
    puts_broken g.P.Port.moves g.met.P.Port.joined g.met.P.Port.none (g.F.Folder.tree c.args.folder.now) c.args.dump (g.F.Folder.tree c.loop-turn.folder)
    c.args.port.now c.loop-turn.port c.put_row.new.port c.loop-turn.pending.items c.pop.new.self.items c.put_row.new.pending.items c.in-Some.row
    c.in-Err-put_row.fault c.loop-turn.invariant.same c.in-Some.ensures.items c.loop-turn.invariant.puts c.in-Err-put_row.ensures.puts

pub loop-turn-preserved : goal.loop-turn-preserved
loop-turn-preserved g c = record {
  puts = puts_next g.P.Port.moves g.met.P.Port.joined g.met.P.Port.none (g.F.Folder.tree c.args.folder.now) c.args.dump (g.F.Folder.tree c.loop-turn.folder)
      c.args.port.now c.loop-turn.port c.put_row.new.port c.loop-turn.pending.items c.pop.new.self.items c.put_row.new.pending.items c.in-Some.row
      c.loop-turn.invariant.same c.in-Some.ensures.items c.loop-turn.invariant.puts c.in-Ok-put_row.ensures.puts;
  same = c.in-Ok-put_row.ensures.same ∙ c.loop-turn.invariant.same;
  faultless = c.in-Ok-put_row.ensures.counted.stays (λ failed. first_of (cc, grind arith)) ∙ c.loop-turn.invariant.faultless;
}

pub returns-in-Err-put_row-clause-cause : goal.returns-in-Err-put_row-clause-cause
returns-in-Err-put_row-clause-cause g c =
    cause_of_turn g.P.Port.moves g.met.P.Port.joined g.met.P.Port.none (g.F.Folder.tree c.args.folder.now) c.args.dump (g.F.Folder.tree c.loop-turn.folder)
    c.args.port.now c.loop-turn.port c.loop-turn.pending.items c.pop.new.self.items c.in-Some.row c.in-Err-put_row.fault c.loop-turn.invariant.same
    (λ tree is. g.met.F.Folder.is_tree c.args.folder.now tree is) c.in-Some.ensures.items c.loop-turn.invariant.puts c.in-Err-put_row.ensures.cause

pub returns-in-Err-clause-puts : goal.returns-in-Err-clause-puts
returns-in-Err-clause-puts g c =
    puts_nothing g.P.Port.moves g.met.P.Port.joined g.met.P.Port.none (g.F.Folder.tree c.args.folder.now) c.args.dump c.args.port.now c.in-Err.fault
    (list_unrefused (g.F.Folder.tree c.args.folder.now) c.in-Err.fault c.in-Err.ensures.cause)

pub returns-in-Err-push_rows-clause-puts : goal.returns-in-Err-push_rows-clause-puts
returns-in-Err-push_rows-clause-puts g c =
    puts_nothing g.P.Port.moves g.met.P.Port.joined g.met.P.Port.none (g.F.Folder.tree c.args.folder.now) c.args.dump c.args.port.now D.Memory refl

pub returns-clause-puts : goal.returns-clause-puts
returns-clause-puts g c =
    puts_memory g.P.Port.moves g.met.P.Port.joined g.met.P.Port.none (g.F.Folder.tree c.args.folder.now) c.args.dump c.args.port.now c.loop-turn.port
    c.loop-turn.pending.items c.loop-turn.invariant.puts
