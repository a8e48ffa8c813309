use Rattle.std.proofs.Common.{◌∙◌, sym, arith}
use Rattle.folder_making.proofs.DirSteps.{one_finished}
use Rattle.folder_making.proofs.dirs.finish_others.Goals as goal

pub loop-last-preserved : goal.loop-last-preserved
loop-last-preserved g c = record {
  stands = λ rows more item noted s.
      one_finished rows more c.args.path.now item (g.F.Folder.tree c.loop-last.folder) (g.F.Folder.tree c.finish.new.self) c.loop-last.dirs.items
      c.pop.new.self.items c.in-Some.last noted c.in-Some.ensures.items (sym c.holds.ensures ∙ c.if-holds.false) c.in-Ok.ensures.finished
      (c.loop-last.invariant.stands rows more item noted s);
  faultless = c.in-Ok.ensures.counted.stays (λ failed. first_of (cc, grind arith)) ∙ c.loop-last.invariant.faultless;
}
