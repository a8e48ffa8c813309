use Rattle.std.proofs.Common.{◌≡◌, ◌∙◌, length, arith}
use Rattle.folder_making.proofs.DirSteps.{last_finished, none_left}
use Rattle.folder_making.proofs.dirs.finish_all.Goals as goal

pub loop-last-preserved : goal.loop-last-preserved
loop-last-preserved g c = record {
  stands = λ rows noted s.
      last_finished rows (g.F.Folder.tree c.loop-last.folder) (g.F.Folder.tree c.finish.new.self) c.loop-last.dirs.items c.pop.new.self.items
      c.in-Some.last noted c.in-Some.ensures.items c.in-Ok.ensures.finished (c.loop-last.invariant.stands rows noted s);
  faultless = c.in-Ok.ensures.counted.stays (λ failed. first_of (cc, grind arith)) ∙ c.loop-last.invariant.faultless;
}

pub returns-clause-stands : goal.returns-clause-stands
returns-clause-stands g c =
    let empty : length c.loop-last.dirs.items ≡ 0 = omega (arith, c.loop-last.dirs.ok, c.in_default.ensures.cases.0) in
    λ rows noted s. none_left rows (g.F.Folder.tree c.loop-last.folder) c.loop-last.dirs.items noted empty (c.loop-last.invariant.stands rows noted s)
