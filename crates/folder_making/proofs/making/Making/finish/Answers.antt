use Rattle.std.proofs.Common.{[], ◌∙◌, sym}
use Rattle.folder_making.proofs.Results.{on_ok}
use Rattle.folder_making.proofs.MakeSteps.{nothing_found, all_stand}
use Rattle.folder_making.proofs.making.Making.finish.Goals as goal

pub returns-clause-whole : goal.returns-clause-whole
returns-clause-whole g c = on_ok c.finish_all.result c.finish_all.ensures.stands (λ all made h.
    let none = nothing_found c.args.self.now.file (sym c.is_some.ensures ∙ c.if-is_some.false) in
    all made.rows c.args.self.now.noted.items (all_stand made [] (g.F.Folder.tree c.args.folder.now) c.args.self.now none h))
