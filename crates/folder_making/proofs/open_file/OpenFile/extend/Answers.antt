use Rattle.std.proofs.Common.{◌++◌, ◌∙◌, refl, ap}
use Rattle.folder_trait.specs.Folders.{with_appended}
use Rattle.folder_making.proofs.Results.{on_ok}
use Rattle.folder_making.proofs.MakeSteps.{kept_extends, made_extends}
use Rattle.folder_making.proofs.open_file.OpenFile.extend.Goals as goal

pub returns-in_ok-extend_from_slice-in-Kept-clause-extends : goal.returns-in_ok-extend_from_slice-in-Kept-clause-extends
returns-in_ok-extend_from_slice-in-Kept-clause-extends g c =
    kept_extends c.args.self.now _ c.in-Kept.kept _ c.args.bytes.now (g.F.Folder.tree c.args.folder.now) (g.F.Folder.tree c.args.folder.now)
    c.in-Kept.is refl (c.in_ok-extend_from_slice-in-Kept.ensures.items ∙ ap (λ more. c.in-Kept.kept.items ++ more) c.as_slice.ensures)
    refl refl refl

pub returns-in-InFolder-clause-extends : goal.returns-in-InFolder-clause-extends
returns-in-InFolder-clause-extends g c = on_ok c.append.result c.append.ensures.extended (λ is.
    made_extends c.args.self.now _ c.args.bytes.now (g.F.Folder.tree c.args.folder.now) (g.F.Folder.tree c.append.new.self)
    refl c.in-InFolder.is (is ∙ ap (with_appended (g.F.Folder.tree c.args.folder.now) c.args.self.now.path) c.as_slice-in-InFolder.ensures))
