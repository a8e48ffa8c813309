use Rattle.std.specs.Prelude.{◌≡◌, Some}
use Rattle.std.proofs.Common.{◌∙◌, sym}
use Rattle.folder_making.proofs.NotedSteps.{same_file}
use Rattle.folder_making.proofs.noted.is_same.Goals as goal

pub returns-in-Ok-Some-clause-same : goal.returns-in-Ok-Some-clause-same
returns-in-Ok-Some-clause-same g c = λ yes.
    let alike = c.is_alike.ensures c.if-not-is_alike.false in
    let some = c.in-Ok-Some.field-0-is in
    let is_got : c.in-Ok-Some.field-0 ≡ Some c.in-Ok-Some.bytes = cc in
    same_file (g.F.Folder.tree c.args.folder.now) c.args.noted.now c.args.file.now c.in-Ok-Some.field-0 c.in-Ok-Some.bytes is_got
    alike.0 alike.1 (sym c.eq.ensures ∙ yes) c.in-Ok-Some.ensures.found
