use Rattle.std.proofs.Common.{◌∷◌, ◌∙◌, refl, sym, ap, subst}
use Rattle.std.proofs.lemmas.Option.{slice_get_read}
use Rattle.attr_records.specs.declared.nodes.Item.TheVariants as I
use Rattle.folder_trait.specs.Folders.{with_linked}
use Rattle.folder_making.specs.Standing.{Stands}
use Rattle.folder_making.proofs.Results.{on_ok}
use Rattle.folder_making.proofs.NotedSteps.{link_stands}
use Rattle.folder_making.proofs.noted.make_grouped.Goals as goal

pub returns-in-Ok-Some-clause-stands : goal.returns-in-Ok-Some-clause-stands
returns-in-Ok-Some-clause-stands g c = on_ok c.link.result c.link.ensures.made (λ is rows more dirs s.
    let told = g.F.Folder.tree c.args.folder.now in
    let found = rw (c.as_slice.ensures.value, c.in-Ok-Some.field-0-is) at c.in-Ok-Some.ensures.found in
    link_stands rows more told (g.F.Folder.tree c.link.new.self) dirs c.args.noted.now.items c.args.path c.args.file
    c.in-Ok-Some.index c.index-one.result.now
    (slice_get_read c.args.noted.now.items _ c.in-Ok-Some.index c.index-one.result.now refl found.0 c.index-one.ensures) found.1
    (is ∙ ap (λ t. with_linked t c.args.path c.index-one.result.now.path) c.earlier_of.ensures.tree) s)

pub returns-in-Ok-None-clause-stands : goal.returns-in-Ok-None-clause-stands
returns-in-Ok-None-clause-stands g c = on_ok c.make_first.result c.make_first.ensures.stands (λ adds rows more dirs s.
    adds rows more dirs
    (subst (λ t. Stands rows ((c.args.path, I.File c.args.file) ∷ more) t dirs c.args.noted.now.items) (sym c.earlier_of.ensures.tree) s))
