use Rattle.std.specs.BTreeSet.{contains}
use Rattle.std.proofs.Common.{List, sym, ap, ◌∙◌}
use Rattle.disk_trait.specs.declared.ids.FileId.{FileId}
use Rattle.disk_trait.specs.declared.ids.FileId.TheVariants.{Table}
use Rattle.disk_trait.specs.Order.{file_cmp}
use Rattle.disk_trait.specs.Files.{lists}
use Rattle.store_opening.proofs.MissingTables.{all_there, a_gap, gap_as}
use Rattle.store_opening.proofs.tables.refuse_gaps.Goals as goal

pub returns-in-None-clause-none : goal.returns-in-None-clause-none
returns-in-None-clause-none c = λ all seen.
    all_there (contains file_cmp c.in-Ok.tables) c.args.files.now c.args.catalog.now c.hosts.result.now
    (λ host number. c.in-Ok.ensures host number ∙ ap (λ (l : List FileId). lists l (Table host number)) c.as_slice.ensures)
    c.hosts.ensures.hosts all seen (sym c.first_of_hosts.ensures ∙ c.in-None.is)

pub returns-clause-missing : goal.returns-clause-missing
returns-clause-missing c = λ file found e all seen holds.
    gap_as c.in-Some.file file found all e
    (a_gap (contains file_cmp c.in-Ok.tables) c.args.files.now c.args.catalog.now c.hosts.result.now
    (λ host number. c.in-Ok.ensures host number ∙ ap (λ (l : List FileId). lists l (Table host number)) c.as_slice.ensures)
    c.hosts.ensures.hosts all seen c.in-Some.file (sym c.first_of_hosts.ensures ∙ c.in-Some.is) holds)
