use Rattle.std.proofs.Common.{ap, ◌∙◌, option_map, Some}
use Rattle.disk_trait.specs.Files.{changed}
use Rattle.journal_view.specs.Found.{seen}
use Rattle.journal_view.specs.FoundLaws.{contents_seen}
use Rattle.journal_view.specs.ViewLaws.{staged_of, same_changed, seen_changed}
use Rattle.journal_view.proofs.calls.stage.Goals as goal

pub returns-in-Ok-clause-staged : goal.returns-in-Ok-clause-staged
returns-in-Ok-clause-staged g c = λ all is.
    staged_of c.args.journal.now c.args.file (changed (g.D.Disk.files c.args.journal.now.disk) c.args.file (Some c.args.bytes.now))
    c.stage.result c.stage.new.self all
    (same_changed (g.D.Disk.files c.args.journal.now.disk) c.args.file (Some c.args.bytes.now)) c.requires.ready is c.stage.ensures

pub returns-in-Err-clause-staged : goal.returns-in-Err-clause-staged
returns-in-Err-clause-staged g c = λ all is.
    staged_of c.args.journal.now c.args.file (changed (g.D.Disk.files c.args.journal.now.disk) c.args.file (Some c.args.bytes.now))
    c.stage.result c.stage.new.self all
    (same_changed (g.D.Disk.files c.args.journal.now.disk) c.args.file (Some c.args.bytes.now)) c.requires.ready is c.stage.ensures

pub returns-in-Ok-clause-bytes : goal.returns-in-Ok-clause-bytes
returns-in-Ok-clause-bytes g c =
    ap (option_map seen) c.in-Ok.ensures.told
    ∙ seen_changed (g.D.Disk.files c.args.journal.now.disk) c.args.file (Some c.args.bytes.now)
    (contents_seen c.args.file c.requires.kind)
