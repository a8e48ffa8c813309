use Rattle.std.proofs.Common.{ap, ◌∙◌, option_map, None}
use Rattle.disk_trait.specs.Files.{changed}
use Rattle.journal_view.specs.Found.{seen}
use Rattle.journal_view.specs.FoundLaws.{contents_seen}
use Rattle.journal_view.specs.ViewLaws.{staged_of, same_changed, seen_changed}
use Rattle.journal_view.proofs.calls.drop_data.Goals as goal

pub returns-in-Ok-clause-staged : goal.returns-in-Ok-clause-staged
returns-in-Ok-clause-staged g c = λ all is.
    staged_of c.args.journal.now c.args.file (changed (g.D.Disk.files c.args.journal.now.disk) c.args.file None) c.drop_data.result
    c.drop_data.new.self all
    (same_changed (g.D.Disk.files c.args.journal.now.disk) c.args.file None) c.requires.ready is c.drop_data.ensures

pub returns-in-Err-clause-staged : goal.returns-in-Err-clause-staged
returns-in-Err-clause-staged g c = λ all is.
    staged_of c.args.journal.now c.args.file (changed (g.D.Disk.files c.args.journal.now.disk) c.args.file None) c.drop_data.result
    c.drop_data.new.self all
    (same_changed (g.D.Disk.files c.args.journal.now.disk) c.args.file None) c.requires.ready is c.drop_data.ensures

pub returns-in-Ok-clause-bytes : goal.returns-in-Ok-clause-bytes
returns-in-Ok-clause-bytes g c =
    ap (option_map seen) c.in-Ok.ensures.told
    ∙ seen_changed (g.D.Disk.files c.args.journal.now.disk) c.args.file None (contents_seen c.args.file c.requires.kind)
