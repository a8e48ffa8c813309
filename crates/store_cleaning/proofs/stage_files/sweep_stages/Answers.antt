use Rattle.std.proofs.Common.{List, ap, ◌∙◌, option_map}
use Rattle.disk_trait.specs.declared.ids.FileId.{FileId}
use Rattle.journal_view.specs.View.{told}
use Rattle.store_cleaning.specs.StageFiles.{is_left, without}
use Rattle.store_cleaning.proofs.StageFiles.{drops_quiet, drops_then, only_open}
use Rattle.store_cleaning.proofs.stage_files.sweep_stages.Goals as goal

pub returns-in-Err-clause-drops : goal.returns-in-Err-clause-drops
returns-in-Err-clause-drops g c = λ all is.
    drops_quiet c.args.parts.now.sessions.stages.items.items c.args.parts.now.journal c.list.new.journal all is c.in-Err.ensures.quiet

pub returns-in-Ok-drop_left-clause-drops : goal.returns-in-Ok-drop_left-clause-drops
returns-in-Ok-drop_left-clause-drops g c = λ all is.
    drops_then c.args.parts.now.sessions.stages.items.items c.args.parts.now.journal c.list.new.journal c.drop_left.new.journal all
    (drops_quiet c.args.parts.now.sessions.stages.items.items c.args.parts.now.journal c.list.new.journal all is c.in-Ok.ensures.quiet)
    c.in-Ok-drop_left.ensures.drops

pub returns-in-Ok-drop_left-clause-done : goal.returns-in-Ok-drop_left-clause-done
returns-in-Ok-drop_left-clause-done g c = λ all is.
    only_open c.args.parts.now.sessions.stages.items.items all c.in-Ok.files _ (c.in-Ok.ensures.found all is)
    (c.in-Ok-drop_left.ensures.done
    ∙ ap (λ (files : List FileId). option_map (without (is_left c.args.parts.now.sessions.stages.items.items) files)
    (told c.list.new.journal)) c.as_slice.ensures
    ∙ ap (option_map (without (is_left c.args.parts.now.sessions.stages.items.items) c.in-Ok.files)) (c.in-Ok.ensures.quiet.told_same ∙ is))
