use Rattle.std.specs.Prelude.{Some}
use Rattle.std.proofs.Common.{refl, sym, ◌∙◌}
use Rattle.frame_puts.specs.Steps.{file_item, whole_step, only_step}
use Rattle.frame_puts.specs.StepLaws.{only_fits, only_foreign}
use Rattle.frame_puts.proofs.LaySteps.{ends_as, item_as}
use Rattle.frame_puts.proofs.laying.lay_only_piece.Goals as goal

pub returns-then-not-is_wanted : goal.returns-then-not-is_wanted
returns-then-not-is_wanted g c =
    (refl, λ stage. only_foreign c.args.dump c.args.file c.args.bytes (sym c.is_wanted.ensures ∙ c.if-not-is_wanted.true))

pub returns : goal.returns
returns g c =
    ends_as g.P.Port.moves c.args.port.now c.lay_item.new.port
    (λ stage. Some (whole_step c.args.dump c.args.file.path (file_item c.args.file.node c.args.bytes)))
    (λ stage. only_step c.args.dump c.args.file c.args.bytes) c.lay_item.result
    (λ stage. only_fits c.args.dump c.args.file c.args.bytes (sym c.is_wanted.ensures ∙ c.if-not-is_wanted.false))
    (item_as g.P.Port.moves c.args.port.now c.lay_item.new.port c.args.dump c.args.file.path c.file_item.result
    (file_item c.args.file.node c.args.bytes) c.lay_item.result c.file_item.ensures c.lay_item.ensures)
