use Rattle.std.specs.Prelude.{Some, []}
use Rattle.std.proofs.Common.{ap, ◌∙◌, arith}
use Rattle.frame_puts.specs.Steps.{file_item, whole_step, opening_step, waiting_step, file_step}
use Rattle.frame_puts.specs.StepLaws.{file_opens, file_waits, file_puts}
use Rattle.frame_puts.proofs.LaySteps.{laid, ends_as, item_as}
use Rattle.frame_puts.proofs.laying.lay_file.Goals as goal

pub returns-then-node-gt-PIECE : goal.returns-then-node-gt-PIECE
returns-then-node-gt-PIECE g c =
    ends_as g.P.Port.moves c.args.port.now c.lay_large.new.port (λ stage. Some (opening_step c.args.dump c.args.path c.args.node stage))
    (λ stage. Some (file_step c.args.dump c.args.path c.args.node stage)) c.lay_large.result
    (λ stage. ap Some (file_opens c.args.dump c.args.path c.args.node stage (omega (arith, c.if-node-gt-PIECE.true)))) c.lay_large.ensures

pub returns-then-node-gt0 : goal.returns-then-node-gt0
returns-then-node-gt0 g c =
    laid g.P.Port.moves c.args.port.now c.args.port.now (λ stage. Some (file_step c.args.dump c.args.path c.args.node stage)) 0
    (waiting_step c.args.path c.args.node)
    (ap Some (file_waits c.args.dump c.args.path c.args.node 0 (omega (arith, c.if-node-gt-PIECE.false)) (omega (arith, c.if-node-gt0.true))))
    (g.met.P.Port.none c.args.port.now)

pub returns : goal.returns
returns g c =
    ends_as g.P.Port.moves c.args.port.now c.lay_item.new.port (λ stage. Some (whole_step c.args.dump c.args.path (file_item c.args.node [])))
    (λ stage. Some (file_step c.args.dump c.args.path c.args.node stage)) c.lay_item.result
    (λ stage. ap Some (file_puts c.args.dump c.args.path c.args.node stage (omega (arith, c.if-node-gt0.false))))
    (item_as g.P.Port.moves c.args.port.now c.lay_item.new.port c.args.dump c.args.path c.file_item.result (file_item c.args.node []) c.lay_item.result
    (c.file_item.ensures ∙ ap (file_item c.args.node) c.new-bytes.ensures) c.lay_item.ensures)
