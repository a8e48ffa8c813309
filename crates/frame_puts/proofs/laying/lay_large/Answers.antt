use Rattle.std.specs.Prelude.{[], Some, Ok}
use Rattle.std.proofs.Common.{refl}
use Rattle.office_model.specs.declared.event.Event.TheVariants as E
use Rattle.office_model.specs.declared.answer.Answer.TheVariants as A
use Rattle.frame_puts.specs.Steps.{opening_step}
use Rattle.frame_puts.proofs.LaySteps.{laid, refused_at}
use Rattle.frame_puts.proofs.laying.lay_large.Goals as goal

pub returns-in-Ok : goal.returns-in-Ok
returns-in-Ok g c =
    laid g.P.Port.moves c.args.port.now c.open_stage.new.port (λ stage. Some (opening_step c.args.dump c.args.path c.args.node stage)) c.in-Ok.stage
    (opening_step c.args.dump c.args.path c.args.node c.in-Ok.stage) refl c.in-Ok.ensures.ok

pub returns-in-Err : goal.returns-in-Err
returns-in-Err g c =
    refused_at g.P.Port.moves c.args.port.now c.open_stage.new.port (λ stage. Some (opening_step c.args.dump c.args.path c.args.node stage)) 0
    (opening_step c.args.dump c.args.path c.args.node 0) [] (E.StageOpen c.args.dump, Ok (A.Stage 0)) [] c.in-Err.refusal refl refl c.in-Err.ensures.err
