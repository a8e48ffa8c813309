use Rattle.std.specs.Prelude.{[], Some}
use Rattle.std.proofs.Common.{refl}
use Rattle.folder_laws.specs.Calls.{piece_call}
use Rattle.frame_puts.specs.Steps.{more_step}
use Rattle.frame_puts.proofs.LaySteps.{laid, refused_at}
use Rattle.frame_puts.proofs.laying.lay_more.Goals as goal

pub returns-in-Ok : goal.returns-in-Ok
returns-in-Ok g c =
    laid g.P.Port.moves c.args.port.now c.send_piece.new.port (λ stage. Some (more_step c.args.file c.args.left c.args.bytes)) 0
    (more_step c.args.file c.args.left c.args.bytes) refl c.in-Ok.ensures.ok

pub returns-in-Err : goal.returns-in-Err
returns-in-Err g c =
    refused_at g.P.Port.moves c.args.port.now c.send_piece.new.port (λ stage. Some (more_step c.args.file c.args.left c.args.bytes)) 0
    (more_step c.args.file c.args.left c.args.bytes) [] (piece_call c.args.file.stage c.args.bytes) [] c.in-Err.refusal refl refl c.in-Err.ensures.err
