use Rattle.std.specs.Prelude.{[], Some}
use Rattle.std.proofs.Common.{refl}
use Rattle.folder_laws.specs.Calls.{remove_call}
use Rattle.frame_puts.specs.Steps.{removal_step}
use Rattle.frame_puts.proofs.LaySteps.{laid, refused_at}
use Rattle.frame_puts.proofs.laying.lay_removal.Goals as goal

pub returns-in-Ok : goal.returns-in-Ok
returns-in-Ok g c =
    laid g.P.Port.moves c.args.port.now c.remove.new.port (λ stage. Some (removal_step c.args.dump c.args.path)) 0 (removal_step c.args.dump c.args.path) refl
    c.in-Ok.ensures.ok

pub returns-in-Err : goal.returns-in-Err
returns-in-Err g c =
    refused_at g.P.Port.moves c.args.port.now c.remove.new.port (λ stage. Some (removal_step c.args.dump c.args.path)) 0
    (removal_step c.args.dump c.args.path) [] (remove_call c.args.dump c.args.path) [] c.in-Err.refusal refl refl c.in-Err.ensures.err
