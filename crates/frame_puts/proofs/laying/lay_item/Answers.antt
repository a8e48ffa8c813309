use Rattle.std.specs.Prelude.{[], Some}
use Rattle.std.proofs.Common.{refl}
use Rattle.folder_laws.specs.Calls.{put_call}
use Rattle.frame_puts.specs.Steps.{whole_step}
use Rattle.frame_puts.proofs.LaySteps.{laid, refused_at}
use Rattle.frame_puts.proofs.laying.lay_item.Goals as goal

pub returns-in-Ok : goal.returns-in-Ok
returns-in-Ok g c =
    laid g.P.Port.moves c.args.port.now c.put_item.new.port (λ stage. Some (whole_step c.args.dump c.args.path c.args.item)) 0
    (whole_step c.args.dump c.args.path c.args.item) refl c.in-Ok.ensures.ok

pub returns-in-Err : goal.returns-in-Err
returns-in-Err g c =
    refused_at g.P.Port.moves c.args.port.now c.put_item.new.port (λ stage. Some (whole_step c.args.dump c.args.path c.args.item)) 0
    (whole_step c.args.dump c.args.path c.args.item) [] (put_call c.args.dump c.args.path c.args.item) [] c.in-Err.refusal refl refl c.in-Err.ensures.err
