use Rattle.std.specs.Prelude.{[], ◌∷◌, Some, Ok, Err}
use Rattle.std.proofs.Common.{refl}
use Rattle.office_model.specs.declared.answer.Answer.TheVariants as A
use Rattle.office_model.specs.Step.{Call}
use Rattle.folder_laws.specs.Calls.{piece_call}
use Rattle.frame_puts.specs.Steps.{node_put, last_step}
use Rattle.frame_puts.proofs.LaySteps.{laid, refused_at}
use Rattle.frame_puts.proofs.laying.lay_last_piece.Goals as goal

pub returns-in-Err : goal.returns-in-Err
returns-in-Err g c =
    let put : Call = (node_put c.args.dump c.args.file.path c.args.file.node c.args.file.stage, Ok A.Done) in
    refused_at g.P.Port.moves c.args.port.now c.send_piece.new.port (λ stage. Some (last_step c.args.dump c.args.file c.args.bytes)) 0
    (last_step c.args.dump c.args.file c.args.bytes) [] (piece_call c.args.file.stage c.args.bytes) (put ∷ []) c.in-Err.refusal refl refl c.in-Err.ensures.err

pub returns-in-Ok-put_staged : goal.returns-in-Ok-put_staged
returns-in-Ok-put_staged g c =
    let put : Call = (node_put c.args.dump c.args.file.path c.args.file.node c.args.file.stage, Ok A.Done) in
    laid g.P.Port.moves c.args.port.now c.put_staged.new.port (λ stage. Some (last_step c.args.dump c.args.file c.args.bytes)) 0
    (last_step c.args.dump c.args.file c.args.bytes) refl
    (g.met.P.Port.joined c.args.port.now c.send_piece.new.port c.put_staged.new.port (piece_call c.args.file.stage c.args.bytes ∷ []) (put ∷ [])
    c.in-Ok.ensures.ok c.in-Ok-put_staged.ensures.ok)

pub returns-in-Err-put_staged : goal.returns-in-Err-put_staged
returns-in-Err-put_staged g c =
    let event = node_put c.args.dump c.args.file.path c.args.file.node c.args.file.stage in
    refused_at g.P.Port.moves c.args.port.now c.put_staged.new.port (λ stage. Some (last_step c.args.dump c.args.file c.args.bytes)) 0
    (last_step c.args.dump c.args.file c.args.bytes) (piece_call c.args.file.stage c.args.bytes ∷ []) (event, Ok A.Done) [] c.in-Err-put_staged.refusal
    refl refl
    (g.met.P.Port.joined c.args.port.now c.send_piece.new.port c.put_staged.new.port (piece_call c.args.file.stage c.args.bytes ∷ [])
    ((event, Err c.in-Err-put_staged.refusal) ∷ []) c.in-Ok.ensures.ok c.in-Err-put_staged.ensures.err)
