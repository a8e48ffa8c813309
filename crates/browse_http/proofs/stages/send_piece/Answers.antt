use Rattle.std.proofs.Common.{ℕ, List, ap, refl}
use Rattle.office_model.specs.declared.event.Event.TheVariants as E
use Rattle.browse_http.proofs.StageLemmas.{Refuses-made}
use Rattle.browse_http.proofs.stages.send_piece.Goals as goal

pub returns-in-Err-clause-err : goal.returns-in-Err-clause-err
returns-in-Err-clause-err g c =
    Refuses-made _ g.met.P.Port.joined _ _ _ _ _ _ _ c.in-Err.refusal (ap (λ (xs : List ℕ). E.StagePiece c.args.stage xs) c.from_vec.ensures) refl
    (rw c.from_vec.ensures at c.in-Err.ensures.moved) (rw c.piece_drops.ensures at c.drop_if.ensures)
