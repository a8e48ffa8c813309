use Rattle.std.proofs.Common.{refl, sym, ap, subst}
use Rattle.frame_puts.specs.Steps.{small_step}
use Rattle.frame_puts.specs.Laid.{Ends}
use Rattle.frame_puts.proofs.laying.lay_small.Goals as goal

pub returns-in-Piece : goal.returns-in-Piece
returns-in-Piece g c =
    subst (λ frame. Ends g.P.Port.moves c.args.port.now c.lay_only_piece.new.port (λ stage. small_step c.args.dump c.args.file frame) c.lay_only_piece.result)
    (sym c.in-Piece.is) c.lay_only_piece.ensures

pub returns-in-Deleted : goal.returns-in-Deleted
returns-in-Deleted g c = (refl, λ stage. ap (small_step c.args.dump c.args.file) c.in-Deleted.is)

pub returns-in-Entry : goal.returns-in-Entry
returns-in-Entry g c = (refl, λ stage. ap (small_step c.args.dump c.args.file) c.in-Entry.is)

pub returns-in-End : goal.returns-in-End
returns-in-End g c = (refl, λ stage. ap (small_step c.args.dump c.args.file) c.in-End.is)
