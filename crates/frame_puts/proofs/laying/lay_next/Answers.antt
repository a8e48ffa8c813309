use Rattle.std.proofs.Common.{refl, sym, ap, subst}
use Rattle.frame_puts.specs.Steps.{large_step}
use Rattle.frame_puts.specs.Laid.{Ends}
use Rattle.frame_puts.proofs.laying.lay_next.Goals as goal

pub returns-in-Piece : goal.returns-in-Piece
returns-in-Piece g c =
    subst (λ frame. Ends g.P.Port.moves c.args.port.now c.lay_piece.new.port (λ stage. large_step c.args.dump c.args.file frame) c.lay_piece.result)
    (sym c.in-Piece.is) c.lay_piece.ensures

pub returns-in-Deleted : goal.returns-in-Deleted
returns-in-Deleted g c = (refl, λ stage. ap (large_step c.args.dump c.args.file) c.in-Deleted.is)

pub returns-in-Entry : goal.returns-in-Entry
returns-in-Entry g c = (refl, λ stage. ap (large_step c.args.dump c.args.file) c.in-Entry.is)

pub returns-in-End : goal.returns-in-End
returns-in-End g c = (refl, λ stage. ap (large_step c.args.dump c.args.file) c.in-End.is)
