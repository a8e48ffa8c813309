use Rattle.std.proofs.Common.{refl, sym, ap, subst}
use Rattle.frame_puts.specs.Steps.{first_step, end_step}
use Rattle.frame_puts.specs.Laid.{Ends}
use Rattle.frame_puts.proofs.LaySteps.{laid}
use Rattle.frame_puts.proofs.laying.lay_first.Goals as goal

pub returns-in-Deleted : goal.returns-in-Deleted
returns-in-Deleted g c =
    subst (λ frame. Ends g.P.Port.moves c.args.port.now c.lay_removal.new.port (λ stage. first_step c.args.dump stage frame) c.lay_removal.result)
    (sym c.in-Deleted.is) c.lay_removal.ensures

pub returns-in-Entry : goal.returns-in-Entry
returns-in-Entry g c =
    subst (λ frame. Ends g.P.Port.moves c.args.port.now c.lay_node.new.port (λ stage. first_step c.args.dump stage frame) c.lay_node.result)
    (sym c.in-Entry.is) c.lay_node.ensures

pub returns-in-Piece : goal.returns-in-Piece
returns-in-Piece g c = (refl, λ stage. ap (first_step c.args.dump stage) c.in-Piece.is)

pub returns : goal.returns
returns g c =
    laid g.P.Port.moves c.args.port.now c.args.port.now (λ stage. first_step c.args.dump stage c.args.frame) 0 end_step
    (ap (first_step c.args.dump 0) c.in-End.is) (g.met.P.Port.none c.args.port.now)
