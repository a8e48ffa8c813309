use Rattle.std.proofs.Common.{refl, sym, ap, subst}
use Rattle.frame_puts.specs.Steps.{frame_step}
use Rattle.frame_puts.specs.Laid.{Ends}
use Rattle.frame_puts.proofs.laying.lay.Goals as goal

pub returns-in-Nothing : goal.returns-in-Nothing
returns-in-Nothing g c =
    subst (λ laying. Ends g.P.Port.moves c.args.port.now c.lay_first.new.port (λ stage. frame_step c.args.dump laying stage c.args.frame) c.lay_first.result)
    (sym c.in-Nothing.is) c.lay_first.ensures

pub returns-in-Small : goal.returns-in-Small
returns-in-Small g c =
    subst (λ laying. Ends g.P.Port.moves c.args.port.now c.lay_small.new.port (λ stage. frame_step c.args.dump laying stage c.args.frame) c.lay_small.result)
    (sym c.in-Small.is) c.lay_small.ensures

pub returns-in-Large : goal.returns-in-Large
returns-in-Large g c =
    subst (λ laying. Ends g.P.Port.moves c.args.port.now c.lay_next.new.port (λ stage. frame_step c.args.dump laying stage c.args.frame) c.lay_next.result)
    (sym c.in-Large.is) c.lay_next.ensures

pub returns-in-Ended : goal.returns-in-Ended
returns-in-Ended g c = (refl, λ stage. ap (λ laying. frame_step c.args.dump laying stage c.args.frame) c.in-Ended.is)
