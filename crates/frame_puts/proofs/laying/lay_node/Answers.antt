use Rattle.std.specs.Prelude.{Some}
use Rattle.std.proofs.Common.{sym, subst}
use Rattle.frame_puts.specs.Steps.{node_step}
use Rattle.frame_puts.specs.Laid.{Ends}
use Rattle.frame_puts.proofs.laying.lay_node.Goals as goal

pub returns-in-File : goal.returns-in-File
returns-in-File g c =
    subst (λ node. Ends g.P.Port.moves c.args.port.now c.lay_file.new.port (λ stage. Some (node_step c.args.dump c.args.path node stage)) c.lay_file.result)
    (sym c.in-File.is) c.lay_file.ensures

pub returns-in-Dir : goal.returns-in-Dir
returns-in-Dir g c =
    subst (λ node. Ends g.P.Port.moves c.args.port.now c.lay_item.new.port (λ stage. Some (node_step c.args.dump c.args.path node stage)) c.lay_item.result)
    (sym c.in-Dir.is) c.lay_item.ensures

pub returns-in-Link : goal.returns-in-Link
returns-in-Link g c =
    subst (λ node. Ends g.P.Port.moves c.args.port.now c.lay_item-in-Link.new.port (λ stage. Some (node_step c.args.dump c.args.path node stage)) c.lay_item-in-Link.result)
    (sym c.in-Link.is) c.lay_item-in-Link.ensures
