use Rattle.std.proofs.Common.{◌∙◌, sym, subst}
use Rattle.store_parts.specs.Refusals.{IsReadFault}
use Rattle.store_reads.specs.Told.{IsTableFault}
use Rattle.store_reads.proofs.Loading.{index_read, read_tree_is, read_tells, read_fault, read_damaged}
use Rattle.store_reads.proofs.tree.read_at.Goals as goal

pub returns-in-Ok-clause-tree : goal.returns-in-Ok-clause-tree
returns-in-Ok-clause-tree g c =
    let index = index_read _ _ _ _ c.hosts.ensures.hosts c.requires.host c.index-hosts-host.is in
    read_tree_is c.args.parts.now c.args.host c.args.line _ _ index
    (c.lines-lines.ensures ∙ c.lines.ensures.lines) c.in-Ok.tree c.in-Ok.ensures.tree

pub returns-in-Err-clause-fault : goal.returns-in-Err-clause-fault
returns-in-Err-clause-fault g c =
    let index = index_read _ _ _ _ c.hosts.ensures.hosts c.requires.host c.index-hosts-host.is in
    subst (IsReadFault c.args.parts.now) (sym c.refusal_of_view.ensures.value)
    (read_fault c.args.parts.now c.args.host c.args.line _ _ index
    (c.lines-lines.ensures ∙ c.lines.ensures.lines) c.in-Err.fault c.in-Err.ensures.damaged)

pub returns-in-Ok-clause-tells : goal.returns-in-Ok-clause-tells
returns-in-Ok-clause-tells g c =
    let index = index_read _ _ _ _ c.hosts.ensures.hosts c.requires.host c.index-hosts-host.is in
    read_tells c.args.parts.now c.args.host c.args.line _ _ index
    (c.lines-lines.ensures ∙ c.lines.ensures.lines) c.in-Ok.tree c.in-Ok.ensures.tells

pub returns-in-Err-clause-damaged : goal.returns-in-Err-clause-damaged
returns-in-Err-clause-damaged g c =
    let index = index_read _ _ _ _ c.hosts.ensures.hosts c.requires.host c.index-hosts-host.is in
    subst (IsTableFault c.args.parts.now c.args.host c.args.line) (sym c.refusal_of_view.ensures.value)
    (read_damaged c.args.parts.now c.args.host c.args.line _ _ index
    (c.lines-lines.ensures ∙ c.lines.ensures.lines) c.in-Err.fault c.in-Err.ensures.damaged)
