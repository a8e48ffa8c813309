use Rattle.std.proofs.Common.{sym, ap, ◌∙◌, subst}
use Rattle.journal_view.specs.View.{told}
use Rattle.store_parts.specs.Refusals.{IsReadFault}
use Rattle.store_dumps.specs.Base.{newest_line, IsBaseFault}
use Rattle.store_dumps.proofs.Hosts.{index_read}
use Rattle.store_dumps.proofs.Bases.{begins_none, begins_newest, tells_none, tells_newest, newest_fault, newest_damaged}
use Rattle.store_dumps.proofs.base.newest_tree.Goals as goal

pub returns-in-None-clause-base : goal.returns-in-None-clause-base
returns-in-None-clause-base g c =
    begins_none c.args.parts.now c.args.host c.index-hosts-host.result
    (index_read _ _ _ _ c.hosts.ensures.hosts c.requires.host c.index-hosts-host.is)
    (ap newest_line (sym (c.lines-2.ensures ∙ c.lines.ensures.lines)) ∙ sym c.in-None.ensures.value) _

pub returns-in-Ok-clause-base : goal.returns-in-Ok-clause-base
returns-in-Ok-clause-base g c =
    begins_newest _ c.args.host c.index-hosts-host.result
    (index_read _ _ _ _ c.hosts.ensures.hosts c.requires.host c.index-hosts-host.is) c.in-Some.line.now
    (ap newest_line (sym (c.lines-2.ensures ∙ c.lines.ensures.lines)) ∙ sym c.in-Some.ensures.value)
    (told c.args.parts.now.journal) c.in-Ok.rows c.in-Ok.ensures.quiet.told_same c.in-Ok.ensures.tree

pub returns-in-Err-clause-fault : goal.returns-in-Err-clause-fault
returns-in-Err-clause-fault g c =
    subst (IsReadFault c.args.parts.now) (sym c.refusal_of_view.ensures.value)
    (newest_fault c.args.parts.now c.args.host c.index-hosts-host.result
    (index_read _ _ _ _ c.hosts.ensures.hosts c.requires.host c.index-hosts-host.is) c.in-Some.line.now
    (ap newest_line (sym (c.lines-2.ensures ∙ c.lines.ensures.lines)) ∙ sym c.in-Some.ensures.value)
    c.in-Err.fault c.in-Err.ensures.damaged)

pub returns-in-None-clause-tells : goal.returns-in-None-clause-tells
returns-in-None-clause-tells g c =
    tells_none c.args.parts.now c.args.host c.index-hosts-host.result
    (index_read _ _ _ _ c.hosts.ensures.hosts c.requires.host c.index-hosts-host.is)
    (ap newest_line (sym (c.lines-2.ensures ∙ c.lines.ensures.lines)) ∙ sym c.in-None.ensures.value) c.new.result c.new.ensures

pub returns-in-Ok-clause-tells : goal.returns-in-Ok-clause-tells
returns-in-Ok-clause-tells g c =
    tells_newest c.args.parts.now c.args.host c.index-hosts-host.result
    (index_read _ _ _ _ c.hosts.ensures.hosts c.requires.host c.index-hosts-host.is) c.in-Some.line.now
    (ap newest_line (sym (c.lines-2.ensures ∙ c.lines.ensures.lines)) ∙ sym c.in-Some.ensures.value)
    c.in-Ok.rows c.in-Ok.ensures.tells

pub returns-in-Err-clause-damaged : goal.returns-in-Err-clause-damaged
returns-in-Err-clause-damaged g c =
    subst (IsBaseFault c.args.parts.now c.args.host) (sym c.refusal_of_view.ensures.value)
    (newest_damaged c.args.parts.now c.args.host c.index-hosts-host.result
    (index_read _ _ _ _ c.hosts.ensures.hosts c.requires.host c.index-hosts-host.is) c.in-Some.line.now
    (ap newest_line (sym (c.lines-2.ensures ∙ c.lines.ensures.lines)) ∙ sym c.in-Some.ensures.value)
    c.in-Err.fault c.in-Err.ensures.damaged)
