use Rattle.std.proofs.Common.{sym, subst, ◌∙◌}
use Rattle.backup_index.specs.Names.{AreNames}
use Rattle.journal_view.specs.ViewLaws.{Quiet-then}
use Rattle.office_catalog.proofs.Opens.{fresh_read, fault_read, more_read, all_read}
use Rattle.office_catalog.proofs.opening.read_hosts.Goals as goal

pub read_next-requires-clause-fresh : goal.read_next-requires-clause-fresh
read_next-requires-clause-fresh g c =
    fresh_read _ _ _ _ _ c.name-item.result c.loop-name-test.true (subst AreNames (sym c.names-name-items.ensures.names) c.names-name-items.ensures.are) c.name-item.is c.loop-name.invariant.read

pub returns-in-Err-clause-foreign : goal.returns-in-Err-clause-foreign
returns-in-Err-clause-foreign g c = λ tells.
    fault_read _ _ c.args.head.now _ _ _ c.name-item.result c.in-Err.fault c.loop-name.invariant.quiet.told_same c.names-name-items.ensures.names c.loop-name-test.true c.name-item.is
    c.loop-name.invariant.read c.in-Err.ensures.foreign tells

pub loop-name-preserved : goal.loop-name-preserved
loop-name-preserved g c =
    let before = c.loop-name.invariant in
    record {
      ready = c.in-Ok.ensures.quiet.halted_same ∙ before.ready;
      still = c.in-Ok.ensures.counted.stays (λ e. absurd (cc)) ∙ before.still;
      quiet = Quiet-then c.args.journal.now c.loop-name.journal c.read_next.new.journal before.quiet c.in-Ok.ensures.quiet;
      read = more_read _ _ _ _ _ _ _ c.name-item.result before.quiet.told_same c.loop-name-test.true c.name-item.is before.read c.in-Ok.ensures.pushed;
    }

pub returns-clause-opened : goal.returns-clause-opened
returns-clause-opened g c = λ all is holds.
    all_read _ c.args.head.now _ _ _ c.names-name-items.ensures.names c.loop-name-test.false c.loop-name.invariant.read c.hosts-hosts.ensures.are all is holds
