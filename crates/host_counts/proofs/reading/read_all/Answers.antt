-- The counts of one host more, and of all.
use Rattle.std.proofs.Common.{◌∙◌, ℕ, subst, arith}
use Rattle.journal_view.specs.ViewLaws.{Quiet-then}
use Rattle.host_counts.specs.Held.{AreTold}
use Rattle.host_counts.proofs.AllRead.{more_read}
use Rattle.host_counts.proofs.reading.read_all.Goals as goal

pub loop-host-preserved : goal.loop-host-preserved
loop-host-preserved g c =
    let before = c.loop-host.invariant in
    record {
      ready = c.in-Ok.ensures.quiet.halted_same ∙ before.ready;
      still = c.in-Ok.ensures.counted.stays (λ e. absurd cc) ∙ before.still;
      quiet = Quiet-then c.args.journal.now c.loop-host.journal c.read_counts_of.new.journal before.quiet c.in-Ok.ensures.quiet;
      read = more_read _ _ c.loop-host.host c.loop-host.held c.push.new.self c.in-Ok.counts before.quiet.told_same before.read
          c.in-Ok.ensures.told c.push.ensures;
    }

pub returns-clause-told : goal.returns-clause-told
returns-clause-told g c = λ all is.
    subst (λ (hosts : ℕ). AreTold all hosts c.loop-host.held) (omega (arith, c.loop-host-test.false, c.loop-host.auto.host-end))
    (c.loop-host.invariant.read.are all is)
