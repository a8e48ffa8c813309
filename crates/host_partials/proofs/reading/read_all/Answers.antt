-- The partial of one host more, and of all.
use Rattle.std.proofs.Common.{◌∙◌, ℕ, subst, arith}
use Rattle.journal_view.specs.ViewLaws.{Quiet-then}
use Rattle.host_partials.specs.Held.{AreTold}
use Rattle.host_partials.specs.ReadLaws.{tells_head}
use Rattle.host_partials.proofs.AllRead.{more_read}
use Rattle.host_partials.proofs.reading.read_all.Goals as goal

pub loop-host-preserved : goal.loop-host-preserved
loop-host-preserved g c =
    let before = c.loop-host.invariant in
    record {
      ready = c.in-Ok.ensures.quiet.halted_same ∙ before.ready;
      still = c.in-Ok.ensures.counted.stays (λ e. absurd cc) ∙ before.still;
      quiet = Quiet-then c.args.journal.now c.loop-host.journal c.read_partial_of.new.journal before.quiet c.in-Ok.ensures.quiet;
      read = more_read _ _ c.loop-host.host c.loop-host.held c.push.new.self c.head_of.result before.quiet.told_same before.read
          (λ all is. tells_head c.loop-host.host c.head_of.result c.in-Ok.partial _ (c.in-Ok.ensures.told all is) c.head_of.ensures) c.push.ensures;
    }

pub returns-clause-told : goal.returns-clause-told
returns-clause-told g c = λ all is.
    subst (λ (hosts : ℕ). AreTold all hosts c.loop-host.held) (omega (arith, c.loop-host-test.false, c.loop-host.auto.host-end))
    (c.loop-host.invariant.read.are all is)
