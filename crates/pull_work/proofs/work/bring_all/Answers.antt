use Rattle.std.proofs.Common.{◌+◌, drop, refl, sym, ap, ◌∙◌, arith}
use Rattle.std.proofs.lemmas.List.{drop_all}
use Rattle.http_wire.specs.Wires.{seen_of}
use Rattle.pull_work.specs.declared.ends.PullEnd.TheVariants.{LinkFault}
use Rattle.pull_work.specs.Compared.{new_lines}
use Rattle.pull_work.specs.Script.{Bringing, Over}
use Rattle.pull_work.proofs.CountLaws.{still}
use Rattle.pull_work.proofs.GoesLaws.{stays, joined_by}
use Rattle.pull_work.proofs.PartLaws.{line_next, next_goes, all_brought}
use Rattle.pull_work.proofs.work.bring_all.Goals as goal

pub loop-line-init : goal.loop-line-init
loop-line-init g c = record {
  goes = stays g.P.Port.moves c.args.plan.now g.met.P.Port.none c.args.home.now (seen_of c.args.wire.now)
      (Bringing c.args.base (new_lines c.args.next c.args.lines.now) 0);
  few = omega arith;
  faultless = refl;
}

pub returns-in-Err-clause-goes : goal.returns-in-Err-clause-goes
returns-in-Err-clause-goes g c =
    let rest = new_lines c.args.next (drop (c.loop-line.line-index + 1) c.args.lines.now) in
    next_goes g.P.Port.moves g.met.P.Port.joined c.args.plan.now c.args.home.now c.loop-line.home c.bring.new.home (seen_of c.args.wire.now)
    (seen_of c.loop-line.wire) (seen_of c.bring.new.wire) (Bringing c.args.base (new_lines c.args.next c.args.lines.now) 0) c.loop-line.newest
    (new_lines c.args.next (drop c.loop-line.line-index c.args.lines.now)) _ rest c.loop-line.done (Over c.in-Err.end)
    (line_next c.args.next c.args.lines.now c.loop-line.line-index _ c.loop-line-test.true (sym c.is_new.ensures ∙ c.if-not-is_new.false))
    c.loop-line.invariant.goes (c.in-Err.ensures.goes rest c.loop-line.done)

pub loop-line-preserved : goal.loop-line-preserved
loop-line-preserved g c =
    let rest = new_lines c.args.next (drop (c.loop-line.line-index + 1) c.args.lines.now) in
    record {
      goes = next_goes g.P.Port.moves g.met.P.Port.joined c.args.plan.now c.args.home.now c.loop-line.home c.bring.new.home (seen_of c.args.wire.now)
          (seen_of c.loop-line.wire) (seen_of c.bring.new.wire) (Bringing c.args.base (new_lines c.args.next c.args.lines.now) 0) c.loop-line.newest
          (new_lines c.args.next (drop c.loop-line.line-index c.args.lines.now)) _ rest c.loop-line.done _
          (line_next c.args.next c.args.lines.now c.loop-line.line-index _ c.loop-line-test.true (sym c.is_new.ensures ∙ c.if-not-is_new.false))
          c.loop-line.invariant.goes (c.in-Ok.ensures.goes rest c.loop-line.done);
      few = omega arith;
      faultless = still _ _ _ LinkFault c.in-Ok.ensures.counted ∙ c.loop-line.invariant.faultless;
    }

pub returns-clause-goes : goal.returns-clause-goes
returns-clause-goes g c =
    joined_by g.P.Port.moves c.args.plan.now g.met.P.Port.joined c.args.home.now c.loop-line.home c.loop-line.home (seen_of c.args.wire.now)
    (seen_of c.loop-line.wire) (seen_of c.loop-line.wire) (Bringing c.args.base (new_lines c.args.next c.args.lines.now) 0)
    (Bringing c.loop-line.newest (new_lines c.args.next (drop c.loop-line.line-index c.args.lines.now)) c.loop-line.done) _
    c.loop-line.invariant.goes
    (all_brought g.P.Port.moves g.met.P.Port.none c.args.plan.now c.loop-line.home (seen_of c.loop-line.wire) c.loop-line.newest
    (new_lines c.args.next (drop c.loop-line.line-index c.args.lines.now)) c.loop-line.done
    (ap (new_lines c.args.next) (drop_all c.loop-line.line-index c.args.lines.now c.loop-line-test.false)))
