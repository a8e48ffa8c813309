use Rattle.std.proofs.Common.{◌≡◌, ◌-◌, suc, rules, arith, Ok, Err}
use Rattle.http_wire.specs.Wires.{written_of}
use Rattle.browse_http.specs.declared.end.End.TheVariants.{LinkFault}
use Rattle.browse_http.proofs.FileLemmas.{SendsParts-more, SendsParts-done, SendsParts-end, SendsParts-refused, SendsParts-failed}
use Rattle.browse_http.proofs.files.send_parts.Goals as goal

pub loop-left-preserved : goal.loop-left-preserved
loop-left-preserved g c =
    let so_far = c.loop-left.invariant in
    let one : c.loop-left.left ≡ suc (c.loop-left.left - 1) = omega (arith, c.loop-left-test.true) in
    record {
      leads = λ new u result later.
          so_far.leads new u result
          (SendsParts-more _ g.met.P.Port.joined c.args.reader _ _ _ _ _ _ _ (c.loop-left.left - 1) result one c.in-More.ensures.took later);
      left = search rules;
      same = search rules;
    }

pub returns-in-End-clause-sends : goal.returns-in-End-clause-sends
returns-in-End-clause-sends g c =
    let one : c.loop-left.left ≡ suc (c.loop-left.left - 1) = omega (arith, c.loop-left-test.true) in
    c.loop-left.invariant.leads c.close_file.new.port (written_of c.send_part.new.wire) (Ok tt)
    (SendsParts-end _ g.met.P.Port.joined c.args.reader _ _ _ _ _ _ (c.loop-left.left - 1) tt c.close_file.ensures.0 one c.in-End.ensures.took.0
    c.in-End.ensures.took.1 c.close_file.ensures.1)

pub returns-in-Refused-clause-sends : goal.returns-in-Refused-clause-sends
returns-in-Refused-clause-sends g c =
    let one : c.loop-left.left ≡ suc (c.loop-left.left - 1) = omega (arith, c.loop-left-test.true) in
    c.loop-left.invariant.leads c.close_file-in-Refused.new.port (written_of c.send_part.new.wire) (Err c.cut_end.result)
    (SendsParts-refused _ g.met.P.Port.joined c.args.reader _ _ _ _ _ _ (c.loop-left.left - 1) c.in-Refused.refusal c.cut_end.result
    c.close_file-in-Refused.ensures.0 one c.in-Refused.ensures.took.0 c.in-Refused.ensures.took.1 c.close_file-in-Refused.ensures.1 c.cut_end.ensures)

pub returns-in-Failed-clause-sends : goal.returns-in-Failed-clause-sends
returns-in-Failed-clause-sends g c =
    let one : c.loop-left.left ≡ suc (c.loop-left.left - 1) = omega (arith, c.loop-left-test.true) in
    c.loop-left.invariant.leads c.close_file-in-Failed.new.port (written_of c.send_part.new.wire) (Err LinkFault)
    (SendsParts-failed _ g.met.P.Port.joined c.args.reader _ _ _ _ _ _ (c.loop-left.left - 1) c.close_file-in-Failed.ensures.0 one c.in-Failed.ensures.took
    c.close_file-in-Failed.ensures.1)

pub returns-clause-sends : goal.returns-clause-sends
returns-clause-sends g c =
    c.loop-left.invariant.leads c.close_file-2.new.port (written_of c.loop-left.wire) (Ok tt)
    (SendsParts-done _ g.met.P.Port.joined c.args.reader _ _ _ _ tt c.close_file-2.ensures.0 (omega (arith, c.loop-left-test.false)) c.close_file-2.ensures.1)
