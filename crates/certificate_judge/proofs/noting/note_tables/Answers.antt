-- One table more, and all of them.
use Rattle.std.proofs.Common.{length}
use Rattle.certificate_judge.specs.Judging.{is_unknown_in}
use Rattle.certificate_judge.proofs.Runs.{note_more, noted_all, noting_none}
use Rattle.certificate_judge.proofs.noting.note_tables.Goals as goal

pub loop-i-init : goal.loop-i-init
loop-i-init c = λ offsets ts known are fits below before.
    noting_none (is_unknown_in c.args.known.now) offsets c.args.at ts c.args.tables.now c.new-reader.result c.args.tally c.new-reader.ensures are fits before

pub loop-i-preserved : goal.loop-i-preserved
loop-i-preserved c = λ offsets ts known are fits below before.
    note_more (is_unknown_in c.args.known.now) offsets c.args.at ts (length c.args.tables.now.bytes.now) c.loop-i.reader c.loop-i.now c.loop-i._i c.args.tables.now.count
    c.note_next-now.new.reader c.note_next-now.result c.loop-i-test.true below (c.loop-i.invariant offsets ts known are fits below before)
    (λ os t rest fit e small now. c.note_next-now.ensures os t rest known fit e small now)

pub returns : goal.returns
returns c = λ offsets ts known are fits below before.
    noted_all (is_unknown_in c.args.known.now) offsets c.args.at ts (length c.args.tables.now.bytes.now) c.loop-i.reader c.loop-i.now c.loop-i._i c.args.tables.now.count
    c.loop-i-test.false (c.loop-i.invariant offsets ts known are fits below before)
