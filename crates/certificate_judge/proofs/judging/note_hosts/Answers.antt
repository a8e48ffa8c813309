-- One host more, and all of them.
use Rattle.std.proofs.Common.{length}
use Rattle.certificate_judge.specs.Judging.{ids_in}
use Rattle.certificate_judge.proofs.Runs.{note_more_hosts, noted_all_hosts, noting_no_hosts}
use Rattle.certificate_judge.proofs.judging.note_hosts.Goals as goal

pub loop-i-init : goal.loop-i-init
loop-i-init c = λ offsets parts are fits rising below before.
    noting_no_hosts (ids_in c.args.pool.now) offsets parts c.args.hosts.now c.new-reader.result c.args.tally c.new-reader.ensures are fits before

pub loop-i-preserved : goal.loop-i-preserved
loop-i-preserved c = λ offsets parts are fits rising below before.
    note_more_hosts (ids_in c.args.pool.now) offsets parts (length c.args.hosts.now.bytes.now) c.loop-i.reader c.loop-i.now c.loop-i._i c.args.hosts.now.count
    c.note_next_host-now.new.reader c.note_next_host-now.result c.loop-i-test.true below (c.loop-i.invariant offsets parts are fits rising below before)
    (λ os h rest fit e small now. c.note_next_host-now.ensures os h rest fit rising e small now)

pub returns : goal.returns
returns c = λ offsets parts are fits rising below before.
    noted_all_hosts (ids_in c.args.pool.now) offsets parts (length c.args.hosts.now.bytes.now) c.loop-i.reader c.loop-i.now c.loop-i._i c.args.hosts.now.count
    c.loop-i-test.false (c.loop-i.invariant offsets parts are fits rising below before)
