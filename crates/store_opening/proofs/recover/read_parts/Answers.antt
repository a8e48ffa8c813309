use Rattle.std.proofs.Common.{inl, ◌∙◌}
use Rattle.journal_view.specs.ViewLaws.{Quiet-then}
use Rattle.store_opening.proofs.Recovering.{pool_known, foreign_hosts, hosts_known}
use Rattle.store_opening.proofs.recover.read_parts.Goals as goal

pub returns-in-Err-clause-foreign : goal.returns-in-Err-clause-foreign
returns-in-Err-clause-foreign g c = λ file found e. inl (c.in-Err.ensures.foreign file found e)

pub returns-in-Err-clause-known : goal.returns-in-Err-clause-known
returns-in-Err-clause-known g c = λ a b holds file found e.
    pool_known _ _ a b holds (λ all index is tells have. c.in-Err.ensures.complete all index is tells have file found e)

pub returns-in-Ok-read_hosts-clause-catalog : goal.returns-in-Ok-read_hosts-clause-catalog
returns-in-Ok-read_hosts-clause-catalog g c = λ all is. c.in-Ok-read_hosts.ensures.catalog all (c.in-Ok.ensures.quiet.told_same ∙ is)

pub returns-in-Ok-read_hosts-clause-counts : goal.returns-in-Ok-read_hosts-clause-counts
returns-in-Ok-read_hosts-clause-counts g c = λ all is. c.in-Ok-read_hosts.ensures.counts all (c.in-Ok.ensures.quiet.told_same ∙ is)

pub returns-in-Ok-read_hosts-clause-partials : goal.returns-in-Ok-read_hosts-clause-partials
returns-in-Ok-read_hosts-clause-partials g c = λ all is. c.in-Ok-read_hosts.ensures.partials all (c.in-Ok.ensures.quiet.told_same ∙ is)

pub returns-in-Ok-read_hosts-clause-quiet : goal.returns-in-Ok-read_hosts-clause-quiet
returns-in-Ok-read_hosts-clause-quiet g c = Quiet-then c.args.journal.now c.read_pool.new.journal _ c.in-Ok.ensures.quiet
    c.in-Ok-read_hosts.ensures.quiet

pub returns-in-Err-read_hosts-clause-foreign : goal.returns-in-Err-read_hosts-clause-foreign
returns-in-Err-read_hosts-clause-foreign g c = λ file found e.
    foreign_hosts _ _ file found c.in-Ok.ensures.quiet.told_same (c.in-Err-read_hosts.ensures.foreign file found e)

pub returns-in-Err-read_hosts-clause-known : goal.returns-in-Err-read_hosts-clause-known
returns-in-Err-read_hosts-clause-known g c = λ a b holds file found e.
    hosts_known _ _ a b holds (λ all office is s.
    c.in-Err-read_hosts.ensures.complete g.N.Namer.digest_of all office (c.in-Ok.ensures.quiet.told_same ∙ is) s file found e)

pub returns-in-Err-read_hosts-clause-quiet : goal.returns-in-Err-read_hosts-clause-quiet
returns-in-Err-read_hosts-clause-quiet g c = Quiet-then c.args.journal.now c.read_pool.new.journal _ c.in-Ok.ensures.quiet
    c.in-Err-read_hosts.ensures.quiet
