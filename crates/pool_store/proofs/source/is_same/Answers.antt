use Rattle.std.proofs.Common.{sym, ◌∙◌}
use Rattle.pool_store.proofs.Sourcing.{source_length, agrees_none}
use Rattle.pool_store.proofs.source.is_same.Goals as goal

pub returns-in-Ok-clause-same : goal.returns-in-Ok-clause-same
returns-in-Ok-clause-same g c = λ all content told is.
    agrees_none (all c.args.file) content c.in-Ok.same
    (source_length c.args.source.now (g.D.Disk.files c.args.journal.now.disk) content is ∙ sym c.size.ensures ∙ c.if-size-eq0.true)
    (c.in-Ok.ensures.same all content told is)
