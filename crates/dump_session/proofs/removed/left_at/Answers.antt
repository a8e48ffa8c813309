use Rattle.std.proofs.Common.{ap, ◌∙◌}
use Rattle.attr_records.specs.Paths.{is_within}
use Rattle.attr_records.specs.PathLaws.{within-itself}
use Rattle.dump_session.proofs.removed.left_at.Goals as goal

pub is_gone-requires-clause-above : goal.is_gone-requires-clause-above
is_gone-requires-clause-above c = ap (λ p. is_within p c.args.path.now) c.as_slice.ensures.value ∙ within-itself c.args.path.now
