use Rattle.std.proofs.Common.{◌∙◌}
use Rattle.std.specs.Ordering.{nat_cmp}
use Rattle.pool_changes.specs.NumbersLaws.{digests_in_order}
use Rattle.pool_changes.proofs.key.compare_digests.Goals as goal

pub returns : goal.returns
returns c =
    c.compare_numbers.ensures ∙ (λ i. nat_cmp (c.from_be_bytes.ensures i) (c.from_be_bytes-2.ensures i))
    ∙ digests_in_order c.args.a c.args.b c.is_digest.ensures.long c.is_digest-2.ensures.long c.is_digest.ensures.bytes c.is_digest-2.ensures.bytes
