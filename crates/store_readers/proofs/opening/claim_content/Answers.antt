-- Behind the claim, the content is claimed.
use Rattle.std.proofs.Common.{◌≡◌, true, Option, Some, sym, subst}
use Rattle.disk_trait.specs.declared.ids.PoolId.{PoolId}
use Rattle.pool_changes.specs.Slots.{Slots, is_given}
use Rattle.pool_changes.specs.Kept.{slots_of}
use Rattle.store_dumps.specs.Claims.{Gains, claims_of_content}
use Rattle.store_dumps.specs.ClaimLaws.{one_of}
use Rattle.store_reads.specs.Shown.{IsGivenContent}
use Rattle.store_readers.proofs.opening.claim_content.Goals as goal

claimed : (old new : Slots) (content : Option PoolId) (id : PoolId) → content ≡ Some id
    → (is_given (old id) ≡ true → Gains (one_of id) old new) → IsGivenContent (λ id. is_given (old id) ≡ true) content
    → Gains (λ other. claims_of_content content other) old new
claimed old new content id is gains =
    subst (λ (c : Option PoolId). IsGivenContent (λ id. is_given (old id) ≡ true) c → Gains (λ other. claims_of_content c other) old new)
    (sym is) gains

pub returns-in-Some-clause-gains : goal.returns-in-Some-clause-gains
returns-in-Some-clause-gains g c =
    claimed (slots_of c.args.pool.now.names) (slots_of c.claim_id.new.pool.names) c.args.content c.in-Some.id c.in-Some.is
    c.claim_id.ensures.gains
