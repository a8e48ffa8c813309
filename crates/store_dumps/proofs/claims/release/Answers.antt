use Rattle.std.proofs.Common.{◌≡◌, ◌≤◌, ◌<◌, Option, Some, sym, ap, subst, arith, if◌then◌else◌}
use Rattle.disk_trait.specs.declared.ids.PoolId.{PoolId}
use Rattle.attr_tables.specs.RecordLaws.{id_itself}
use Rattle.pool_changes.specs.Slots.{Slots, claims_of}
use Rattle.pool_changes.specs.Kept.{slots_of}
use Rattle.store_dumps.specs.Claims.{LetsGo, claims_of_content}
use Rattle.store_dumps.specs.ClaimLaws.{one_of}
use Rattle.store_dumps.proofs.claims.release.Goals as goal

released : (old new : Slots) (content : Option PoolId) (id : PoolId) → content ≡ Some id
    → (0 < claims_of (old id) → LetsGo (one_of id) old new)
    → ((other : PoolId) → claims_of_content content other ≤ claims_of (old other))
    → LetsGo (λ other. claims_of_content content other) old new
released old new content id is go =
    subst (λ (c : Option PoolId). ((other : PoolId) → claims_of_content c other ≤ claims_of (old other))
    → LetsGo (λ other. claims_of_content c other) old new)
    (sym is)
    (λ enough. go (let one : one_of id id ≡ 1 = ap (λ b. if b then 1 else 0) (id_itself id) in omega (arith, one, enough id)))

pub returns-in-Some-clause-go : goal.returns-in-Some-clause-go
returns-in-Some-clause-go g c =
    released (slots_of c.args.pool.now.names)
    (slots_of c.release_id.new.pool.names) c.args.content c.in-Some.id c.in-Some.is c.release_id.ensures.go
