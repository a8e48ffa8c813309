-- A put says of no file that it is damaged.
--     undamaged_pool, undamaged_put      a fault of its staging, and of its tree
use Rattle.std.proofs.Common.{◌≡◌, ℕ, List, Option, Err, refl, sym, subst}
use Rattle.disk_trait.specs.declared.ids.PoolId.{PoolId}
use Rattle.pool_store.specs.declared.fault.PoolFault.{PoolFault}
use Rattle.pool_store.specs.declared.fault.PoolFault.TheVariants as P
use Rattle.pool_store.specs.Pools.{IsNotForeign}
use Rattle.dump_session.specs.declared.session.PutFault.{PutFault}
use Rattle.dump_session.specs.declared.session.PutFault.TheVariants as F
use Rattle.office_model.specs.declared.refusal.Refusal.{Refusal}
use Rattle.office_model.specs.History.{IsUndamaged}
use Rattle.store_parts.specs.Refusals.{refusal_of_pool}
use Rattle.store_dumps.specs.Putting.{refused_put}

of_pool : (fault : PoolFault) → IsNotForeign fault
    → ((other : PoolId) (found : Option (List ℕ)) → fault ≡ P.Damaged other found → ⊥) → IsUndamaged (Err (refusal_of_pool fault))
of_pool (P.Foreign file found) known undamaged = absurd known
of_pool P.Disk known undamaged = tt
of_pool P.Memory known undamaged = tt
of_pool (P.Damaged id found) known undamaged = absurd (undamaged id found refl)
of_pool P.ChainFull known undamaged = tt

of_put : (fault : PutFault) → IsUndamaged (Err (refused_put fault))
of_put (F.Broken rule) = tt
of_put F.Memory = tt

pub undamaged_pool : (refusal : Refusal) (fault : PoolFault) → refusal ≡ refusal_of_pool fault → IsNotForeign fault
    → ((other : PoolId) (found : Option (List ℕ)) → fault ≡ P.Damaged other found → ⊥) → IsUndamaged (Err refusal)
undamaged_pool refusal fault is known undamaged =
    subst (λ (r : Refusal). IsUndamaged (Err r)) (sym is) (of_pool fault known undamaged)

pub undamaged_put : (refusal : Refusal) (fault : PutFault) → refusal ≡ refused_put fault → IsUndamaged (Err refusal)
undamaged_put refusal fault is = subst (λ (r : Refusal). IsUndamaged (Err r)) (sym is) (of_put fault)
