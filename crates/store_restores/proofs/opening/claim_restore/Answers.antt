-- Behind the claims, what the rows name is claimed.
use Rattle.std.proofs.Common.{◌≡◌, ◌<◌, true, ap, ◌∙◌, subst}
use Rattle.std.proofs.lemmas.Option.{get_or_from_slice_get}
use Rattle.disk_trait.specs.declared.ids.PoolId.{PoolId}
use Rattle.merge_view.specs.Views.{Rows}
use Rattle.stored_trees.specs.Occurrences.{occurrences}
use Rattle.pool_changes.specs.Kept.{slots_of}
use Rattle.pool_changes.specs.Slots.{is_given}
use Rattle.open_sessions.specs.declared.sessions.OpenRestore.{OpenRestore}
use Rattle.store_dumps.specs.Claims.{Gains}
use Rattle.store_restores.proofs.opening.claim_restore.Goals as goal

pub returns-clause-gains : goal.returns-clause-gains
returns-clause-gains g c = λ restore there given.
    let one : c.index.result.now ≡ restore = c.index.ensures ∙ get_or_from_slice_get c.args.sessions.now.restores.items c.args.at restore c.index.result.now there in
    let same : c.rows.result.now ≡ restore.whole = c.rows.ensures.rows ∙ ap (λ (r : OpenRestore _). r.whole) one in
    subst (λ (rows : Rows). ((id : PoolId) → 0 < occurrences id rows → is_given (slots_of c.args.pool.now.names id) ≡ true)
    → Gains (λ id. occurrences id rows) (slots_of c.args.pool.now.names) (slots_of c.claim_rows.new.pool.names)) same c.claim_rows.ensures.gains given
