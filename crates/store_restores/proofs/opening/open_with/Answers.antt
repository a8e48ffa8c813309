use Rattle.std.specs.Prelude.{IfOk}
use Rattle.std.proofs.Common.{subst}
use Rattle.merge_view.specs.Views.{Rows}
use Rattle.store_restores.specs.Opening.{HasOpened}
use Rattle.store_restores.specs.Since.{removed_since, rows_since}
use Rattle.store_restores.proofs.opening.open_with.Goals as goal

pub returns-in-Ok-since_base-clause-ok : goal.returns-in-Ok-since_base-clause-ok
returns-in-Ok-since_base-clause-ok g c =
    subst (λ (whole : Rows). IfOk c.open_shared.result (λ name. HasOpened c.args.parts.now whole (removed_since c.args.older whole)
    (rows_since c.args.older whole) name c.open_shared.new.parts)) c.in-Ok.ensures
    (subst (λ (rows : Rows). IfOk c.open_shared.result (λ name. HasOpened c.args.parts.now c.in-Ok.shared
    (removed_since c.args.older c.in-Ok.shared) rows name c.open_shared.new.parts)) c.in-Ok-since_base.ensures.rows
    (subst (λ (removed : Rows). IfOk c.open_shared.result (λ name. HasOpened c.args.parts.now c.in-Ok.shared removed
    c.in-Ok-since_base.since.rows name c.open_shared.new.parts)) c.in-Ok-since_base.ensures.removed c.open_shared.ensures.ok))
