use Rattle.std.specs.Prelude.{IfOk}
use Rattle.std.proofs.Common.{sym, subst}
use Rattle.backup_rules.specs.declared.lines.Kind.{Kind}
use Rattle.store_dumps.specs.Base.{BeginsWith}
use Rattle.store_dumps.proofs.base.base_of.Goals as goal

pub returns-in-Full-clause-base : goal.returns-in-Full-clause-base
returns-in-Full-clause-base g c =
    subst (λ (kind : Kind). IfOk c.full_base.result (λ begun. BeginsWith c.full_base.new.parts c.args.host kind begun.rows)) (sym c.in-Full.is)
    c.full_base.ensures.base

pub returns-in-Incr-clause-base : goal.returns-in-Incr-clause-base
returns-in-Incr-clause-base g c =
    subst (λ (kind : Kind). IfOk c.incr_base.result (λ begun. BeginsWith c.incr_base.new.parts c.args.host kind begun.rows)) (sym c.in-Incr.is)
    c.incr_base.ensures.base
