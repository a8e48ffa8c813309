use Rattle.std.proofs.Common.{sym, subst}
use Rattle.std.proofs.lemmas.Result.{err_from_is_err_and}
use Rattle.store_reads.specs.Shown.{IsNoBackup}
use Rattle.store_reads.proofs.Loading.{refused_host, refused_number}
use Rattle.store_reads.proofs.place.find_backup.Goals as goal

pub returns-in_err-host-clause-rule : goal.returns-in_err-host-clause-rule
returns-in_err-host-clause-rule g c =
    let p = err_from_is_err_and c.from_residual.result c.from_residual.ensures.1 in
    rw (p.1, p.2) (subst (IsNoBackup c.args.parts.now c.args.name.now c.args.number) (sym c.in_err-host.ensures.rule)
    (refused_host c.args.parts.now c.args.name.now c.args.number c.in_err-host.ensures.none))

pub returns-in_err-line-clause-rule : goal.returns-in_err-line-clause-rule
returns-in_err-line-clause-rule g c =
    let p = err_from_is_err_and c.from_residual-in_err-line.result c.from_residual-in_err-line.ensures.1 in
    rw (p.1, p.2) (subst (IsNoBackup c.args.parts.now c.args.name.now c.args.number) (sym c.in_err-line.ensures.rule)
    (refused_number c.args.parts.now c.args.name.now c.args.number c.in_ok-host.host c.in_ok-host.ensures.found c.in_err-line.ensures.none))
