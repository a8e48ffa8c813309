use Rattle.std.proofs.Common.{◌∙◌, refl, sym, subst}
use Rattle.backup_views.specs.Kept.{rows_of}
use Rattle.store_parts.specs.Refusals.{IsReadFault}
use Rattle.store_reads.specs.Told.{IsTableFault}
use Rattle.store_reads.proofs.Loading.{index_read, read_view, read_has, read_rows, read_fault, read_damaged}
use Rattle.store_reads.proofs.load.load.Goals as goal

pub returns-in-Ok-clause-reads : goal.returns-in-Ok-clause-reads
returns-in-Ok-clause-reads g c =
    let index = index_read _ _ _ _ c.hosts.ensures.hosts c.requires.host c.index-hosts-host.is in
    record {
      quiet = c.in-Ok.ensures.quiet;
      pool_same = refl;
      catalog_same = refl;
      counts_same = refl;
      partials_same = refl;
      sessions_same = refl;
      halted_same = refl;
      view = read_view c.args.parts.now c.args.host c.args.line _ _ index (c.lines-lines.ensures ∙ c.lines.ensures.lines) c.load.new.self
          (c.requires.line _ index) c.in-Ok.ensures.has c.in-Ok.ensures.kept;
    }

pub returns-in-Ok-clause-has : goal.returns-in-Ok-clause-has
returns-in-Ok-clause-has g c =
    let index = index_read _ _ _ _ c.hosts.ensures.hosts c.requires.host c.index-hosts-host.is in
    read_has c.args.parts.now c.args.host c.args.line _ _ index
    (c.lines-lines.ensures ∙ c.lines.ensures.lines) c.load.new.self c.in-Ok.ensures.has

pub returns-in-Err-clause-fault : goal.returns-in-Err-clause-fault
returns-in-Err-clause-fault g c =
    let index = index_read _ _ _ _ c.hosts.ensures.hosts c.requires.host c.index-hosts-host.is in
    subst (IsReadFault c.args.parts.now) (sym c.refusal_of_view.ensures.value)
    (read_fault c.args.parts.now c.args.host c.args.line _ _ index
    (c.lines-lines.ensures ∙ c.lines.ensures.lines) c.in-Err.fault c.in-Err.ensures.damaged)

pub returns-in-Ok-clause-read : goal.returns-in-Ok-clause-read
returns-in-Ok-clause-read g c =
    let index = index_read _ _ _ _ c.hosts.ensures.hosts c.requires.host c.index-hosts-host.is in
    read_rows c.args.parts.now c.args.host c.args.line _ _ index
    (c.lines-lines.ensures ∙ c.lines.ensures.lines) (rows_of c.load.new.self.kept) c.in-Ok.ensures.read

pub returns-in-Err-clause-damaged : goal.returns-in-Err-clause-damaged
returns-in-Err-clause-damaged g c =
    let index = index_read _ _ _ _ c.hosts.ensures.hosts c.requires.host c.index-hosts-host.is in
    subst (IsTableFault c.args.parts.now c.args.host c.args.line) (sym c.refusal_of_view.ensures.value)
    (read_damaged c.args.parts.now c.args.host c.args.line _ _ index
    (c.lines-lines.ensures ∙ c.lines.ensures.lines) c.in-Err.fault c.in-Err.ensures.damaged)
