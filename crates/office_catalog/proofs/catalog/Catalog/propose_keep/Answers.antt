use Rattle.std.proofs.Common.{sym, ap, subst, ◌∙◌, ℕ}
use Rattle.backup_index.specs.Lines.{IsSound}
use Rattle.office_catalog.specs.Known.{given_lines, with_keep, kept_at}
use Rattle.office_catalog.proofs.LinePlaces.{kept_sound}
use Rattle.office_catalog.proofs.Leading.{found_by, proposes_alike, same_lines}
use Rattle.office_catalog.proofs.catalog.Catalog.propose_keep.Goals as goal

pub propose_next-requires-clause-sound : goal.propose_next-requires-clause-sound
propose_next-requires-clause-sound c =
    subst (λ (n : ℕ). IsSound n c.keep_line.new.lines) (sym c.next.ensures)
    (subst (IsSound c.index-hosts-host.result.next) (sym (c.keep_line.ensures ∙ ap (kept_at c.args.keep c.args.line) (c.in_ok-lines.ensures ∙ c.lines.ensures.lines)))
    (kept_sound _ c.args.keep c.args.line _ c.lines.ensures.sound))

pub returns-clause-proposes : goal.returns-clause-proposes
returns-clause-proposes c =
    let found = found_by c.args.self.now c.args.host c.hosts.result.now c.index-hosts-host.result c.requires.host c.hosts.ensures.hosts c.index-hosts-host.is in
    proposes_alike (given_lines c.next.result c.keep_line.new.lines) (with_keep c.args.line c.args.keep) c.args.self.now c.args.host c.hosts.result.now c.index-hosts-host.result _ found
    (same_lines c.index-hosts-host.result _ _ _ _ c.next.ensures (c.keep_line.ensures ∙ ap (kept_at c.args.keep c.args.line) (c.in_ok-lines.ensures ∙ c.lines.ensures.lines)))
    c.propose_next.ensures.proposes
