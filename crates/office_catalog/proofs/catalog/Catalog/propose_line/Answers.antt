use Rattle.std.proofs.Common.{sym, ap, subst, ◌∙◌, List, [], ◌∷◌, ◌++◌, ℕ}
use Rattle.backup_rules.specs.declared.lines.Line.{Line}
use Rattle.backup_index.specs.Lines.{IsSound}
use Rattle.office_catalog.specs.Known.{given_commit, with_given, with_line, last_filled}
use Rattle.office_catalog.proofs.LinePlaces.{with_line_sound}
use Rattle.office_catalog.proofs.Leading.{found_by, proposes_alike, same_commit, found_there}
use Rattle.office_catalog.proofs.catalog.Catalog.propose_line.Goals as goal

pub propose_commit-requires-clause-sound : goal.propose_commit-requires-clause-sound
propose_commit-requires-clause-sound c =
    let found = found_by c.args.self.now c.args.host c.hosts.result.now c.index-hosts-host.result c.requires.host c.hosts.ensures.hosts c.index-hosts-host.is in
    subst (λ (n : ℕ). IsSound n c.push.new.self) (sym c.number_above.ensures.value)
    (subst (IsSound _) (sym (c.in_ok-push.ensures.ok ∙ ap (λ (l : List Line). l ++ c.args.line ∷ []) (c.fill_last.ensures ∙ ap (last_filled c.args.filled) (c.in_ok-lines.ensures ∙ c.lines.ensures.lines))))
    (with_line_sound _ c.args.filled _ c.args.line c.number_above.ensures.small c.lines.ensures.sound (c.requires.rising c.index-hosts-host.result (found_there _ _ _ _ found)) c.requires.filled))

pub returns-clause-proposes : goal.returns-clause-proposes
returns-clause-proposes c =
    let found = found_by c.args.self.now c.args.host c.hosts.result.now c.index-hosts-host.result c.requires.host c.hosts.ensures.hosts c.index-hosts-host.is in
    proposes_alike (given_commit c.number_above.result c.in_ok-receipts.receipts c.push.new.self) (with_line c.args.line c.args.filled c.args.receipt) c.args.self.now c.args.host c.hosts.result.now c.index-hosts-host.result _ found
    (same_commit c.index-hosts-host.result _ _ _ _ _ _ c.number_above.ensures.value
    (c.in_ok-receipts.ensures ∙ ap (with_given c.args.receipt) c.receipts.ensures)
    (c.in_ok-push.ensures.ok ∙ ap (λ (l : List Line). l ++ c.args.line ∷ []) (c.fill_last.ensures ∙ ap (last_filled c.args.filled) (c.in_ok-lines.ensures ∙ c.lines.ensures.lines))))
    c.propose_commit.ensures.proposes
