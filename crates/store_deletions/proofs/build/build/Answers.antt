-- The plan is built of its parts.
use Rattle.std.proofs.Common.{◌≡◌, List, length, sym, ap, subst, ◌∙◌}
use Rattle.backup_rules.specs.declared.lines.Line.{Line}
use Rattle.ref_counts.specs.Numbers.{total, capped}
use Rattle.backup_delete.specs.Folds.{left_lines, Change, changes, taken_tables}
use Rattle.backup_delete.specs.Windows.{part, IsWindow}
use Rattle.store_deletions.specs.Written.{written, AreFit}
use Rattle.store_deletions.specs.BuildLaws.{index_there, left_sound, built_of}
use Rattle.store_deletions.proofs.build.build.Goals as goal

pub fold_within-requires-clause-window : goal.fold_within-requires-clause-window
fold_within-requires-clause-window c =
    let same : c.lines-2.result.now ≡ c.index-hosts-host.result.lines = c.lines-2.ensures ∙ c.lines.ensures.lines in
    subst (λ (ls : List Line). IsWindow c.args.numbers.now ls c.args.window.first c.args.window.end) (sym same)
    (c.requires.window c.index-hosts-host.result
    (index_there c.args.catalog.now.hosts c.hosts.result.now c.args.host c.index-hosts-host.result c.requires.within c.hosts.ensures.hosts
    c.index-hosts-host.is))

pub fold_within-requires-clause-same : goal.fold_within-requires-clause-same
fold_within-requires-clause-same c =
    let same : c.lines-2.result.now ≡ c.index-hosts-host.result.lines = c.lines-2.ensures ∙ c.lines.ensures.lines in
    c.requires.each c.index-hosts-host.result
    (index_there c.args.catalog.now.hosts c.hosts.result.now c.args.host c.index-hosts-host.result c.requires.within c.hosts.ensures.hosts
    c.index-hosts-host.is)
    ∙ ap (λ (ls : List Line). length (part c.args.window.first c.args.window.end ls)) (sym same)

pub propose_lines-requires-clause-sound : goal.propose_lines-requires-clause-sound
propose_lines-requires-clause-sound c =
    let same : c.lines-2.result.now ≡ c.index-hosts-host.result.lines = c.lines-2.ensures ∙ c.lines.ensures.lines in
    left_sound c.args.catalog.now.hosts c.args.host c.index-hosts-host.result c.args.numbers.now c.in_ok-folded.folded.lines
    c.hosts.ensures.are
    (index_there c.args.catalog.now.hosts c.hosts.result.now c.args.host c.index-hosts-host.result c.requires.within c.hosts.ensures.hosts
    c.index-hosts-host.is)
    (c.in_ok-folded.ensures.lines ∙ ap (left_lines c.args.numbers.now) same)

pub returns : goal.returns
returns c =
    let same : c.lines-2.result.now ≡ c.index-hosts-host.result.lines = c.lines-2.ensures ∙ c.lines.ensures.lines in
    let here = index_there c.args.catalog.now.hosts c.hosts.result.now c.args.host c.index-hosts-host.result c.requires.within
    c.hosts.ensures.hosts c.index-hosts-host.is in
    built_of c.args.catalog.now c.args.host c.host-file.result c.index-hosts-host.result c.args.window.first c.args.window.end
    c.args.tables.now c.args.old.now
    c.in_ok-folded.folded.taken c.in_ok-folded.folded.added c.in_ok-counts.counts c.args.numbers.now c.in_ok-folded.folded.lines
    c.in_ok-folded.folded.tables.items c.in_ok-change.change c.take_changes-listed.new.self c.take_changes-listed.result
    c.in_ok-changes.changes c.hosts.ensures.are here c.host-file.ensures (c.requires.window c.index-hosts-host.result here)
    (c.in_ok-folded.ensures.lines ∙ ap (left_lines c.args.numbers.now) same)
    (c.in_ok-folded.ensures.tables ∙ ap (λ (ls : List Line). changes c.args.numbers.now (part c.args.window.first c.args.window.end ls) c.args.tables.now) same)
    c.in_ok-folded.ensures.added
    (λ id. c.in_ok-folded.ensures.taken id
    ∙ ap (λ (ls : List Line). capped (total id (taken_tables c.args.numbers.now (part c.args.window.first c.args.window.end ls) c.args.tables.now)))
    same)
    c.in_ok-counts.ensures c.in_ok-change.ensures.proposes c.in_ok-change.ensures.fits
    (record { changes = c.take_changes-listed.ensures.changes; edit = c.take_changes-listed.ensures.edit })
    (subst AreFit c.as_slice.ensures.value c.in_ok-changes.ensures.fit)
    c.in_ok-changes.ensures.counts
    (c.in_ok-changes.ensures.written
    ∙ ap (λ (cs : List Change). written c.take_changes-listed.result c.host-file.result cs c.in_ok-counts.counts) c.as_slice.ensures.value)
