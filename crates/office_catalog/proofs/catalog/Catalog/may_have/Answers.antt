use Rattle.std.proofs.Common.{◌≡◌, ℕ, sym, ap, subst, ◌∙◌}
use Rattle.backup_index.specs.Index.{Index}
use Rattle.backup_index.specs.Lines.{IsSound}
use Rattle.backup_index.specs.LinesLaws.{sound_from_none, none_from_sound}
use Rattle.office_catalog.proofs.Keeping.{none_broken, some_broken}
use Rattle.office_catalog.proofs.Leading.{found_by, found_only}
use Rattle.office_catalog.proofs.catalog.Catalog.may_have.Goals as goal

pub returns-clause-sound : goal.returns-clause-sound
returns-clause-sound c = λ e index there.
    let found = found_by c.args.self.now c.args.host c.hosts.result.now c.index-hosts-host.result c.requires c.hosts.ensures.hosts c.index-hosts-host.is in
    let next : c.next.result ≡ index.next = c.next.ensures ∙ ap (λ (i : Index). i.next) (found_only _ _ _ _ index found there) in
    let sound = sound_from_none c.next.result c.lines.result.now (sym c.broken_index.ensures ∙ none_broken c.broken_index.result c.is_none.result c.is_none.ensures e) in
    subst (λ (n : ℕ). IsSound n c.args.lines.now) next (subst (IsSound c.next.result) c.lines.ensures sound)

pub returns-clause-broken : goal.returns-clause-broken
returns-clause-broken c = λ e index there sound.
    let found = found_by c.args.self.now c.args.host c.hosts.result.now c.index-hosts-host.result c.requires c.hosts.ensures.hosts c.index-hosts-host.is in
    let next : c.next.result ≡ index.next = c.next.ensures ∙ ap (λ (i : Index). i.next) (found_only _ _ _ _ index found there) in
    let here = subst (λ (n : ℕ). IsSound n c.args.lines.now) (sym next) sound in
    let lines = subst (IsSound c.next.result) (sym c.lines.ensures) here in
    some_broken c.broken_index.result c.is_none.result c.is_none.ensures e (c.broken_index.ensures ∙ none_from_sound c.next.result c.lines.result.now lines)
