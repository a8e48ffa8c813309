use Rattle.std.proofs.Common.{ap, ◌∙◌, length, List, [], ◌∷◌, ◌++◌, ℕ}
use Rattle.intent_journal.specs.declared.changes.Change.{Change}
use Rattle.backup_index.specs.Index.{Index}
use Rattle.office_catalog.specs.Known.{new_host, names_of}
use Rattle.office_catalog.proofs.Leading.{proposes_host, new_is, new_sound}
use Rattle.office_catalog.proofs.catalog.Catalog.propose_host.Goals as goal

pub returns-clause-proposes : goal.returns-clause-proposes
returns-clause-proposes c =
    let known = c.args.self.now in
    let made = new_is _ _ _ c.args.name c.args.rules _ _ c.from_sound-index.ensures c.hosts.ensures.hosts c.new.ensures c.new-2.ensures in
    proposes_host known (new_host (length known.hosts) c.args.name c.args.rules) c.from_sound-index.result _ c.add.new.self c.epoch-epoch.result _ c.in_ok-head.head c.in_ok-host.host c.push.new.self
    made c.requires.room c.requires.fresh (new_sound _ _ _) c.epoch-epoch.ensures
    (c.in_ok-add.ensures.ok ∙ ap (λ (l : List (List ℕ)). l ++ c.in_ok-copy.field-0 ∷ []) c.in_ok-names.ensures
    ∙ ap (λ (n : List ℕ). names_of known.hosts ++ n ∷ []) (c.in_ok-copy.ensures ∙ c.name.ensures ∙ ap (λ (i : Index). i.name) made))
    c.in_ok-head.ensures.file c.in_ok-head.ensures.holds c.parts.ensures.parts c.in_ok-host.ensures.file c.in_ok-host.ensures.holds
    (c.in_ok-push.ensures.ok ∙ ap (λ (l : List Change). l ++ c.in_ok-host.host ∷ []) c.in_ok-changes.ensures)
