-- The first name from one on, if it is of the digest.
use Rattle.std.proofs.Common.{◌≡◌, ◌<◌, ◌≤◌, ap, sym, ◌∙◌, subst, Some, None, ℕ, List}
use Rattle.std.specs.Ordering.{is_gt}
use Rattle.std.specs.Cmp.Lexicographic.{bytes_decides}
use Rattle.std.proofs.lemmas.Bool.{false≢true}
use Rattle.disk_trait.specs.declared.ids.PoolId.{PoolId}
use Rattle.pool_changes.specs.declared.slot.Slot.{Slot}
use Rattle.pool_changes.specs.Kept.{slots_of}
use Rattle.pool_changes.specs.Slots.{id_of}
use Rattle.pool_changes.proofs.Naming.{least_used, none_used, from_extension, none_of, by_extension}
use Rattle.pool_changes.specs.NameLaws.{le_not_gt}
use Rattle.pool_changes.proofs.Ranging.{first_entry, no_entry}
use Rattle.pool_changes.proofs.names.Names.next.Goals as goal

some_none : (slot : Slot) → Some slot ≡ None → ⊥
some_none slot e = cc

pub returns-then-eq-clause-used : goal.returns-then-eq-clause-used
returns-then-eq-clause-used c =
    let first = first_entry c.args.self.now.map (id_of c.args.digest c.args.from) _ _ _ (c.range.ensures.in_range tt) c.in-Some.ensures.steps in
    let same : c.in-Some.id.now.digest ≡ c.args.digest = ap (λ (id : PoolId). id.digest) (sym c.name-found.ensures) ∙ (bytes_decides _ _).0 (sym c.if-eq.ensures) in
    subst (λ (id : PoolId). (c.args.from ≤ id.extension) × (slots_of c.args.self.now (id_of c.args.digest id.extension) ≡ None → ⊥)) (sym c.name-found.ensures) (
      from_extension c.args.digest c.args.from c.in-Some.id.now same first.0,
      λ none. some_none _ (sym first.1 ∙ ap (λ (d : List ℕ). slots_of c.args.self.now (id_of d c.in-Some.id.now.extension)) same ∙ none),
    )

pub returns-then-eq-clause-before : goal.returns-then-eq-clause-before
returns-then-eq-clause-before c = λ x le lt.
    let first = first_entry c.args.self.now.map (id_of c.args.digest c.args.from) _ _ _ (c.range.ensures.in_range tt) c.in-Some.ensures.steps in
    let same : c.in-Some.id.now.digest ≡ c.args.digest = ap (λ (id : PoolId). id.digest) (sym c.name-found.ensures) ∙ (bytes_decides _ _).0 (sym c.if-eq.ensures) in
    none_of _ (least_used (slots_of c.args.self.now) c.args.digest c.args.from c.in-Some.id.now same first.2 x le (subst (λ (id : PoolId). x < id.extension) c.name-found.ensures lt))

pub returns-else-eq-clause-none : goal.returns-else-eq-clause-none
returns-else-eq-clause-none c = λ _ x le near.
    let first = first_entry c.args.self.now.map (id_of c.args.digest c.args.from) _ _ _ (c.range.ensures.in_range tt) c.in-Some.ensures.steps in
    none_of _ (none_used (slots_of c.args.self.now) c.args.digest c.args.from c.in-Some.id.now
    (λ same. false≢true (c.if-eq.ensures ∙ (bytes_decides _ _).1 (ap (λ (id : PoolId). id.digest) c.name-found.ensures ∙ same))) first.0 first.2 x le)

pub returns-in-None-clause-none : goal.returns-in-None-clause-none
returns-in-None-clause-none c = λ _ x le near.
    no_entry c.args.self.now.map (id_of c.args.digest c.args.from) _ (c.range.ensures.in_range tt) c.in-None.ensures.steps.0 (id_of c.args.digest x)
    (ap is_gt (by_extension c.args.digest c.args.from x) ∙ le_not_gt c.args.from x le)
