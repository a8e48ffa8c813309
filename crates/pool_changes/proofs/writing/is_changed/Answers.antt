-- Entry by entry.
use Rattle.std.proofs.Common.{List, sym, ap, ◌∙◌, subst}
use Rattle.std.specs.List.{AllByRecursion}
use Rattle.disk_trait.specs.declared.ids.PoolId.{PoolId}
use Rattle.pool_changes.specs.declared.slot.Slot.{Slot}
use Rattle.pool_changes.specs.Kept.{slots_of}
use Rattle.pool_changes.specs.Listed.{item_of}
use Rattle.pool_changes.proofs.Layering.{IsEntry, AreAlikeItems, entries_of, alike_under, called_by}
use Rattle.pool_changes.proofs.writing.is_changed.Goals as goal

pub loop-id-init : goal.loop-id-init
loop-id-init c = record {
  entries = subst (λ (es : List (PoolId × Slot)). AllByRecursion (IsEntry c.args.over.now.map c.args.byte) es) (sym c.into_iter-id-iterator.ensures.into_iter_gives)
      (entries_of c.args.over.now.map c.args.byte c.between-id-items.result c.args.over.now.named c.between-id-items.ensures.in_range);
  alike = λ all. subst (λ (es : List (PoolId × Slot)). AreAlikeItems (slots_of c.args.names.now) es) (c.into_iter-id-iterator.ensures.into_iter_gives ∙ c.between-id-items.ensures.between) all;
}

pub returns-then-not-is_same_item-clause-changed : goal.returns-then-not-is_same_item-clause-changed
returns-then-not-is_same_item-clause-changed c = λ _.
    let entries = subst (λ (es : List (PoolId × Slot)). AllByRecursion (IsEntry c.args.over.now.map c.args.byte) es) c.in-Some.ensures.steps c.loop-id.invariant.entries in
    called_by c.args.names.now.map c.args.over.now.map c.args.byte c.in-Some.id.now c.in-Some.slot.now entries.0
    (λ e. c.is_same_item.ensures.other c.if-not-is_same_item.true c.in-Some.id.now (e ∙ ap (item_of c.in-Some.id.now) (sym c.find.ensures)))

pub loop-id-preserved : goal.loop-id-preserved
loop-id-preserved c =
    let entries = subst (λ (es : List (PoolId × Slot)). AllByRecursion (IsEntry c.args.over.now.map c.args.byte) es) c.in-Some.ensures.steps c.loop-id.invariant.entries in
    let here = ap (item_of c.in-Some.id.now) (sym c.find.ensures) ∙ sym (c.is_same_item.ensures.same c.if-not-is_same_item.false c.in-Some.id.now) in
    record {
      entries = entries.1;
      alike = λ rest. c.loop-id.invariant.alike (subst (λ (es : List (PoolId × Slot)). AreAlikeItems (slots_of c.args.names.now) es) (sym c.in-Some.ensures.steps) (here, rest));
    }

pub returns-clause-alike : goal.returns-clause-alike
returns-clause-alike c = λ _.
    alike_under c.args.names.now.map c.args.over.now.map c.args.byte c.args.over.now.named
    (c.loop-id.invariant.alike (subst (λ (es : List (PoolId × Slot)). AreAlikeItems (slots_of c.args.names.now) es) (sym c.in-None.ensures.steps.0) tt))
