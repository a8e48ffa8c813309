-- Entry by entry, and then all items of the byte.
use Rattle.std.proofs.Common.{◌++◌, List, Option, refl, sym, ap, ◌∙◌, subst}
use Rattle.std.specs.List.{AllByRecursion}
use Rattle.std.specs.declared.ops.Bound.TheVariants.{Included}
use Rattle.std.specs.BTreeMap.Range.{IsRangeOf, entries_between}
use Rattle.disk_trait.specs.declared.ids.PoolId.{PoolId}
use Rattle.pool_index.specs.declared.item.IndexItem.{IndexItem}
use Rattle.pool_index.specs.Items.{id_cmp}
use Rattle.pool_changes.specs.declared.slot.Slot.{Slot}
use Rattle.pool_changes.specs.Slots.{Slots, least_of, greatest_of}
use Rattle.pool_changes.specs.Kept.{slots_of}
use Rattle.pool_changes.specs.Listed.{item_of, index_of}
use Rattle.pool_changes.specs.Writing.{slot_or, layered, AreUnder}
use Rattle.pool_changes.proofs.Picking.{picked, pick_step, pick_end}
use Rattle.pool_changes.proofs.Layering.{IsEntry, entries_of, items_under}
use Rattle.pool_changes.proofs.writing.items_over.Goals as goal

abbrev pick_over : Slots → Slots → PoolId → Slot → Option IndexItem
pick_over names over id slot = item_of id (layered names over id)

pub loop-id-init : goal.loop-id-init
loop-id-init c =
    let pick = pick_over (slots_of c.args.names.now) (slots_of c.args.over.now) in
    record {
      entries = subst (λ (es : List (PoolId × Slot)). AllByRecursion (IsEntry c.args.names.now.map c.args.byte) es) (sym c.into_iter-id-iterator.ensures.into_iter_gives)
          (entries_of c.args.names.now.map c.args.byte c.between-id-items.result c.args.names.now.named c.between-id-items.ensures.in_range);
      so_far = ap (λ (l : List IndexItem). l ++ picked pick c.into_iter-id-iterator.result) c.new-items.ensures.items
          ∙ ap (picked pick) (c.into_iter-id-iterator.ensures.into_iter_gives ∙ c.between-id-items.ensures.between);
    }

pub loop-id-preserved : goal.loop-id-preserved
loop-id-preserved c =
    let entries = subst (λ (es : List (PoolId × Slot)). AllByRecursion (IsEntry c.args.names.now.map c.args.byte) es) c.in-Some.ensures.steps c.loop-id.invariant.entries in
    let here = c.item_over.ensures ∙ ap (λ (s : Option Slot). item_of c.in-Some.id.now (slot_or (slots_of c.args.over.now c.in-Some.id.now) s)) (sym entries.0.0) in
    record {
      entries = entries.1;
      so_far = pick_step (pick_over (slots_of c.args.names.now) (slots_of c.args.over.now)) c.loop-id.items.items _ _ _ _ c.in-Some.id.now c.in-Some.slot.now c.item_over.result
          c.loop-id.invariant.so_far c.in-Some.ensures.steps here c.in-Ok.ensures;
    }

pub returns : goal.returns
returns c =
    let names = c.args.names.now.map in
    let over = c.args.over.now.map in
    let entries = entries_between id_cmp (Included (least_of c.args.byte)) (Included (greatest_of c.args.byte)) names.entries in
    let range = subst (λ (es : List (PoolId × Slot)). IsRangeOf id_cmp (Included (least_of c.args.byte)) (Included (greatest_of c.args.byte)) names es) (c.between-id-items.ensures.between) c.between-id-items.ensures.in_range in
    let all = pick_end (pick_over (slots_of c.args.names.now) (slots_of c.args.over.now)) c.loop-id.items.items _ c.loop-id.id-iterator c.loop-id.invariant.so_far c.in-None.ensures.steps.0 in
    subst (λ (l : List IndexItem). AreUnder c.args.byte (index_of (layered (slots_of c.args.names.now) (slots_of c.args.over.now))) l) (sym all)
    (items_under names over c.args.byte entries c.args.names.now.named c.args.names.now.sized c.args.over.now.sized c.requires refl c.between-id-items.ensures.ordered range)
