-- Entries are passed up to the first that is doomed.
use Rattle.std.proofs.Common.{ap, sym, ◌∙◌, subst}
use Rattle.std.specs.List.Sorted.{IsStrictlySortedBy}
use Rattle.std.specs.Map.{keys_of, lookup}
use Rattle.std.specs.Ordering.{is_eq}
use Rattle.pool_index.specs.Items.{id_cmp}
use Rattle.pool_changes.specs.Kept.{slots_of}
use Rattle.pool_changes.specs.Named.{NoneDoomedBelow}
use Rattle.pool_changes.proofs.Ranging.{sorted_kept, found_from, doomed_below, left_more, sorted_rest, none_left}
use Rattle.pool_changes.proofs.names.Names.next_doomed.Goals as goal

pub loop-id-init : goal.loop-id-init
loop-id-init c =
    let given = c.into_iter-id-iterator.ensures.into_iter_gives ∙ c.range-id-items.ensures.between tt in
    record {
      sorted = subst (λ es. IsStrictlySortedBy id_cmp (keys_of es)) (sym given) (sorted_kept _ c.args.self.now.map.entries c.range-id-items.ensures.ordered);
      left = λ id behind doomed. ap (lookup (λ k. is_eq (id_cmp id k))) given ∙ found_from c.args.self.now.map c.args.from id behind ∙ doomed;
    }

pub returns-in-Doomed-clause-below : goal.returns-in-Doomed-clause-below
returns-in-Doomed-clause-below c =
    subst (NoneDoomedBelow (slots_of c.args.self.now)) (sym c.name.ensures)
    (doomed_below (slots_of c.args.self.now) c.args.from c.in-Some.id.now _ _ _ c.in-Some.ensures.steps c.loop-id.invariant.sorted c.loop-id.invariant.left c.requires)

pub loop-id-preserved : goal.loop-id-preserved
loop-id-preserved c = record {
  sorted = sorted_rest c.in-Some.id.now c.in-Some.slot.now _ _ c.in-Some.ensures.steps c.loop-id.invariant.sorted;
  left = left_more (slots_of c.args.self.now) c.args.from c.in-Some.id.now c.in-Some.slot.now _ _ c.in-Some.ensures.steps (λ e. c.in_default.not-Doomed (c.to_slot.ensures ∙ e)) c.loop-id.invariant.left;
}

pub returns-clause-none : goal.returns-clause-none
returns-clause-none c = λ _. none_left (slots_of c.args.self.now) c.args.from _ c.in-None.ensures.steps.0 c.loop-id.invariant.left c.requires
