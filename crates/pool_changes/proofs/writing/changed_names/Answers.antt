-- The four parts of a change.
use Rattle.std.proofs.Common.{refl}
use Rattle.pool_changes.specs.declared.slot.Turn.TheVariants.{Add}
use Rattle.pool_changes.specs.Kept.{slots_of}
use Rattle.pool_changes.specs.RelistedLaws.{same_then}
use Rattle.pool_changes.specs.IndexedLaws.{four_parts}
use Rattle.pool_changes.specs.Writing.{layered}
use Rattle.pool_changes.proofs.Layering.{nothing_over, none_over}
use Rattle.pool_changes.proofs.writing.changed_names.Goals as goal

pub returns-clause-changed : goal.returns-clause-changed
returns-clause-changed c =
    let slots = slots_of c.args.names.now in
    let first = same_then Add c.args.added.now slots (layered slots (slots_of c.new-over.result)) (layered slots (slots_of c.turn_all_over.new.over))
    (nothing_over slots (slots_of c.new-over.result) c.new-over.ensures) c.in_ok-turn_all_over.ensures.turned in
    four_parts c.args.added.now c.args.marked.now c.args.unmarked.now c.args.removed.now _ _ _ _
    slots (layered slots (slots_of c.turn_all_over.new.over)) (layered slots (slots_of c.turn_all_over-2.new.over)) (layered slots (slots_of c.turn_all_over-3.new.over)) (layered slots (slots_of c.turn_all_over-4.new.over))
    refl refl refl refl first c.in_ok-turn_all_over-2.ensures.turned c.in_ok-turn_all_over-3.ensures.turned c.in_ok-turn_all_over-4.ensures.turned

pub returns-clause-over : goal.returns-clause-over
returns-clause-over c =
    c.in_ok-turn_all_over-4.ensures.over (c.in_ok-turn_all_over-3.ensures.over (c.in_ok-turn_all_over-2.ensures.over (c.in_ok-turn_all_over.ensures.over
    (none_over (slots_of c.args.names.now) (slots_of c.new-over.result) c.new-over.ensures))))
