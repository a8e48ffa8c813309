use Rattle.pool_changes.specs.Kept.{slots_of}
use Rattle.pool_changes.specs.IndexedLaws.{four_parts}
use Rattle.pool_changes.proofs.index.IndexChange.make.Goals as goal

pub returns : goal.returns
returns c =
    four_parts c.args.self.added.items c.args.self.marked.items c.args.self.unmarked.items c.args.self.removed.items _ _ _ _
    (slots_of c.args.names.now) (slots_of c.turn_all.new.names) (slots_of c.turn_all-2.new.names) (slots_of c.turn_all-3.new.names) (slots_of c.turn_all-4.new.names)
    c.as_slice.ensures.value c.as_slice-2.ensures.value c.as_slice-3.ensures.value c.as_slice-4.ensures.value
    c.turn_all.ensures c.turn_all-2.ensures c.turn_all-3.ensures c.turn_all-4.ensures
