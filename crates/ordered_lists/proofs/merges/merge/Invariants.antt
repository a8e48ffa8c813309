use Rattle.std.proofs.Common.{◌≡◌, ◌++◌, ◌+◌, ◌-◌, ◌<◌, ◌≤◌, length, drop, map}
use Rattle.ordered_lists.specs.Merge.{merge}
use Rattle.ordered_lists.proofs.merges.merge.Given as goal

abbrev pub invariant-both : goal.invariant-both
invariant-both g l = record {
  left : l.i ≤ length l.left;
  right : l.j ≤ length l.right;
  told : map g.C.Rule.entry l.entries.items ++ merge g.C.Rule.order g.C.Rule.gives (map g.C.Rule.entry (drop l.i l.left)) (map g.C.Rule.entry (drop l.j l.right)) ≡ merge g.C.Rule.order g.C.Rule.gives (map g.C.Rule.entry l.left) (map g.C.Rule.entry l.right);
}

abbrev pub decreases-both : goal.decreases-both
decreases-both g l = (length l.left - l.i) + (length l.right - l.j)

abbrev pub invariant-left : goal.invariant-left
invariant-left g l = record {
  left : l.i ≤ length l.left;
  right : l.j ≤ length l.right;
  ended : l.i < length l.left → l.j ≡ length l.right;
  told : map g.C.Rule.entry l.entries.items ++ merge g.C.Rule.order g.C.Rule.gives (map g.C.Rule.entry (drop l.i l.left)) (map g.C.Rule.entry (drop l.j l.right)) ≡ merge g.C.Rule.order g.C.Rule.gives (map g.C.Rule.entry l.left) (map g.C.Rule.entry l.right);
}

abbrev pub decreases-left : goal.decreases-left
decreases-left g l = length l.left - l.i

abbrev pub invariant-right : goal.invariant-right
invariant-right g l = record {
  left : l.i ≡ length l.left;
  right : l.j ≤ length l.right;
  told : map g.C.Rule.entry l.entries.items ++ merge g.C.Rule.order g.C.Rule.gives (map g.C.Rule.entry (drop l.i l.left)) (map g.C.Rule.entry (drop l.j l.right)) ≡ merge g.C.Rule.order g.C.Rule.gives (map g.C.Rule.entry l.left) (map g.C.Rule.entry l.right);
}

abbrev pub decreases-right : goal.decreases-right
decreases-right g l = length l.right - l.j
