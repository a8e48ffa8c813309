use Rattle.std.proofs.Common.{◌≡◌, drop, []}
use Rattle.disk_trait.specs.Image.{over_after}
use Rattle.disk_trait.proofs.image.overrides.Given as goal

abbrev pub invariant-loop-entry : goal.invariant-loop-entry
invariant-loop-entry l = over_after l.span l.over.items (drop l.entry-index l.entries) ≡ over_after l.span [] l.entries
