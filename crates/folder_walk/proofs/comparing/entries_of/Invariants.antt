use Rattle.std.proofs.Common.{◌≡◌, map, take}
use Rattle.std.specs.Option.{option_copied}
use Rattle.folder_laws.specs.Lists.{named_in}
use Rattle.folder_walk.proofs.comparing.entries_of.Given as goal

abbrev pub invariant-loop-named : goal.invariant-loop-named
invariant-loop-named l = l.entries.items ≡ map (named_in (option_copied l.directory)) (take l.named-index l.named-items)
