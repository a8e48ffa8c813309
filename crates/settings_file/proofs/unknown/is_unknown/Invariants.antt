-- The names that are left decide.
use Rattle.std.proofs.Common.{◌≡◌, map, drop}
use Rattle.settings_file.specs.Document.{is_unknown}
use Rattle.settings_file.proofs.unknown.is_unknown.Given as goal

abbrev pub invariant-loop-other : goal.invariant-loop-other
invariant-loop-other l =
    is_unknown (map (λ k. k.now) l.known) l.name ≡ is_unknown (map (λ k. k.now) (drop l.other-index l.known)) l.name
