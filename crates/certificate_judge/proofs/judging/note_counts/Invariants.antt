use Rattle.std.proofs.Common.{ℕ, ◌+◌, ◌*◌, ◌<◌, ◌^◌, List, length}
use Rattle.certificates.specs.Certificate.{HostPart}
use Rattle.certificates.specs.Layout.{host_grammar}
use Rattle.certificates.specs.Telling.{IsHost}
use Rattle.certificate_judge.specs.Judging.{IsTally}
use Rattle.certificate_judge.proofs.Blocks.{NotingItems}
use Rattle.certificate_judge.proofs.judging.note_counts.Given as goal

abbrev pub decreases-loop-left : goal.decreases-loop-left
decreases-loop-left l = length l.left

abbrev pub invariant-loop-left : goal.invariant-loop-left
invariant-loop-left l = (offsets : List ℕ) (part : HostPart) → IsHost part l.host → host_grammar.Fits part → l.at + 26 * length part.items < 2 ^ 64
    → length (host_grammar.print part) < 2 ^ 64 → IsTally offsets l.fn.tally → NotingItems part offsets l.at l.left l.here l.now
