use Rattle.std.proofs.Common.{◌≡◌, ℕ, ◌+◌, ◌*◌, ◌<◌, ◌^◌, ◌++◌, List, length, take}
use Rattle.certificate_judge.specs.Faults.{wrong}
use Rattle.certificate_judge.specs.Judging.{IsTally, AreKnown, is_unknown_in}
use Rattle.certificate_judge.proofs.noting.note_ids.Given as goal

abbrev pub invariant-loop-id : goal.invariant-loop-id
invariant-loop-id l = record {
  placed : l.at + 18 * length l.ids < 2 ^ 64 → l.here ≡ l.at + l.id-index * 18;
  noted : (offsets : List ℕ) → AreKnown l.known → l.at + 18 * length l.ids < 2 ^ 64 → IsTally offsets l.fn.tally
      → IsTally (offsets ++ wrong (is_unknown_in l.known) 18 l.at (take l.id-index l.ids)) l.now;
}
