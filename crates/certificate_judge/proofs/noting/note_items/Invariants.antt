use Rattle.std.proofs.Common.{◌≡◌, ℕ, ◌+◌, ◌*◌, ◌<◌, ◌^◌, ◌++◌, List, length, take, map}
use Rattle.std.specs.List.{AllByRecursion}
use Rattle.certificates.specs.Certificate.{Id, Item}
use Rattle.certificates.specs.Layout.{item_bytes, IsItem}
use Rattle.certificate_judge.specs.Faults.{is_miscounted, wrong}
use Rattle.certificate_judge.specs.Judging.{IsTally, AreNumbers, ids_in}
use Rattle.certificate_judge.proofs.noting.note_items.Given as goal

abbrev pub invariant-loop-i : goal.invariant-loop-i
invariant-loop-i l = record {
  placed : l.at + 26 * length l.block < 2 ^ 64 → l.here ≡ l.at + l.i * 26;
  noted : (offsets : List ℕ) (items : List Item) (numbers : Id → ℕ) → l.block ≡ map item_bytes items → AllByRecursion IsItem items
      → AreNumbers numbers (ids_in l.block) l.counters → ((id : Id) → numbers id < 2 ^ 64) → l.at + 26 * length items < 2 ^ 64
      → IsTally offsets l.fn.tally → IsTally (offsets ++ wrong (is_miscounted numbers) 26 l.at (take l.i items)) l.now;
}
