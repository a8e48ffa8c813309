use Rattle.std.proofs.Common.{◌≡◌, ℕ, ◌+◌, take, length}
use Rattle.certificates.specs.Certificate.{Id}
use Rattle.certificate_judge.specs.Faults.{number_of}
use Rattle.certificates.specs.PrintLaws.{AreRising}
use Rattle.certificate_judge.specs.Judging.{AreNumbers, ids_in}
use Rattle.certificate_judge.proofs.counting.count_ids.Given as goal

abbrev pub invariant-loop-id : goal.invariant-loop-id
invariant-loop-id l = record {
  len : length l.counters ≡ length l.initial.counters;
  counted : (numbers : Id → ℕ) → AreRising (ids_in l.block) → AreNumbers numbers (ids_in l.block) l.initial.counters
      → AreNumbers (λ id. numbers id + number_of id (take l.id-index l.ids)) (ids_in l.block) l.counters;
}
