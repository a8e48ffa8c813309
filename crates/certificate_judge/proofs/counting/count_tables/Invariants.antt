use Rattle.std.proofs.Common.{◌≡◌, ℕ, List, length}
use Rattle.std.specs.List.{AllByRecursion}
use Rattle.wire_bytes.specs.Reading.{left}
use Rattle.certificates.specs.Certificate.{Id, Table}
use Rattle.certificates.specs.Layout.{table_grammar}
use Rattle.certificates.specs.Telling.{AreIn}
use Rattle.certificates.specs.PrintLaws.{AreRising}
use Rattle.certificate_judge.specs.Judging.{AreNumbers, ids_in}
use Rattle.certificate_judge.proofs.Runs.{Counting}
use Rattle.certificate_judge.proofs.counting.count_tables.Given as goal

abbrev pub invariant-loop-i : goal.invariant-loop-i
invariant-loop-i l = record {
  len : length l.counters ≡ length l.initial.counters;
  counted : (numbers : Id → ℕ) (ts : List Table) → AreIn table_grammar.print ts l.tables → AllByRecursion table_grammar.Fits ts
      → AreRising (ids_in l.block) → AreNumbers numbers (ids_in l.block) l.initial.counters
      → Counting numbers ts (ids_in l.block) (left l.reader) l.counters l._i l.tables.count;
}
