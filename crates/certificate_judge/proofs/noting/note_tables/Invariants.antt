use Rattle.std.proofs.Common.{ℕ, ◌+◌, ◌<◌, ◌^◌, List, length}
use Rattle.std.specs.List.{AllByRecursion}
use Rattle.certificates.specs.Certificate.{Table}
use Rattle.certificates.specs.Layout.{table_grammar}
use Rattle.certificates.specs.Telling.{AreIn}
use Rattle.certificate_judge.specs.Judging.{IsTally, AreKnown, is_unknown_in}
use Rattle.certificate_judge.proofs.Runs.{Noting}
use Rattle.certificate_judge.proofs.noting.note_tables.Given as goal

abbrev pub invariant-loop-i : goal.invariant-loop-i
invariant-loop-i l = (offsets : List ℕ) (ts : List Table) → AreKnown l.known → AreIn table_grammar.print ts l.tables → AllByRecursion table_grammar.Fits ts
    → l.at + length l.tables.bytes.now < 2 ^ 64 → IsTally offsets l.fn.tally
    → Noting (is_unknown_in l.known) offsets l.at ts (length l.tables.bytes.now) l.reader l.now l._i l.tables.count
