use Rattle.std.proofs.Common.{ℕ, ◌+◌, ◌<◌, ◌^◌, List, length}
use Rattle.std.specs.List.{AllByRecursion}
use Rattle.certificates.specs.Certificate.{HostPart}
use Rattle.certificates.specs.Layout.{host_grammar}
use Rattle.certificates.specs.Telling.{AreIn}
use Rattle.certificates.specs.PrintLaws.{AreRising}
use Rattle.certificate_judge.specs.Judging.{IsTally, ids_in}
use Rattle.certificate_judge.proofs.Runs.{NotingHosts}
use Rattle.certificate_judge.proofs.judging.note_hosts.Given as goal

abbrev pub invariant-loop-i : goal.invariant-loop-i
invariant-loop-i l = (offsets : List ℕ) (parts : List HostPart) → AreIn host_grammar.print parts l.hosts → AllByRecursion host_grammar.Fits parts
    → AreRising (ids_in l.pool) → 16 + length l.hosts.bytes.now + 24 < 2 ^ 64 → IsTally offsets l.fn.tally
    → NotingHosts (ids_in l.pool) offsets parts (length l.hosts.bytes.now) l.reader l.now l._i l.hosts.count
