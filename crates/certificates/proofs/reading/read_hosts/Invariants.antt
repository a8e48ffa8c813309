use Rattle.std.proofs.Common.{List}
use Rattle.wire_bytes.specs.ItemLaws.{ItemsRead}
use Rattle.certificates.specs.Certificate.{HostPart}
use Rattle.certificates.specs.Layout.{host_grammar}
use Rattle.certificates.proofs.reading.read_hosts.Given as goal

abbrev pub invariant-loop-i : goal.invariant-loop-i
invariant-loop-i l = record {
  items : List HostPart;
  read : ItemsRead (λ _. host_grammar.Fits) host_grammar.print l.initial.reader l.reader items l._i l.count;
}
