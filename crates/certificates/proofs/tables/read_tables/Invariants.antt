use Rattle.std.proofs.Common.{◌≡◌, List}
use Rattle.wire_bytes.specs.ItemLaws.{ItemsRead}
use Rattle.certificates.specs.Certificate.{Table}
use Rattle.certificates.specs.Layout.{last_key, IsNextTable, table_grammar}
use Rattle.certificates.proofs.tables.read_tables.Given as goal

abbrev pub invariant-loop-i : goal.invariant-loop-i
invariant-loop-i l = record {
  items : List Table;
  last : l.last ≡ last_key (λ t. t.number) items;
  read : ItemsRead IsNextTable table_grammar.print l.initial.reader l.reader items l._i l.count;
}
