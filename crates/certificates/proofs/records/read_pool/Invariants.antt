use Rattle.std.proofs.Common.{◌≡◌, List}
use Rattle.wire_bytes.specs.ItemLaws.{ItemsRead}
use Rattle.certificates.specs.Certificate.{PoolFile}
use Rattle.certificates.specs.Layout.{last_key, IsNextFile, file_bytes}
use Rattle.certificates.proofs.records.read_pool.Given as goal

abbrev pub invariant-loop-i : goal.invariant-loop-i
invariant-loop-i l = record {
  items : List PoolFile;
  last : l.last ≡ last_key (λ file. file.id) items;
  read : ItemsRead IsNextFile file_bytes l.initial.reader l.reader items l._i l.count;
}
