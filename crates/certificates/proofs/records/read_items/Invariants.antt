use Rattle.std.proofs.Common.{◌≡◌, List}
use Rattle.wire_bytes.specs.ItemLaws.{ItemsRead}
use Rattle.certificates.specs.Certificate.{Item}
use Rattle.certificates.specs.Layout.{last_key, IsNextItem, item_bytes}
use Rattle.certificates.proofs.records.read_items.Given as goal

abbrev pub invariant-loop-i : goal.invariant-loop-i
invariant-loop-i l = record {
  items : List Item;
  last : l.last ≡ last_key (λ item. item.id) items;
  read : ItemsRead IsNextItem item_bytes l.initial.reader l.reader items l._i l.count;
}
