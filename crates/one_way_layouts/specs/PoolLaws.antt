-- Files of the pool's index are read in one way.
use Rattle.std.specs.Prelude.{ℕ, Option}
use Rattle.std.specs.Int.{w16, w64}
use Rattle.wire_bytes.specs.Kind.{IsReadOneWay}
use Rattle.pool_index.specs.Items.{IsItem, IsNextItem}
use Rattle.pool_index.specs.Layout.{item_bytes, index_magic, byte_bytes, IsCount, IsIndex, items_grammar, parts_grammar, index_sees, index_grammar}
use Rattle.one_way_layouts.specs.OneWay.{IsOneWay}
use Rattle.one_way_layouts.specs.OneWayLaws.{narrow_once, then_once, seen_once, counted_once, peel}
use Rattle.one_way_layouts.specs.Fields.{number_once, number_in_once, flag_once, bytes_once, magic_once}

item_once : IsReadOneWay IsItem item_bytes
unfolding item_bytes
item_once = λ a b x y is_a is_b same.
    let digest = peel _ (bytes_once 16) a.id.digest b.id.digest _ _ x y is_a.range.id.digest is_b.range.id.digest same in
    let extension = peel _ (number_once w16 tt) a.id.extension b.id.extension _ _ x y is_a.range.id.extension is_b.range.id.extension digest.1 in
    let size = peel _ (number_once w64 tt) a.size b.size _ _ x y is_a.range.size is_b.range.size extension.1 in
    let mark = flag_once a.mark b.mark x y tt tt size.1 in
    ((λ i. record { id = record { digest = digest.0 i; extension = extension.0 i }; size = size.0 i; mark = mark.0 i }), mark.1)

items_once : (byte : Option ℕ) → IsOneWay (items_grammar byte)
items_once byte = counted_once (IsNextItem byte) item_bytes (λ before. narrow_once _ (λ item is. is.is) item_once) w64 (IsCount byte)
    (number_in_once w64 (IsCount byte) tt (λ n is. is.number))

pub pool_index_once : (byte : Option ℕ) → IsOneWay (index_grammar byte)
unfolding index_grammar
pool_index_once byte = seen_once (parts_grammar byte) (IsIndex byte) (λ items. (tt, (tt, items))) (λ p. p.1.1) (index_sees byte)
    (then_once _ _ (magic_once (index_magic byte)) (λ _ fits. then_once _ _ (magic_once (byte_bytes byte)) (λ _ fits. items_once byte)))
