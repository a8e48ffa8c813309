-- The file of a host's counts.
--     counts_grammar, counts_file      `RCT1`, the host's number, the number of items, the items
use Rattle.std.specs.Prelude.{ℕ, List, [], ◌∷◌, length}
use Rattle.std.specs.Int.{w64}
use Rattle.std.specs.List.{AllByRecursion}
use Rattle.wire_bytes.specs.Layout.{IsNumber}
use Rattle.wire_bytes.specs.Seal.{sealed}
use Rattle.wire_bytes.specs.Grammar.{Grammar, seen_as, items_of}
use Rattle.ref_counts.specs.Numbers.{Items, AreSome, AreCounts}
use Rattle.ref_counts.specs.Layout.{item_bytes, IsItem, IsNext, IsInRange, IsCounts}
use Rattle.ref_counts.specs.LayoutLaws.{parts_grammar, counts_sees, order_from_next}

-- the body of the file of a host's counts
unfoldable pub counts_grammar : ℕ → Grammar Items
counts_grammar host = seen_as (parts_grammar host) IsCounts (λ items. (tt, (tt, items))) (λ p. p.1.1) (counts_sees host)

-- the file
abbrev pub counts_file : ℕ → Items → List ℕ
counts_file host items = sealed ((counts_grammar host).print items)

-- the items of a file are counts, and counts with all numbers in their ranges have a file
AreSome-items : (items : Items) → AllByRecursion IsItem items → AreSome items
AreSome-items [] all = tt
AreSome-items (item ∷ items) all = (all.0.some, AreSome-items items all.1)

pub counts_from_items : (count : ℕ) (items : Items) → (items_of IsNext item_bytes count).Fits items → AreCounts items
unfolding items_of
counts_from_items count items fits = let all = order_from_next [] items tt fits.0 in (all.0, AreSome-items items all.1)

pub counts_fit : (host : ℕ) (items : Items) → (counts_grammar host).Fits items → AreCounts items
unfolding counts_grammar seen_as
counts_fit host items fits = (fits.in_order, AreSome-items items fits.each)

items-AreSome : (items : Items) → AreSome items → AllByRecursion IsInRange items → AllByRecursion IsItem items
items-AreSome [] some range = tt
items-AreSome (item ∷ items) some range = (record { range = range.0; some = some.0 }, items-AreSome items some.1 range.1)

pub fits_counts : (items : Items) → AreCounts items → IsNumber w64 (length items) → AllByRecursion IsInRange items → IsCounts items
fits_counts items are count range = record { in_order = are.0; each = items-AreSome items are.1 range; count = count }
