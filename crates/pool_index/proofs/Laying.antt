-- What was written is the file of a byte.
use Rattle.std.proofs.Common.{◌≡◌, ◌<◌, ℕ, List, [], ◌∷◌, ◌++◌, true, Some, length, nat_lt, sym, ap, ◌∙◌, arith, refl}
use Rattle.std.specs.Int.{w64}
use Rattle.std.specs.List.{AllByRecursion}
use Rattle.std.proofs.lemmas.Bool.Decides.{nat_tests}
use Rattle.wire_bytes.specs.Layout.{number_bytes, IsNumber}
use Rattle.wire_bytes.specs.Breaks.{items_bytes}
use Rattle.wire_bytes.specs.Grammar.{field, followed_by, seen_as, items_of}
use Rattle.pool_index.specs.declared.item.IndexItem.{IndexItem}
use Rattle.pool_index.specs.Items.{IsItem, IsInRange, AreRising, is_under}
use Rattle.pool_index.specs.ItemLaws.{items_from_rising}
use Rattle.pool_index.specs.Layout.{item_bytes, index_magic, index_grammar, IsIndex}

pub laid : (byte : ℕ) (items : List IndexItem) (first a b c d : List ℕ) → first ≡ [] → a ≡ first ++ index_magic (Some byte) → b ≡ a ++ byte ∷ [] → c ≡ b ++ number_bytes w64 (length items)
    → d ≡ c ++ items_bytes item_bytes items → d ≡ (index_grammar (Some byte)).print items
unfolding field followed_by seen_as items_of index_grammar
laid byte items first a b c d e0 e1 e2 e3 e4 =
    e4 ∙ ap (λ (l : List ℕ). l ++ items_bytes item_bytes items)
    (e3 ∙ ap (λ (l : List ℕ). l ++ number_bytes w64 (length items))
    (e2 ∙ ap (λ (l : List ℕ). l ++ byte ∷ []) (e1 ∙ ap (λ (l : List ℕ). l ++ index_magic (Some byte)) e0)))

items_of_contents : (items : List IndexItem) → AllByRecursion IsInRange items → AllByRecursion (λ item. 0 < item.size) items → AllByRecursion IsItem items
items_of_contents [] range sized = tt
items_of_contents (item ∷ items) range sized = (record { range = range.0; some = sized.0 }, items_of_contents items range.1 sized.1)

some_items : (n : ℕ) → 0 < n → nat_lt 0 n ≡ true
some_items n lt = grind (arith, nat_tests)

pub index_of_items : (byte : ℕ) (items : List IndexItem) → 0 < length items → IsNumber w64 (length items) → AreRising items → AllByRecursion (λ item. is_under (Some byte) item.id ≡ true) items
    → AllByRecursion (λ item. 0 < item.size) items → AllByRecursion IsInRange items → IsIndex (Some byte) items
index_of_items byte items some count rising under sized range = record {
  are = record { count = count; each = items_from_rising (Some byte) items rising (items_of_contents items range sized) under };
  enough = some_items (length items) some;
}
