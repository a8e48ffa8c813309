-- The files of the pool's index: that of a byte, with the items whose digests begin with it, and the one file of older
-- stores, with all items. Which of them it is, is told by an option: the byte, or None.
--     index_grammar, index_file      `RPB1`, the byte, the number of items, at least one, the items;  `RPI1`, the number, the items
--     bucket_of      the file of a byte, None where it has no items
use Rattle.std.specs.Prelude.{◌≡◌, ℕ, nat_lt, Bool, true, List, [], ◌∷◌, ◌++◌, length, Option, Some, None}
use Rattle.std.specs.Int.{w16, w64}
use Rattle.std.proofs.Common.{refl}
use Rattle.wire_bytes.specs.Layout.{number_bytes, flag_bytes, IsNumber}
use Rattle.wire_bytes.specs.Seal.{sealed}
use Rattle.wire_bytes.specs.Breaks.{AreItems}
use Rattle.wire_bytes.specs.Grammar.{Grammar, field, followed_by, seen_as, Sees, magic, number, items_of, counted}
use Rattle.pool_index.specs.declared.item.IndexItem.{IndexItem}
use Rattle.pool_index.specs.Items.{IsNextItem}

-- digest, extension u16, size u64, mark flag
unfoldable pub item_bytes : IndexItem → List ℕ
item_bytes item = item.id.digest ++ (number_bytes w16 item.id.extension ++ (number_bytes w64 item.size ++ flag_bytes item.mark))

-- RPB1, and RPI1
abbrev pub index_magic : Option ℕ → List ℕ
index_magic (Some byte) = 82 ∷ 80 ∷ 66 ∷ 49 ∷ []
index_magic None = 82 ∷ 80 ∷ 73 ∷ 49 ∷ []

-- the byte, if there is one
abbrev pub byte_bytes : Option ℕ → List ℕ
byte_bytes (Some byte) = byte ∷ []
byte_bytes None = []

-- whether a file may have this number of items: that of a byte has at least one
abbrev pub is_enough : Option ℕ → ℕ → Bool
is_enough (Some byte) count = nat_lt 0 count
is_enough None count = true

-- the number of items of a file
pub record IsCount (byte : Option ℕ) (count : ℕ) : Type 0 where
  pub number : IsNumber w64 count
  pub enough : is_enough byte count ≡ true

-- items in order, few enough to be counted
pub record AreItemsOf (byte : Option ℕ) (items : List IndexItem) : Type 0 where
  pub count : IsNumber w64 (length items)
  pub each : AreItems (IsNextItem byte) [] items

-- the items that a file may have
pub record IsIndex (byte : Option ℕ) (items : List IndexItem) : Type 0 where
  pub are : AreItemsOf byte items
  pub enough : is_enough byte (length items) ≡ true

-- the number of items, and the items
abbrev pub items_grammar : Option ℕ → Grammar (List IndexItem)
items_grammar byte = counted w64 (IsCount byte) (IsNextItem byte) item_bytes

-- what the file has in turn
abbrev pub parts_grammar : Option ℕ → Grammar (Unit {0} × (Unit {0} × List IndexItem))
parts_grammar byte = followed_by (magic (index_magic byte)) (λ _. followed_by (magic (byte_bytes byte)) (λ _. items_grammar byte))

pub index_sees : (byte : Option ℕ) → Sees (parts_grammar byte) (IsIndex byte) (λ items. (tt, (tt, items))) (λ p. p.1.1)
unfolding field followed_by items_of seen_as
index_sees byte = record {
  fits = λ items are. (tt, (tt, (record { number = are.are.count; enough = are.enough }, are.are.each)));
  made = λ items are. refl;
  makes = λ p are. record { are = record { count = are.1.1.0.number; each = are.1.1.1 }; enough = are.1.1.0.enough };
  parted = λ p are. refl;
}

-- the body of a file
unfoldable pub index_grammar : Option ℕ → Grammar (List IndexItem)
index_grammar byte = seen_as (parts_grammar byte) (IsIndex byte) (λ items. (tt, (tt, items))) (λ p. p.1.1) (index_sees byte)

-- a file
abbrev pub index_file : Option ℕ → List IndexItem → List ℕ
index_file byte items = sealed ((index_grammar byte).print items)

-- the file of a byte, which has none where it has no items
abbrev pub bucket_of : ℕ → List IndexItem → Option (List ℕ)
bucket_of byte [] = None
bucket_of byte (item ∷ items) = Some (index_file (Some byte) (item ∷ items))
