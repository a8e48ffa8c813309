-- The head and the index of a host are read in one way.
use Rattle.std.specs.Prelude.{⊤, ◌≡◌, ℕ, ◌==◌, List, [], length, slice_index, if◌then◌else◌}
use Rattle.std.specs.Int.{w8, w16, w32, w64}
use Rattle.std.proofs.Common.{refl, sym, ap, ◌∙◌, arith}
use Rattle.wire_bytes.specs.Kind.{IsReadOneWay}
use Rattle.wire_bytes.specs.Layout.{text_bytes, IsNumber}
use Rattle.receipts.specs.declared.receipt.Receipt.{Receipt}
use Rattle.backup_rules.specs.Layout.{line_bytes}
use Rattle.backup_index.specs.Names.{IsHostName, IsFreshName}
use Rattle.backup_index.specs.NameLaws.{counted_name}
use Rattle.backup_index.specs.Head.{IsHead, IsHostCount, head_magic, head_parts, names_grammar, parts_of_head, head_of, sees_head, head_grammar}
use Rattle.backup_index.specs.declared.layouts.IndexLayout.{IndexLayout}
use Rattle.backup_index.specs.declared.layouts.IndexLayout.TheVariants.{First, Second, Third}
use Rattle.backup_index.specs.Lines.{LineFits}
use Rattle.backup_index.specs.Index.{IsStored, IsReceipt, IsFreshReceipt, IsReceiptCount, receipt_bytes, receipts_grammar, IsNext, index_magic, rules_layout, layout_grammar, u32_grammar, name_grammar, numbers_grammar, lines_grammar, index_parts, parts_of_index, index_from}
use Rattle.backup_index.specs.IndexLaws.{sees_index}
use Rattle.backup_index.specs.Stored.{index_grammar}
use Rattle.one_way_layouts.specs.OneWay.{IsOneWay}
use Rattle.one_way_layouts.specs.OneWayLaws.{peel, narrow_once, field_once, then_once, seen_once, items_once, counted_once}
use Rattle.one_way_layouts.specs.Fields.{number_once, number_in_once, text_once, bytes_once, magic_once}
use Rattle.one_way_layouts.specs.RuleLaws.{rules_once, line_once}

-- ---- the head

few_hosts : (n : ℕ) → IsHostCount n → IsNumber w32 n
few_hosts n is = omega (arith, is)

names_once : (count : ℕ) → IsOneWay (names_grammar count)
names_once count = items_once IsFreshName (text_bytes w8) (λ before. narrow_once _ (λ name is. counted_name name is.kept) (text_once w8 tt)) count

pub head_once : IsOneWay head_grammar
head_once = seen_once head_parts IsHead parts_of_head head_of sees_head
    (then_once _ _ (magic_once head_magic) (λ _ fits. then_once _ _ (number_in_once w64 (IsNumber w64) tt (λ n is. is))
    (λ _ fits. then_once _ _ (number_in_once w32 IsHostCount tt few_hosts) (λ count fits. names_once count))))

-- ---- the index of a host

layout_at : List ℕ → IndexLayout
layout_at bytes = if slice_index bytes 3 == 49 then First else (if slice_index bytes 3 == 50 then Second else Third)

layout_back : (layout : IndexLayout) → layout ≡ layout_at (index_magic layout)
unfolding layout_at
layout_back First = refl
layout_back Second = refl
layout_back Third = refl

four_bytes : (layout : IndexLayout) → length (index_magic layout) ≡ 4
four_bytes First = refl
four_bytes Second = refl
four_bytes Third = refl

layout_once : IsOneWay layout_grammar
layout_once = field_once (λ _. ⊤) index_magic (λ a b x y is_a is_b same.
    let bytes = bytes_once 4 (index_magic a) (index_magic b) x y (four_bytes a) (four_bytes b) same in
    (layout_back a ∙ ap layout_at bytes.0 ∙ sym (layout_back b), bytes.1))

u32_once : IsOneWay u32_grammar
u32_once = number_in_once w32 (IsNumber w32) tt (λ n is. is)

name_once : IsOneWay name_grammar
name_once = field_once IsHostName (text_bytes w8) (narrow_once _ counted_name (text_once w8 tt))

receipt_once : IsReadOneWay IsReceipt receipt_bytes
unfolding receipt_bytes
receipt_once = λ a b x y is_a is_b same.
    let token = peel _ (bytes_once 16) a.token.bytes b.token.bytes _ _ x y is_a.token is_b.token same in
    let epoch = peel _ (number_once w64 tt) a.name.epoch b.name.epoch _ _ x y is_a.epoch is_b.epoch token.1 in
    let sequence = peel _ (number_once w64 tt) a.name.sequence b.name.sequence _ _ x y is_a.sequence is_b.sequence epoch.1 in
    let number = number_once w32 tt a.number b.number x y is_a.number is_b.number sequence.1 in (
      (λ i. record { token = record { bytes = token.0 i }; name = record { epoch = epoch.0 i; sequence = sequence.0 i }; number = number.0 i }),
      number.1,
    )

no_receipts_once : IsReadOneWay (λ (receipts : List Receipt). receipts ≡ []) (λ receipts. [])
no_receipts_once a b x y is_a is_b same = (is_a ∙ sym is_b, same)

few_receipts : (n : ℕ) → IsReceiptCount n → IsNumber w16 n
few_receipts n is = omega (arith, is)

receipts_once : (layout : IndexLayout) → IsOneWay (receipts_grammar layout)
receipts_once First = field_once _ _ no_receipts_once
receipts_once Second = field_once _ _ no_receipts_once
receipts_once Third = counted_once IsFreshReceipt receipt_bytes (λ before. narrow_once _ (λ receipt fits. fits.kept) receipt_once) w16 IsReceiptCount
    (number_in_once w16 IsReceiptCount tt few_receipts)

small_next : (n : ℕ) → IsNext n → IsNumber w64 n
small_next n is = omega (arith, is)

numbers_once : IsOneWay numbers_grammar
numbers_once = then_once _ _ u32_once (λ _ fits. then_once _ _ u32_once (λ _ fits. then_once _ _ (number_in_once w64 IsNext tt small_next)
    (λ _ fits. number_in_once w64 (IsNumber w64) tt (λ n is. is))))

lines_once : (next count : ℕ) → IsOneWay (lines_grammar next count)
lines_once next count = items_once (LineFits next count) line_bytes (λ before. narrow_once _ (λ line fits. fits.is) line_once) count

pub index_once : IsOneWay index_grammar
index_once = seen_once index_parts IsStored parts_of_index index_from sees_index
    (then_once _ _ layout_once (λ layout fits. then_once _ _ u32_once (λ _ fits. then_once _ _ name_once
    (λ _ fits. then_once _ _ (rules_once (rules_layout layout)) (λ _ fits. then_once _ _ (receipts_once layout)
    (λ _ fits. then_once _ _ numbers_once (λ n fits. lines_once n.1.1.0 n.1.1.1)))))))
