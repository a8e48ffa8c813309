-- The index of a host.
--     Index, IsIndex      what an index says;  its numbers are in their ranges, its texts and lines keep their rules
--     receipt_bytes      the layout of a receipt: token, epoch, sequence, number: 36 bytes
--     index_grammar      the layout's four bytes, the host's number and name, its rules, its receipts behind their number, what is
--         known of its contacts, the next number, the number of lines, the lines; of the first layout `RHI1`, of the second `RHI2`,
--         which have no receipts, and of the third `RHI3`
use Rattle.std.specs.Prelude.{⊤, ◌≡◌, ℕ, ◌≤◌, false, List, [], ◌∷◌, ◌++◌, length}
use Rattle.std.specs.Int.{w8, w16, w32, w64}
use Rattle.std.specs.List.{AllByRecursion}
use Rattle.wire_bytes.specs.Layout.{number_bytes, text_bytes, IsNumber}
use Rattle.wire_bytes.specs.Grammar.{Grammar, field, number, followed_by, items_of, counted}
use Rattle.receipts.specs.declared.receipt.Receipt.{Receipt}
use Rattle.receipts.specs.Receipts.{AreReceipts, has_token}
use Rattle.backup_rules.specs.declared.lines.Line.{Line}
use Rattle.backup_rules.specs.declared.layouts.RulesLayout.{RulesLayout}
use Rattle.backup_rules.specs.declared.layouts.RulesLayout.TheVariants as rules_in
use Rattle.backup_rules.specs.Values.{RuleSet}
use Rattle.backup_rules.specs.Ranges.{IsRules}
use Rattle.backup_rules.specs.Layout.{rules_grammar, line_bytes, IsLine}
use Rattle.backup_index.specs.declared.layouts.IndexLayout.{IndexLayout}
use Rattle.backup_index.specs.declared.layouts.IndexLayout.TheVariants.{First, Second, Third}
use Rattle.backup_index.specs.Names.{IsHostName}
use Rattle.backup_index.specs.Lines.{IsSound, LineFits}

pub record Index : Type 0 where
  pub host : ℕ
  pub name : List ℕ
  pub rules : RuleSet
  pub good : ℕ
  pub bad : ℕ
  pub next : ℕ
  pub receipts : List Receipt
  pub lines : List Line

abbrev pub index_of : ℕ → List ℕ → RuleSet → ℕ → ℕ → ℕ → List Receipt → List Line → Index
index_of host name rules good bad next receipts lines =
    record { host = host; name = name; rules = rules; good = good; bad = bad; next = next; receipts = receipts; lines = lines }

-- ---- receipts

pub record IsReceipt (receipt : Receipt) : Type 0 where
  pub token : length receipt.token.bytes ≡ 16
  pub epoch : IsNumber w64 receipt.name.epoch
  pub sequence : IsNumber w64 receipt.name.sequence
  pub number : IsNumber w32 receipt.number

unfoldable pub receipt_bytes : Receipt → List ℕ
receipt_bytes receipt =
    receipt.token.bytes ++ (number_bytes w64 receipt.name.epoch ++ (number_bytes w64 receipt.name.sequence ++ number_bytes w32 receipt.number))

-- a receipt whose token none of those before has
pub record IsFreshReceipt (before : List Receipt) (receipt : Receipt) : Type 0 where
  pub kept : IsReceipt receipt
  pub fresh : has_token before receipt.token ≡ false

abbrev pub IsReceiptCount : ℕ → Type 0
IsReceiptCount count = count ≤ 256

pub record IsIndex (index : Index) : Type 0 where
  pub host : IsNumber w32 index.host
  pub name : IsHostName index.name
  pub rules : IsRules index.rules
  pub good : IsNumber w32 index.good
  pub bad : IsNumber w32 index.bad
  pub receipts : AreReceipts index.receipts
  pub each_receipt : AllByRecursion IsReceipt index.receipts
  pub count : IsNumber w64 (length index.lines)
  pub each : AllByRecursion IsLine index.lines
  pub sound : IsSound index.next index.lines

-- ---- its layouts

-- RHI1, RHI2 and RHI3
abbrev pub index_magic : IndexLayout → List ℕ
index_magic First = 82 ∷ 72 ∷ 73 ∷ 49 ∷ []
index_magic Second = 82 ∷ 72 ∷ 73 ∷ 50 ∷ []
index_magic Third = 82 ∷ 72 ∷ 73 ∷ 51 ∷ []

abbrev pub rules_layout : IndexLayout → RulesLayout
rules_layout First = rules_in.First
rules_layout Second = rules_in.Second
rules_layout Third = rules_in.Second

-- none in the first two layouts
abbrev pub receipts_grammar : IndexLayout → Grammar (List Receipt)
receipts_grammar First = field (λ receipts. receipts ≡ []) (λ receipts. [])
receipts_grammar Second = field (λ receipts. receipts ≡ []) (λ receipts. [])
receipts_grammar Third = counted w16 IsReceiptCount IsFreshReceipt receipt_bytes

-- an index that has this layout
pub record IsStored (stored : IndexLayout × Index) : Type 0 where
  pub index : IsIndex stored.1
  pub rules : (rules_grammar (rules_layout stored.0)).Fits stored.1.rules
  pub receipts : (receipts_grammar stored.0).Fits stored.1.receipts

abbrev pub layout_grammar : Grammar IndexLayout
layout_grammar = field (λ _. ⊤) index_magic

abbrev pub u32_grammar : Grammar ℕ
u32_grammar = number w32 (IsNumber w32)

abbrev pub name_grammar : Grammar (List ℕ)
name_grammar = field IsHostName (text_bytes w8)

abbrev pub IsNext : ℕ → Type 0
IsNext next = next ≤ 4294967296

-- the contacts, the next number, the number of lines
abbrev pub Counted : Type 0
Counted = ℕ × (ℕ × (ℕ × ℕ))

abbrev pub numbers_grammar : Grammar Counted
numbers_grammar = followed_by u32_grammar (λ _. followed_by u32_grammar (λ _. followed_by (number w64 IsNext) (λ _. number w64 (IsNumber w64))))

-- so many lines below the next number
abbrev pub lines_grammar : ℕ → ℕ → Grammar (List Line)
lines_grammar next count = items_of (LineFits next count) line_bytes count

abbrev pub IndexParts : Type 0
IndexParts = IndexLayout × (ℕ × (List ℕ × (RuleSet × (List Receipt × (Counted × List Line)))))

abbrev pub index_parts : Grammar IndexParts
index_parts =
    followed_by layout_grammar (λ layout. followed_by u32_grammar (λ _. followed_by name_grammar (λ _.
    followed_by (rules_grammar (rules_layout layout)) (λ _. followed_by (receipts_grammar layout) (λ _.
    followed_by numbers_grammar (λ n. lines_grammar n.1.1.0 n.1.1.1))))))

abbrev pub parts_of_index : IndexLayout × Index → IndexParts
parts_of_index stored =
    let index = stored.1 in (
      stored.0,
      (
        index.host,
        (
          index.name,
          (
            index.rules,
            (
              index.receipts,
              ((index.good, (index.bad, (index.next, length index.lines))), index.lines),
            ),
          ),
        ),
      ),
    )

abbrev pub index_from : IndexParts → IndexLayout × Index
index_from p =
    (p.0, index_of p.1.0 p.1.1.0 p.1.1.1.0 p.1.1.1.1.1.0.0 p.1.1.1.1.1.0.1.0 p.1.1.1.1.1.0.1.1.0 p.1.1.1.1.0 p.1.1.1.1.1.1)
