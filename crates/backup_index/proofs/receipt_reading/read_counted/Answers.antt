-- The number of receipts, and then each.
use Rattle.std.specs.Int.{w16}
use Rattle.wire_bytes.specs.Grammar.{field, sees_counted}
use Rattle.wire_bytes.specs.GrammarLaws.{refused_again, then_finds, then_refuses, first_refuses, seen_finds, seen_refuses}
use Rattle.backup_index.specs.Index.{IsFreshReceipt, IsReceiptCount, receipt_bytes}
use Rattle.backup_index.proofs.receipt_reading.read_counted.Goals as goal

pub returns-in_err-count : goal.returns-in_err-count
returns-in_err-count c = refused_again _ _ _ c.from_residual.ensures.1 (seen_refuses (sees_counted w16 IsReceiptCount IsFreshReceipt receipt_bytes) (first_refuses _ c.in_err-count.ensures))

pub read_items-requires : goal.read_items-requires
unfolding field
read_items-requires c = c.in_ok-count.ensures.fits

pub returns-in_err-receipts : goal.returns-in_err-receipts
returns-in_err-receipts c =
    refused_again _ _ _ c.from_residual-in_err-receipts.ensures.1
    (seen_refuses (sees_counted w16 IsReceiptCount IsFreshReceipt receipt_bytes) (then_refuses _ c.in_ok-count.ensures c.in_err-receipts.ensures))

pub returns : goal.returns
returns c = seen_finds (sees_counted w16 IsReceiptCount IsFreshReceipt receipt_bytes) (then_finds _ c.in_ok-count.ensures c.in_ok-receipts.ensures)
