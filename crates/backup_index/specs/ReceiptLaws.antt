-- Receipts of a file.
--     receipts_fit, receipts_are      receipts that differ fit the third layout;  those of a layout differ, and each is a receipt
use Rattle.std.proofs.Common.{◌≡◌, List, [], sym, subst}
use Rattle.std.specs.List.{AllByRecursion}
use Rattle.wire_bytes.specs.Grammar.{field, seen_as}
use Rattle.receipts.specs.declared.receipt.Receipt.{Receipt}
use Rattle.receipts.specs.Receipts.{AreReceipts, HaveOneToken}
use Rattle.receipts.specs.TokenLaws.{AreReceipts-none}
use Rattle.backup_index.specs.declared.layouts.IndexLayout.{IndexLayout}
use Rattle.backup_index.specs.declared.layouts.IndexLayout.TheVariants.{First, Second, Third}
use Rattle.backup_index.specs.Index.{IsReceipt, IsFreshReceipt, receipts_grammar}
use Rattle.backup_index.specs.FreshLaws as items

receipts_fresh : items.AreFresh HaveOneToken IsReceipt IsFreshReceipt
receipts_fresh = record { make = λ before receipt kept fresh. record { kept = kept; fresh = fresh }; kept = λ before receipt is. is.kept; fresh = λ before receipt is. is.fresh }

pub receipts_fit : (receipts : List Receipt) → AreReceipts receipts → AllByRecursion IsReceipt receipts → (receipts_grammar Third).Fits receipts
unfolding seen_as
receipts_fit receipts are each = (are.few, items.in_turn receipts_fresh [] receipts are.differ each)

-- what the receipts of a file keep to
pub record AreStored (receipts : List Receipt) : Type 0 where
  pub are : AreReceipts receipts
  pub each : AllByRecursion IsReceipt receipts

none_stored : (receipts : List Receipt) → receipts ≡ [] → AreStored receipts
none_stored receipts is = subst AreStored (sym is) (record { are = AreReceipts-none; each = tt })

pub receipts_are : (layout : IndexLayout) (receipts : List Receipt) → (receipts_grammar layout).Fits receipts → AreStored receipts
unfolding field seen_as
receipts_are First receipts fits = none_stored receipts fits
receipts_are Second receipts fits = none_stored receipts fits
receipts_are Third receipts fits = record {
  are = record { few = fits.0; differ = items.turn_differ receipts_fresh [] receipts (items.differ_none HaveOneToken) fits.1 };
  each = items.turn_each receipts_fresh [] receipts fits.1;
}
