-- The first two layouts have no receipts, and take no byte for them.
use Rattle.std.proofs.Common.{◌≡◌, List, [], refl, sym, subst, arith}
use Rattle.wire_bytes.specs.Reading.{Reading}
use Rattle.wire_bytes.specs.Grammar.{field}
use Rattle.wire_bytes.specs.GrammarReading.{Finds}
use Rattle.receipts.specs.declared.receipt.Receipt.{Receipt}
use Rattle.backup_index.specs.declared.layouts.IndexLayout.{IndexLayout}
use Rattle.backup_index.specs.declared.layouts.IndexLayout.TheVariants.{First, Second}
use Rattle.backup_index.specs.Index.{receipts_grammar}
use Rattle.backup_index.proofs.receipt_reading.read_receipts.Goals as goal

none_found : (old : Reading) → Finds (receipts_grammar First) old [] old
unfolding field
none_found old = record {
  fits = refl;
  passed = record { whole = refl; offset = omega arith; parts = refl };
  back = λ other rest fits e. (sym fits, e);
}

second_found : (old : Reading) → Finds (receipts_grammar Second) old [] old
second_found old = none_found old

found_in : (layout layout' : IndexLayout) (receipts : List Receipt) (old : Reading) → layout ≡ layout' → receipts ≡ [] → Finds (receipts_grammar layout') old [] old → Finds (receipts_grammar layout) old receipts old
found_in layout layout' receipts old is none found = subst (λ (l : IndexLayout). Finds (receipts_grammar l) old receipts old) (sym is) (subst (λ (rs : List Receipt). Finds (receipts_grammar layout') old rs old) (sym none) found)

pub returns-in-First : goal.returns-in-First
returns-in-First c = found_in _ First _ _ c.in-First.is c.new.ensures (none_found _)

pub returns-in-Second : goal.returns-in-Second
returns-in-Second c = found_in _ Second _ _ c.in-Second.is c.new-in-Second.ensures (second_found _)
