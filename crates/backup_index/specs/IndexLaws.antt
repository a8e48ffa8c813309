-- An index, seen as its parts.
--     sees_index      the index and its layout, and the parts
--     lines_sound      lines of a file are sound
use Rattle.std.specs.Prelude.{◌≡◌, ℕ, ◌+◌, List, [], length}
use Rattle.std.proofs.Common.{refl, sym, subst, arith}
use Rattle.std.specs.Int.{w64}
use Rattle.wire_bytes.specs.Layout.{IsNumber}
use Rattle.wire_bytes.specs.Grammar.{field, followed_by, items_of, Sees, seen_as}
use Rattle.backup_rules.specs.declared.lines.Line.{Line}
use Rattle.backup_rules.specs.Values.{RuleSet}
use Rattle.backup_rules.specs.Ranges.{IsRules}
use Rattle.backup_rules.specs.Layout.{rules_grammar}
use Rattle.backup_index.specs.declared.layouts.IndexLayout.{IndexLayout}
use Rattle.backup_index.specs.declared.layouts.IndexLayout.TheVariants.{First, Second, Third}
use Rattle.backup_index.specs.Lines.{IsSound}
use Rattle.backup_index.specs.LineLaws.{lines_from_items, items_from_lines, each_line}
use Rattle.backup_index.specs.ReceiptLaws.{receipts_are}
use Rattle.backup_index.specs.Index.{IsStored, IsNext, rules_layout, lines_grammar, index_parts, parts_of_index, index_from}

zero_plus : (n count : ℕ) → n ≡ count → 0 + n ≡ count
zero_plus n count e = omega arith

pub lines_sound : (next count : ℕ) (lines : List Line) → IsNext next → (lines_grammar next count).Fits lines → IsSound next lines
unfolding items_of
lines_sound next count lines bound are = record { bound = bound; in_turn = lines_from_items next count [] lines are.0 (zero_plus (length lines) count are.1) }

rules_fit : (layout : IndexLayout) (rules : RuleSet) → (rules_grammar (rules_layout layout)).Fits rules → IsRules rules
unfolding seen_as
rules_fit First rules fits = fits.0
rules_fit Second rules fits = fits
rules_fit Third rules fits = fits

pub sees_index : Sees index_parts IsStored parts_of_index index_from
unfolding field followed_by items_of
sees_index = record {
  fits = λ stored is. let index = stored.1 in (
    tt,
    (
      is.index.host,
      (
        is.index.name,
        (
          is.rules,
          (
            is.receipts,
            (
              (is.index.good, (is.index.bad, (is.index.sound.bound, is.index.count))),
              (items_from_lines index.next (length index.lines) [] index.lines is.index.sound.in_turn is.index.each (zero_plus (length index.lines) (length index.lines) refl), refl),
            ),
          ),
        ),
      ),
    ),
  );
  made = λ stored is. refl;
  makes = λ p fits. let receipts = receipts_are p.0 p.1.1.1.1.0 fits.1.1.1.1.0 in record {
    index = record {
      host = fits.1.0;
      name = fits.1.1.0;
      rules = rules_fit p.0 p.1.1.1.0 fits.1.1.1.0;
      good = fits.1.1.1.1.1.0.0;
      bad = fits.1.1.1.1.1.0.1.0;
      receipts = receipts.are;
      each_receipt = receipts.each;
      count = subst (IsNumber w64) (sym fits.1.1.1.1.1.1.1) fits.1.1.1.1.1.0.1.1.1;
      each = each_line p.1.1.1.1.1.0.1.1.0 p.1.1.1.1.1.0.1.1.1 [] p.1.1.1.1.1.1 fits.1.1.1.1.1.1.0;
      sound = lines_sound p.1.1.1.1.1.0.1.1.0 p.1.1.1.1.1.0.1.1.1 p.1.1.1.1.1.1 fits.1.1.1.1.1.0.1.1.0 fits.1.1.1.1.1.1;
    };
    rules = fits.1.1.1.0;
    receipts = fits.1.1.1.1.0;
  };
  parted = λ p fits i.
      (p.0, (p.1.0, (p.1.1.0, (p.1.1.1.0, (p.1.1.1.1.0, ((p.1.1.1.1.1.0.0, (p.1.1.1.1.1.0.1.0, (p.1.1.1.1.1.0.1.1.0, fits.1.1.1.1.1.1.1 i))), p.1.1.1.1.1.1))))));
}
