use Rattle.std.proofs.Common.{ℕ, ◌+◌, ◌-◌, ◌*◌, ◌%◌, ◌^◌, ◌≡◌, get_or, drop, sym, ap, ◌∙◌, arith}
use Rattle.rule_texts.specs.Periods.{weekdays_from}
use Rattle.rule_texts.proofs.TextLaws.{weekdays_more, bit_small, bits_more}
use Rattle.rule_texts.proofs.periods.read_weekdays.Goals as goal

pub loop-digit-preserved : goal.loop-digit-preserved
loop-digit-preserved c =
    let text = c.args.text.now in
    let i = c.loop-digit.digit-index in
    let bit : 1 * 2 ^ (get_or text i 0 - 48) % 256 ≡ 2 ^ (get_or text i 0 - 48) = bit_small (get_or text i 0) (omega arith) in
    record {
      rest = c.loop-digit.invariant.rest
          ∙ weekdays_more c.loop-digit.weekdays c.loop-digit.least text i c.loop-digit-test.true (omega arith) (omega arith)
          ∙ ap (λ (b : ℕ). weekdays_from (c.loop-digit.weekdays + b) (get_or text i 0 + 1) (drop (i + 1) text)) (sym bit);
      low = omega (arith, c.loop-digit.invariant.low);
      high = omega arith;
      small = omega (arith, bit, bits_more c.loop-digit.weekdays c.loop-digit.least (get_or text i 0) c.loop-digit.invariant.small (omega arith) c.loop-digit.invariant.low);
    }
