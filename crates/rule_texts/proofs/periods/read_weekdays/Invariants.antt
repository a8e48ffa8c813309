-- The digits that are left decide, and the bits stand below the least weekday.
use Rattle.std.proofs.Common.{◌≡◌, ◌-◌, ◌^◌, ◌<◌, ◌≤◌, drop}
use Rattle.rule_texts.specs.Periods.{weekdays_of, weekdays_from}
use Rattle.rule_texts.proofs.periods.read_weekdays.Given as goal

abbrev pub invariant-loop-digit : goal.invariant-loop-digit
invariant-loop-digit l = record {
  rest : weekdays_of l.text ≡ weekdays_from l.weekdays l.least (drop l.digit-index l.text);
  low : 48 ≤ l.least;
  high : l.least ≤ 55;
  small : l.weekdays < 2 ^ (l.least - 48);
}
