use Rattle.std.proofs.Common.{sym, ◌∙◌}
use Rattle.toml.specs.View.{table_view}
use Rattle.settings_file.proofs.FaultLaws.{all_right}
use Rattle.settings_file.proofs.read.settings_in.Goals as goal

pub returns-then-has_unknowns-clause-err : goal.returns-then-has_unknowns-clause-err
returns-then-has_unknowns-clause-err c = (
  all_right (table_view c.args.table.now) c.in_ok-wake.wake.items c.in_ok-period.period c.in_ok-rules.rules c.in_ok-zone.ensures.ok
      c.in_ok-wake.ensures.ok c.in_ok-period.ensures.ok c.in_ok-rules.ensures.ok,
  sym c.has_unknowns.ensures ∙ c.if-has_unknowns.true,
)

pub returns-clause-ok : goal.returns-clause-ok
returns-clause-ok c = record {
  right = all_right (table_view c.args.table.now) c.in_ok-wake.wake.items c.in_ok-period.period c.in_ok-rules.rules c.in_ok-zone.ensures.ok
      c.in_ok-wake.ensures.ok c.in_ok-period.ensures.ok c.in_ok-rules.ensures.ok;
  known = sym c.has_unknowns.ensures ∙ c.if-has_unknowns.false;
  zone = c.in_ok-zone.ensures.zone;
  wake = c.in_ok-wake.ensures.ok;
  period = c.in_ok-period.ensures.ok;
  rules = c.in_ok-rules.ensures.ok;
}
