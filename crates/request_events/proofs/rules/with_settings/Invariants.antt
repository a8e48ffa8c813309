use Rattle.std.proofs.Common.{◌≡◌, drop}
use Rattle.backup_rules.specs.Changes.{no_change}
use Rattle.request_events.specs.Rules.{with_settings}
use Rattle.request_events.proofs.rules.with_settings.Given as goal

abbrev pub invariant-loop-setting : goal.invariant-loop-setting
invariant-loop-setting l = with_settings (drop l.setting-index l.settings) l.query l.change ≡ with_settings l.settings l.query no_change
