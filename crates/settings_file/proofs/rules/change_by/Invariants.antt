-- The keys that are left decide.
use Rattle.std.proofs.Common.{◌≡◌, drop}
use Rattle.toml.specs.View.{table_view}
use Rattle.backup_rules.specs.Changes.{no_change}
use Rattle.settings_file.specs.Keys.{rule_keys}
use Rattle.settings_file.specs.Document.{change_by}
use Rattle.settings_file.proofs.rules.change_by.Given as goal

abbrev pub invariant-loop-key : goal.invariant-loop-key
invariant-loop-key l = record {
  keys : l.keys ≡ rule_keys;
  rest : change_by (table_view l.table) l.keys no_change ≡ change_by (table_view l.table) (drop l.key-index l.keys) l.change;
}
