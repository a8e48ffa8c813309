-- The rules in the layout that goes with that of the index.
use Rattle.std.proofs.Common.{◌≡◌, subst}
use Rattle.wire_bytes.specs.Reading.{Reading}
use Rattle.wire_bytes.specs.GrammarReading.{Finds, Refuses}
use Rattle.wire_bytes.specs.GrammarLaws.{other_refuses, refused_by}
use Rattle.backup_rules.specs.declared.layouts.RulesLayout.{RulesLayout}
use Rattle.backup_rules.specs.Values.{RuleSet}
use Rattle.backup_rules.specs.Layout.{rules_grammar}
use Rattle.backup_index.specs.declared.fault.IndexFault.{IndexFault}
use Rattle.backup_index.specs.Faults.{offset_of}
use Rattle.backup_index.proofs.index_reading.read_host_rules.Goals as goal

refused_so : (layout layout' : RulesLayout) (old : Reading) (fault : IndexFault) → layout ≡ layout' → Refuses offset_of (rules_grammar layout) old fault → Refuses offset_of (rules_grammar layout') old fault
refused_so layout layout' old fault same refused = subst (λ (l : RulesLayout). Refuses offset_of (rules_grammar l) old fault) same refused

found_so : (layout layout' : RulesLayout) (old new : Reading) (rules : RuleSet) → layout ≡ layout' → Finds (rules_grammar layout) old rules new → Finds (rules_grammar layout') old rules new
found_so layout layout' old new rules same found = subst (λ (l : RulesLayout). Finds (rules_grammar l) old rules new) same found

pub returns-in_err-rules : goal.returns-in_err-rules
returns-in_err-rules c = refused_by _ _ _ c.from_residual.ensures.1 (λ e told. refused_so _ _ _ _ c.rules.ensures (other_refuses c.in_err-rules.ensures.read told))

pub returns : goal.returns
returns c = found_so _ _ _ _ _ c.rules.ensures c.in_ok-rules.ensures.read
