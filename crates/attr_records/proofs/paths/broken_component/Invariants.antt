use Rattle.std.proofs.Common.{◌≡◌, ◌||◌}
use Rattle.std.specs.List.{list_any}
use Rattle.std.specs.Option.{option_copied}
use Rattle.attr_records.specs.Paths.{components}
use Rattle.attr_records.specs.PathRules.{is_empty_component, is_dot_component, is_long_component}
use Rattle.attr_records.specs.Parts.{other_components, left_to_scan}
use Rattle.attr_records.proofs.paths.broken_component.Given as goal

abbrev pub invariant-loop-rest : goal.invariant-loop-rest
invariant-loop-rest l = record {
  empty : list_any is_empty_component (components l.path) ≡ list_any is_empty_component (other_components (option_copied l.rest));
  dot : list_any is_dot_component (components l.path) ≡ (l.has_dot || list_any is_dot_component (other_components (option_copied l.rest)));
  long : list_any is_long_component (components l.path) ≡ (l.has_long || list_any is_long_component (other_components (option_copied l.rest)));
}

abbrev pub decreases-loop-rest : goal.decreases-loop-rest
decreases-loop-rest l = left_to_scan (option_copied l.rest)
