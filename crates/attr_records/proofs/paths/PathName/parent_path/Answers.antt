-- The parent of a path breaks no rule of paths.
use Rattle.std.proofs.Common.{sym, ap, ◌∙◌}
use Rattle.attr_records.specs.Paths.{parent}
use Rattle.attr_records.specs.PathRules.{broken_path_rule}
use Rattle.attr_records.specs.PathRuleLaws.{broken_path_rule-parent}
use Rattle.attr_records.proofs.paths.PathName.parent_path.Goals as goal

pub invariant_of-result : goal.invariant_of-result
invariant_of-result c =
    ap broken_path_rule c.in_ok-bytes-in-Some.ensures.items
    ∙ broken_path_rule-parent c.self.inside.bytes.items c.in-Some.directory.now c.self.invariant (sym (c.in-Some.ensures ∙ ap parent c.as_slice.ensures.value))
