-- The rule that a put of a stage's File breaks.
use Rattle.std.specs.Prelude.{Bool, true, false, Option, Some, None}
use Rattle.attr_records.specs.declared.trees.PutRule.{PutRule}
use Rattle.attr_records.specs.declared.trees.PutRule.TheVariants.{FileTooLarge}

-- the rule that was broken first, or that a File is too large, which is judged last
abbrev pub or_large : Option PutRule → Bool → Option PutRule
or_large (Some rule) large = Some rule
or_large None true = Some FileTooLarge
or_large None false = None
