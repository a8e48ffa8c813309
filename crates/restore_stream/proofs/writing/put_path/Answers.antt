-- A path is short enough to be counted in two bytes.
use Rattle.std.proofs.Common.{◌≡◌, ℕ, ◌<◌, ◌≤◌, List, length, None, ap, ◌∙◌, arith}
use Rattle.attr_records.specs.PathRules.{broken_path_rule}
use Rattle.attr_records.specs.PathRuleLaws.{short_path}
use Rattle.restore_stream.proofs.writing.put_path.Goals as goal

short : (path given : List ℕ) → given ≡ path → broken_path_rule path ≡ None → length given < 65536
short path given e kept = let n : length given ≤ 4096 = short_path given (ap broken_path_rule e ∙ kept) in omega arith

pub put_text16-requires : goal.put_text16-requires
put_text16-requires c = short _ _ c.as_slice.ensures.value c.as_slice.ensures.valid
