-- A link's target is short enough to be counted in two bytes.
use Rattle.std.proofs.Common.{◌≡◌, ℕ, ◌<◌, ◌≤◌, List, length, true, ap, ◌∙◌, arith}
use Rattle.attr_records.specs.Names.{is_link_target}
use Rattle.attr_records.specs.NameLaws.{short_target}
use Rattle.restore_stream.proofs.writing.put_link.Goals as goal

short : (text given : List ℕ) → given ≡ text → is_link_target text ≡ true → length given < 65536
short text given e target = let n : length given ≤ 4096 = short_target given (ap is_link_target e ∙ target) in omega arith

pub put_text16-requires : goal.put_text16-requires
put_text16-requires c = short _ _ c.as_slice.ensures.value c.as_slice.ensures.valid
