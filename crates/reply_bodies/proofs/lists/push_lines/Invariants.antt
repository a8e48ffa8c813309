use Rattle.std.proofs.Common.{◌≡◌, ◌++◌, ◌∷◌, map, drop}
use Rattle.json.specs.Token.{begin_array}
use Rattle.reply_bodies.specs.Replies.{line_data}
use Rattle.reply_bodies.specs.Objects.{all_values}
use Rattle.reply_bodies.proofs.lists.push_lines.Given as goal

abbrev pub invariant-loop-line : goal.invariant-loop-line
invariant-loop-line l = l.text ++ all_values (map line_data (drop l.line-index l.lines)) ≡ l.fn.text ++ begin_array ∷ all_values (map line_data l.lines)
