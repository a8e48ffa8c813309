use Rattle.std.proofs.Common.{◌≡◌, ◌++◌, ◌∷◌, map, drop}
use Rattle.json.specs.Token.{begin_array}
use Rattle.reply_bodies.specs.Replies.{entry_data}
use Rattle.reply_bodies.specs.Objects.{all_values}
use Rattle.reply_bodies.proofs.entries.push_entries.Given as goal

abbrev pub invariant-loop-entry : goal.invariant-loop-entry
invariant-loop-entry l = l.text ++ all_values (map entry_data (drop l.entry-index l.entries)) ≡ l.fn.text ++ begin_array ∷ all_values (map entry_data l.entries)
