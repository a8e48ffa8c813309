use Rattle.std.proofs.Common.{◌≡◌, ◌++◌, ◌∷◌, map, drop}
use Rattle.json.specs.Token.{begin_array}
use Rattle.serde_json.specs.Data.{string}
use Rattle.reply_bodies.specs.Objects.{all_values}
use Rattle.reply_bodies.proofs.lists.push_hosts.Given as goal

abbrev pub invariant-loop-name : goal.invariant-loop-name
invariant-loop-name l = l.text ++ all_values (map string (drop l.name-index l.names)) ≡ l.fn.text ++ begin_array ∷ all_values (map string l.names)
