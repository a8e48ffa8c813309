use Rattle.std.proofs.Common.{map, ap}
use Rattle.std.specs.List.{list_any}
use Rattle.settings_file.specs.Document.{is_unknown}
use Rattle.settings_file.proofs.NameLaws.{names_of-entries}
use Rattle.settings_file.proofs.unknown.has_unknown.Goals as goal

pub loop-name-init : goal.loop-name-init
loop-name-init c =
    let named = ap (list_any (is_unknown (map (λ k. k.now) c.args.known.now))) (names_of-entries c.args.table.now.entries) in
    cc
