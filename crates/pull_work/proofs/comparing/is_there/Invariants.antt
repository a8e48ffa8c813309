use Rattle.std.proofs.Common.{◌≡◌, drop}
use Rattle.std.specs.List.{list_any}
use Rattle.pull_work.specs.Compared.{is_same_backup}
use Rattle.pull_work.proofs.comparing.is_there.Given as goal

abbrev pub invariant-loop-line : goal.invariant-loop-line
invariant-loop-line l = list_any (is_same_backup l.newest) (drop l.line-index l.there) ≡ list_any (is_same_backup l.newest) l.there
