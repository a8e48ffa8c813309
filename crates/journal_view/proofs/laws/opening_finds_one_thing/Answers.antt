use Rattle.journal_view.specs.FoundLaws.{found_once}
use Rattle.journal_view.proofs.laws.opening_finds_one_thing.Goals as goal

pub returns : goal.returns
returns c = found_once
