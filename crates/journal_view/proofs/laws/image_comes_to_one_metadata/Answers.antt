use Rattle.journal_view.specs.FoundLaws.{one_metadata}
use Rattle.journal_view.proofs.laws.image_comes_to_one_metadata.Goals as goal

pub returns : goal.returns
returns c = one_metadata
