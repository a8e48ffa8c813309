use Rattle.office_model.specs.laws.TokenLaws.{receipts_differ}
use Rattle.office_model.proofs.laws.receipts_have_different_tokens.Goals as goal

pub returns : goal.returns
returns c = receipts_differ
