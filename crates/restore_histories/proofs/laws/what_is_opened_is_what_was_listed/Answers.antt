use Rattle.restore_histories.specs.OpenedLaws.{opened_is_listed}
use Rattle.restore_histories.proofs.laws.what_is_opened_is_what_was_listed.Goals as goal

pub returns : goal.returns
returns c = opened_is_listed
