use Rattle.journal_view.specs.IntentLaws.{intent_once}
use Rattle.journal_view.proofs.laws.intent_is_of_one_list.Goals as goal

pub returns : goal.returns
returns c = intent_once
