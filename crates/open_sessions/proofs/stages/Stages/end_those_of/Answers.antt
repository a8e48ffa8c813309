use Rattle.std.specs.Prelude.{not}
use Rattle.std.proofs.Common.{rules}
use Rattle.std.proofs.lemmas.Fn.{filter_same}
use Rattle.receipts.specs.Session.{is_same_session}
use Rattle.open_sessions.specs.declared.stages.OpenStage.{OpenStage}
use Rattle.open_sessions.proofs.Turns.{filtered_in_turn}
use Rattle.open_sessions.proofs.stages.Stages.end_those_of.Goals as goal

pub invariant_of-self : goal.invariant_of-self
invariant_of-self g c = record {
  in_turn = filtered_in_turn (λ (x : OpenStage _). x.number) c.args.self.now.next c.args.self.now.items.items c.args.self.now.in_turn
      (λ (x : OpenStage _). not (is_same_session x.dump c.args.dump)) c.retain.new.self.items
      (filter_same _ _ _ (λ x b f' k. search rules) _ _ c.retain.ensures.filtered);
}

pub returns-clause-left : goal.returns-clause-left
returns-clause-left g c = filter_same _ _ _ (λ x b f' k. search rules) _ _ c.retain.ensures.filtered
