use Rattle.open_sessions.specs.declared.readers.OpenReader.{OpenReader}
use Rattle.open_sessions.proofs.Turns.{none_in_turn}
use Rattle.open_sessions.proofs.readers.Readers.end_all.Goals as goal

pub invariant_of-self : goal.invariant_of-self
invariant_of-self g c = record {
  in_turn = none_in_turn (λ (x : OpenReader _). x.number) c.args.self.now.next c.clear.new.self.items c.clear.ensures.items;
}
