use Rattle.std.proofs.Common.{refl}
use Rattle.std.proofs.lemmas.Option.{slice_get_read}
use Rattle.open_sessions.specs.declared.readers.OpenReader.{OpenReader}
use Rattle.open_sessions.proofs.Turns.{removed_in_turn}
use Rattle.open_sessions.proofs.readers.Readers.take.Goals as goal

pub invariant_of-self : goal.invariant_of-self
invariant_of-self g c = record {
  in_turn = removed_in_turn (λ (x : OpenReader _). x.number) c.args.self.now.next c.args.self.now.items.items c.args.self.now.in_turn
      c.args.index c.remove.new.self.items c.remove.ensures.items;
}

pub returns-clause-taken : goal.returns-clause-taken
returns-clause-taken g c = slice_get_read _ _ _ _ refl c.requires c.remove.ensures.value
