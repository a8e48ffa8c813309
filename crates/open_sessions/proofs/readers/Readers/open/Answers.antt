use Rattle.std.proofs.Common.{refl, sym, subst, ◌+◌}
use Rattle.open_sessions.specs.InTurn.{AreInTurn}
use Rattle.open_sessions.specs.declared.readers.OpenReader.{OpenReader}
use Rattle.open_sessions.proofs.Turns.{pushed_in_turn}
use Rattle.open_sessions.proofs.readers.Readers.open.Goals as goal

pub invariant_of-self-2 : goal.invariant_of-self-2
invariant_of-self-2 g c = record {
  in_turn = subst (AreInTurn (λ (x : OpenReader _). x.number) (c.args.self.now.next + 1)) (sym c.in_ok-push.ensures.items)
      (pushed_in_turn (λ (x : OpenReader _). x.number) c.args.self.now.next c.args.self.now.items.items c.args.self.now.in_turn _ refl);
}
