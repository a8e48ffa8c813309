use Rattle.std.proofs.Common.{sym, subst, ◌+◌}
use Rattle.open_sessions.specs.InTurn.{AreInTurn}
use Rattle.open_sessions.specs.declared.sessions.OpenDump.{OpenDump}
use Rattle.open_sessions.specs.declared.sessions.OpenRestore.{OpenRestore}
use Rattle.open_sessions.proofs.Turns.{later_in_turn, pushed_in_turn}
use Rattle.open_sessions.proofs.sessions.Sessions.open_dump.Goals as goal

pub invariant_of-self-2 : goal.invariant_of-self-2
invariant_of-self-2 g c = record {
  dumps_in_turn = subst (AreInTurn (λ (x : OpenDump). x.name.sequence) (c.args.self.now.sequence + 1))
      (sym c.in_ok-push.ensures.items)
      (pushed_in_turn (λ (x : OpenDump). x.name.sequence) c.args.self.now.sequence c.args.self.now.dumps.items
      c.args.self.now.dumps_in_turn c.args.dump c.requires.in_turn);
  restores_in_turn = later_in_turn (λ (x : OpenRestore _). x.name.sequence) c.args.self.now.sequence c.args.self.now.restores.items
      c.args.self.now.restores_in_turn;
}
