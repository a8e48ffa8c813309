use Rattle.std.proofs.Common.{rules}
use Rattle.std.proofs.lemmas.Fn.{always_returns_same}
use Rattle.std.specs.Ordering.{nat_cmp}
use Rattle.open_sessions.specs.declared.stages.OpenStage.{OpenStage}
use Rattle.open_sessions.proofs.Turns.{numbered_found, numbered_missing}
use Rattle.open_sessions.proofs.stages.Stages.at.Goals as goal

pub returns-in-Ok-clause-index : goal.returns-in-Ok-clause-index
returns-in-Ok-clause-index g c =
    numbered_found (λ (x : OpenStage _). x.number) c.args.self.now.next c.args.self.now.items.items c.args.self.now.in_turn c.args.number
    c.deref.result.now c.deref.ensures.value c.in-Ok.index c.in-Ok.ensures.bound
    (c.in-Ok.ensures.position (λ (x : OpenStage _). nat_cmp x.number c.args.number)
    (always_returns_same _ _ _ (λ a r f' t. search rules)))

pub returns-in-Err-clause-index : goal.returns-in-Err-clause-index
returns-in-Err-clause-index g c =
    numbered_missing (λ (x : OpenStage _). x.number) c.args.self.now.next c.args.self.now.items.items c.args.self.now.in_turn c.args.number
    c.deref.result.now c.deref.ensures.value
    _ (c.in-Err.ensures.position (λ (x : OpenStage _). nat_cmp x.number c.args.number)
    (always_returns_same _ _ _ (λ a r f' t. search rules)))
