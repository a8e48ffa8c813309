use Rattle.std.proofs.Common.{◌≡◌, ◌∷◌, [], arith, refl}
use Rattle.turn_lock.specs.Rule.{has_turn}
use Rattle.turn_lock.specs.declared.steps.Held.TheVariants.{Home}
use Rattle.turn_lock.proofs.Keeps.{ends_from}
use Rattle.turn_lock.proofs.lock.Turn+O.pass_on.Goals as goal

pub compare_exchange_with-requires : goal.compare_exchange_with-requires
compare_exchange_with-requires g c =
    let table = c.args.self.now.table.shared in
    let id = c.args.pass.now.id in
    let seen = c.args.pass.now.me.0.seen in
    let callers = c.args.pass.now.me.0.callers in
    let o = c.requires.object.0 in
    let opening = c.args.pass.now.me.0.opening in
    let me : c.args.pass.now.me ≡ (has_turn opening c.args.ticket seen callers, (0, Home o) ∷ []) =
    (λ k. (c.requires.turn k, c.requires.object.1 k)) in (
      c.requires.own,
      omega (arith, c.args.self.now.sized.0),
      rw me (ends_from g.O.Object.stands table.key.value table.table_id.slots id c.args.ticket opening seen callers c.requires.live
          c.of.result c.of-2.result o (rw (c.of.ensures, c.of-2.ensures) c.requires.object.2) _ (λ small. omega (arith, small))),
    )

pub returns-clause-ended : goal.returns-clause-ended
returns-clause-ended g c = rw (← c.of.ensures, ← c.of-2.ensures) (c.compare_exchange_with.ensures.2 c.of.result c.of-2.result refl).0

pub returns-clause-fits : goal.returns-clause-fits
returns-clause-fits g c = rw (← c.of.ensures, ← c.of-2.ensures) (c.compare_exchange_with.ensures.2 c.of.result c.of-2.result refl).1
