use Rattle.std.proofs.Common.{map, refl}
use Rattle.turn_port.specs.ComesLaws.{ComesOfAll-of}
use Rattle.turn_port.proofs.locked.close_store.Goals as goal

pub returns : goal.returns
returns g c = record {
  all = ComesOfAll-of c.args.pass.seat.me.0 (map (λ p. p.seat.me.0) c.args.others.items) c.close-store.result _ c.close-store.ensures refl;
}
