use Rattle.std.proofs.Common.{rules}
use Rattle.std.proofs.lemmas.Fn.{always_returns_same}
use Rattle.std.specs.Ordering.{nat_cmp}
use Rattle.office_catalog.proofs.LinePlaces.{line_found, line_missing}
use Rattle.office_catalog.proofs.catalog.line_place.Goals as goal

pub returns-in-Ok : goal.returns-in-Ok
returns-in-Ok c = record {
  value = line_found c.requires.0 c.args.number c.args.lines.now c.in-Ok.index c.requires.1 c.in-Ok.ensures.bound
      (c.in-Ok.ensures.position (λ line. nat_cmp line.number c.args.number) (always_returns_same _ _ _ (λ a r f' t. search rules)));
  within = c.in-Ok.ensures.bound;
}

pub returns-in-Err : goal.returns-in-Err
returns-in-Err c = record {
  value = line_missing c.requires.0 c.args.number c.args.lines.now c.in-Err.field-0 c.requires.1
      (c.in-Err.ensures.position (λ line. nat_cmp line.number c.args.number) (always_returns_same _ _ _ (λ a r f' t. search rules)));
  within = tt;
}
