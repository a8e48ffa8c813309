-- Under a cycle the remainder decides.
use Rattle.std.proofs.Common.{subst, arith, ℕ, nat_eq, ◌%◌, ◌↔◌}
use Rattle.std.specs.Prelude.{IsTrue}
use Rattle.backup_rules.specs.Fill.{IsLeftFilled}
use Rattle.backup_rules.proofs.Dividing.{filled_under}
use Rattle.backup_rules.proofs.lines.fill_rule.Goals as goal

pub returns-in_default-clause-divides : goal.returns-in_default-clause-divides
returns-in_default-clause-divides c =
    subst (λ (cycle : ℕ). (IsTrue (nat_eq (c.args.line.now.number % c.number.result) 0)) ↔ IsLeftFilled cycle c.args.line.now.kind c.args.line.now.number) c.number.ensures.value
    (filled_under c.number.result c.args.line.now.number c.args.line.now.kind (omega arith))
