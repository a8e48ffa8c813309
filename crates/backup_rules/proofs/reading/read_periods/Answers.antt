-- The number of items, and then each.
use Rattle.std.proofs.Common.{sym}
use Rattle.wire_bytes.specs.Grammar.{seen_as}
use Rattle.wire_bytes.specs.GrammarLaws.{refused_again, then_finds, then_refuses, first_refuses, seen_finds, seen_refuses}
use Rattle.backup_rules.specs.ListLaws.{periods_are, sees_list}
use Rattle.backup_rules.proofs.RunSteps.{found_as}
use Rattle.backup_rules.proofs.reading.read_periods.Goals as goal

pub returns-in_err-count : goal.returns-in_err-count
returns-in_err-count c = refused_again _ _ _ c.from_residual.ensures.1 (seen_refuses (sees_list _ periods_are) (first_refuses _ c.in_err-count.ensures))

pub returns-in_err-periods : goal.returns-in_err-periods
returns-in_err-periods c =
    refused_again _ _ _ c.from_residual-in_err-periods.ensures.1 (seen_refuses (sees_list _ periods_are) (then_refuses _ c.in_ok-count.ensures c.in_err-periods.ensures))

pub from_valid-requires : goal.from_valid-requires
unfolding seen_as
from_valid-requires c = (seen_finds (sees_list _ periods_are) (then_finds _ c.in_ok-count.ensures c.in_ok-periods.ensures)).fits

pub returns : goal.returns
returns c = found_as (sym c.from_valid.ensures) (seen_finds (sees_list _ periods_are) (then_finds _ c.in_ok-count.ensures c.in_ok-periods.ensures))
