-- The settings up to BlackoutPeriods, and those of old backups.
use Rattle.std.proofs.Common.{sym, ◌∙◌}
use Rattle.wire_bytes.specs.GrammarLaws.{refused_again, then_finds, then_refuses, first_refuses, seen_finds, seen_refuses}
use Rattle.backup_rules.specs.PartLaws.{sees_second}
use Rattle.backup_rules.proofs.RunSteps.{found_as, same_early, second_made}
use Rattle.backup_rules.proofs.reading.read_second.Goals as goal

pub returns-in_err-full_keep_cnt : goal.returns-in_err-full_keep_cnt
returns-in_err-full_keep_cnt c = refused_again _ _ _ c.from_residual.ensures.1 (seen_refuses sees_second (first_refuses _ c.in_err-full_keep_cnt.ensures.early))

pub returns-in_err-old_full_keep_cnt : goal.returns-in_err-old_full_keep_cnt
returns-in_err-old_full_keep_cnt c =
    refused_again _ _ _ c.from_residual-in_err-old_full_keep_cnt.ensures.1 (seen_refuses sees_second (then_refuses _ c.in_ok-full_keep_cnt.ensures.early c.in_err-old_full_keep_cnt.ensures.old))

pub returns : goal.returns
returns c =
    found_as (second_made _ _ _ _ c.in_ok-old_full_keep_cnt.ensures.in_range.counted ∙ sym c.from_parts.ensures)
    (seen_finds sees_second (then_finds _ (found_as (same_early _ _ _ _ (sym c.in_ok-old_full_keep_cnt.ensures.before)) c.in_ok-full_keep_cnt.ensures.early) c.in_ok-old_full_keep_cnt.ensures.old))
