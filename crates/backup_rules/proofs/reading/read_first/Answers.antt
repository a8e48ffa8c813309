-- The settings up to BlackoutPeriods, and the defaults of the others.
use Rattle.std.proofs.Common.{drop, sym, ap, ◌∙◌}
use Rattle.wire_bytes.specs.GrammarLaws.{refused_again, seen_finds, seen_refuses}
use Rattle.backup_rules.specs.PartLaws.{sees_first}
use Rattle.backup_rules.proofs.RunSteps.{found_as, first_made}
use Rattle.backup_rules.proofs.reading.read_first.Goals as goal

pub returns-in_err-full_keep_cnt : goal.returns-in_err-full_keep_cnt
returns-in_err-full_keep_cnt c = refused_again _ _ _ c.from_residual.ensures.1 (seen_refuses sees_first c.in_err-full_keep_cnt.ensures.early)

pub returns : goal.returns
returns c =
    found_as (first_made _ _ _ _ c.in_ok-full_keep_cnt.ensures.in_range.counted (c.in_ok-full_keep_cnt.ensures.behind ∙ ap (drop 10) c.defaults-numbers.ensures) c.in_ok-old_full_keep_cnt.ensures ∙ sym c.from_parts.ensures)
    (seen_finds sees_first c.in_ok-full_keep_cnt.ensures.early)
