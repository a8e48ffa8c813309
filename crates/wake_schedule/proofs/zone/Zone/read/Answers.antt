use Rattle.std.proofs.Common.{ℕ, pos, ◌*ℤ◌, ap, ◌∙◌, FitsSigned, w32, arith}
use Rattle.std.proofs.lemmas.Bool.{false≢true}
use Rattle.std.proofs.lemmas.Int.{to_z-of_z, ints}
use Rattle.jiff_tz.specs.declared.timezone.TimeZone.{TimeZone as PlainZone}
use Rattle.jiff.specs.Words.{offset_at}
use Rattle.jiff.proofs.ZoneFacts.{offset_at-fixed_zone}
use Rattle.wake_schedule.proofs.ZoneLaws.{always_ahead, is_ahead}
use Rattle.wake_schedule.proofs.zone.Zone.read.Goals as goal

pub unreachable-requires : goal.unreachable-requires
unreachable-requires c =
    let small = c.in-Some.ensures.small in
    let fits : FitsSigned w32 c.in-Some.seconds = omega (arith, ints, small.0, small.1) in
    let succeeds = simp to_z-of_z at c.in-Err.ensures.succeeds in
    false≢true (succeeds.1 (omega (arith, ints, small.0, small.1), omega (arith, ints, small.0, small.1)))

pub returns-in-Some-clause-zone : goal.returns-in-Some-clause-zone
returns-in-Some-clause-zone c =
    let small = c.in-Some.ensures.small in
    let fits : FitsSigned w32 c.in-Some.seconds = omega (arith, ints, small.0, small.1) in
    always_ahead c.args.text.now (record { zone = c.fixed.result }) c.in-Some.seconds c.in-Some.ensures.value
    (λ (now : ℕ). is_ahead (record { zone = c.fixed.result }) now
    ∙ ap (λ (zone : PlainZone). offset_at zone (pos now *ℤ pos 1000000000)) c.fixed.ensures
    ∙ offset_at-fixed_zone c.in-Ok.offset (pos now *ℤ pos 1000000000)
    ∙ (simp to_z-of_z at c.in-Ok.ensures.value))
