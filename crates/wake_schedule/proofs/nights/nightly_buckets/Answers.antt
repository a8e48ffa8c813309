use Rattle.std.proofs.Common.{ℕ, ◌%◌, ◌==◌, FitsSigned, w64, false, ap, ◌∙◌, arith}
use Rattle.std.proofs.lemmas.Int.{to_z-of_z}
use Rattle.std.proofs.lemmas.List.FromFn.{fill_by_all}
use Rattle.wake_schedule.specs.Nights.{is_nightly}
use Rattle.wake_schedule.proofs.nights.nightly_buckets.Goals as goal

pub returns : goal.returns
returns c =
    let fits : FitsSigned w64 c.args.day = c.ranges.day in
    let place = simp to_z-of_z at c.night_of-night.ensures in
    fill_by_all (is_nightly c.args.day c.args.period) c.loop-bucket.chosen 16 false c.loop-bucket.invariant.0
    (λ k below. c.loop-bucket.invariant.1 k (omega arith) ∙ ap (λ (night : ℕ). k % c.args.period == night) place)
