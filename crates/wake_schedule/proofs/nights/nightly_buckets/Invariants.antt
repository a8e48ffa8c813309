-- The buckets below are chosen by the night's place.
use Rattle.std.proofs.Common.{◌≡◌, ℕ, ◌<◌, ◌%◌, ◌==◌, length, get_or, false}
use Rattle.wake_schedule.proofs.nights.nightly_buckets.Given as goal

abbrev pub invariant-loop-bucket : goal.invariant-loop-bucket
invariant-loop-bucket l = (length l.chosen ≡ 16) × ((k : ℕ) → k < l.bucket → get_or l.chosen k false ≡ (k % l.period == l.night))
