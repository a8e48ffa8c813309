use Rattle.std.proofs.Common.{◌≡◌, false, get_or, FitsSigned, w64, to_z, of_z, arith}
use Rattle.std.proofs.lemmas.Int.{to_z-of_z}
use Rattle.wake_schedule.specs.Nights.{is_nightly}
use Rattle.night_work.proofs.ScriptLaws.{cleans-more, cleans-all, chosen-at}
use Rattle.night_work.proofs.events.push_cleans.Goals as goal

pub loop-bucket-preserved : goal.loop-bucket-preserved
loop-bucket-preserved c =
    let at : get_or c.nightly_buckets-chosen.result c.loop-bucket.bucket false
    ≡ is_nightly (to_z w64 (of_z w64 c.args.day)) c.args.period c.loop-bucket.bucket =
    chosen-at _ _ _ _ c.loop-bucket-test.true c.nightly_buckets-chosen.ensures in
    cleans-more (is_nightly (to_z w64 (of_z w64 c.args.day)) c.args.period) c.loop-bucket.bucket c.args.events.now.items
    c.loop-bucket.events.items c.push_clean.new.events.items c.loop-bucket.invariant (cc (c.in_ok-push_clean.ensures, at))

pub returns : goal.returns
returns c =
    let fits : FitsSigned w64 c.args.day = c.ranges.day in
    let same : to_z w64 (of_z w64 c.args.day) ≡ c.args.day = simp to_z-of_z in
    cleans-all c.args.day _ c.args.period c.loop-bucket.bucket c.args.events.now.items c.loop-bucket.events.items same (omega arith)
    c.loop-bucket.invariant
