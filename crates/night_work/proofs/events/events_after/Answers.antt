use Rattle.std.proofs.Common.{◌≡◌, FitsSigned, w64, to_z, of_z}
use Rattle.std.proofs.lemmas.Int.{to_z-of_z}
use Rattle.night_work.proofs.ScriptLaws.{events-made}
use Rattle.night_work.proofs.events.events_after.Goals as goal

pub returns : goal.returns
returns c =
    let fits : FitsSigned w64 c.args.day = c.ranges.day in
    let same : to_z w64 (of_z w64 c.args.day) ≡ c.args.day = simp to_z-of_z in
    events-made c.args.now c.args.day _ c.args.period c.args.hosts.now _ _ _ _ c.new-events.ensures.items c.in_ok-push_expiries.ensures
    c.in_ok-push_cleans.ensures c.in_ok-push.ensures.items same
