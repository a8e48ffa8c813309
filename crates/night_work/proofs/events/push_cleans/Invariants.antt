use Rattle.std.proofs.Common.{◌≡◌, ◌++◌, map}
use Rattle.std.specs.List.{filter, range_with_len}
use Rattle.wake_schedule.specs.Nights.{is_nightly}
use Rattle.office_model.specs.declared.event.Event.TheVariants as E
use Rattle.night_work.proofs.events.push_cleans.Given as goal

abbrev pub invariant-loop-bucket : goal.invariant-loop-bucket
invariant-loop-bucket l =
    l.events.items ≡ l.initial.events.items ++ map E.Clean (filter (is_nightly l.day l.period) (range_with_len 0 l.bucket))
