-- What a night calls, and what its answers count.
--     is_due      whether the work is to be done
--     night_buckets, events_after, night_script      the calls, one after the other
--     total, night_of      the sums of the answers
use Rattle.std.specs.Prelude.{ℕ, ℤ, ◌+◌, Bool, true, false, not, ◌||◌, List, [], ◌∷◌, ◌++◌, map, Some, None, Ok, Err}
use Rattle.std.specs.List.{filter, range_with_len}
use Rattle.wake_schedule.specs.declared.nights.Wakeup.{Wakeup}
use Rattle.wake_schedule.specs.declared.nights.Wakeup.TheVariants.{Nightly}
use Rattle.wake_schedule.specs.Nights.{is_nightly, wakeup_of}
use Rattle.office_model.specs.declared.event.Event.{Event}
use Rattle.office_model.specs.declared.event.Event.TheVariants as E
use Rattle.office_model.specs.declared.answer.Answer.{Answer}
use Rattle.office_model.specs.declared.answer.Answer.TheVariants as A
use Rattle.office_model.specs.Step.{Call}
use Rattle.call_scripts.specs.Scripts.{Script, each_of}
use Rattle.night_work.specs.declared.ends.Night.{Night}

-- ---- whether it is time

abbrev pub is_nightly_work : Wakeup → Bool
is_nightly_work Nightly = true
is_nightly_work _ = false

-- without the flag it always is; with it, in the minute of the nightly work
abbrev pub is_due : Bool → List ℕ → ℕ → Bool
is_due scheduled wake minute = not scheduled || is_nightly_work (wakeup_of wake minute)

-- ---- the calls

-- the buckets that the night of a day cleans, rising
abbrev pub night_buckets : ℤ → ℕ → List ℕ
night_buckets day period = filter (is_nightly day period) (range_with_len 0 16)

-- what is called once the names of the hosts are known: an expiry of each, a clean of each bucket, and a sweep
abbrev pub events_after : ℕ → List ℕ → List (List ℕ) → List Event
events_after moment buckets hosts = map (λ host. E.Expire host moment) hosts ++ (map E.Clean buckets ++ E.Sweep ∷ [])

-- the script of a night: first the hosts
abbrev pub night_script : ℕ → List ℕ → Script
night_script moment buckets [] = Some E.Hosts
night_script moment buckets ((asked, Ok (A.Hosts hosts)) ∷ calls) = each_of (events_after moment buckets hosts) calls
night_script moment buckets (call ∷ calls) = None

-- ---- the sums

abbrev pub expired_in : Answer → ℕ
expired_in (A.Expired count) = count
expired_in _ = 0

abbrev pub marked_in : Answer → ℕ
marked_in (A.Cleaned marked unmarked removed) = marked
marked_in _ = 0

abbrev pub unmarked_in : Answer → ℕ
unmarked_in (A.Cleaned marked unmarked removed) = unmarked
unmarked_in _ = 0

abbrev pub removed_in : Answer → ℕ
removed_in (A.Cleaned marked unmarked removed) = removed
removed_in _ = 0

-- the sum of what the answers count
abbrev pub total : (Answer → ℕ) → List Call → ℕ
total count [] = 0
total count ((event, Ok answer) ∷ calls) = count answer + total count calls
total count ((event, Err refusal) ∷ calls) = total count calls

abbrev pub night_of : ℤ → List Call → Night
night_of day calls = record {
  day = day;
  expired = total expired_in calls;
  marked = total marked_in calls;
  unmarked = total unmarked_in calls;
  removed = total removed_in calls;
}
